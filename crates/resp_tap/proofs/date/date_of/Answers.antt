use Rattle.std.proofs.Common.{◌≡◌, ◌+◌, ◌-◌, ◌≤◌, ℕ, ap, refl, arith, subst, sym, ◌∙◌}
use Rattle.resp_tap.specs.Dates.{first_of, later, month_after, month_length}
use Rattle.resp_tap.specs.declared.date.Date.{Date}
use Rattle.resp_tap.proofs.DateLemmas.{begins_at, later_more, left_after, next_month, on, some_day, within_month}
use Rattle.resp_tap.proofs.date.date_of.Goals as goal
use Rattle.resp_tap.proofs.date.date_of.Invariants.{IsLeft}

pub loop-left-init : goal.loop-left-init
loop-left-init c =
    let days = c.args.days in
    let past = c.days_of_years.result in
    let within : past ≤ days = omega (arith, c.days_of_years.ensures.within) in record {
      first = refl;
      same = ap (later (days - past)) (sym c.days_of_years.ensures.is_start) ∙
          sym (later_more past (days - past) (first_of 1970 1)) ∙
          ap (λ n. later n (first_of 1970 1)) (let s : past + (days - past) ≡ days = omega (arith, within) in s);
      bound = omega (arith, within);
    }

pub month_after-date-requires : goal.month_after-date-requires
month_after-date-requires c = omega (arith, c.loop-left.invariant.bound, c.requires)

pub loop-left-preserved : goal.loop-left-preserved
loop-left-preserved c =
    let days = c.args.days in
    let left = c.loop-left.left in
    let year = c.loop-left.date.year in
    let month = c.loop-left.date.month in
    let length = month_length year month in
    let enough : length ≤ left = omega (arith, c.month_length.ensures, c.loop-left-test.true) in
    let step : IsLeft days (left - length) (month_after year month).year (month_after year month).month (month_after year month).day = record {
      first = begins_at year month;
      same = left_after days left year month enough c.loop-left.invariant.same;
      bound = omega (arith, enough, some_day year month, next_month year month, c.loop-left.invariant.bound);
    } in
    subst (λ (n : ℕ). IsLeft days (left - n) c.month_after-date.result.year c.month_after-date.result.month c.month_after-date.result.day)
    (sym c.month_length-left.ensures)
    (subst (λ (d : Date). IsLeft days (left - length) d.year d.month d.day) (sym c.month_after-date.ensures) step)

pub returns : goal.returns
returns c =
    let left = c.loop-left.left in
    let year = c.loop-left.date.year in
    let month = c.loop-left.date.month in
    ap (on year month) (let e : left + 1 ≡ 1 + left = omega arith in e) ∙
    sym (within_month left year month 1 (omega (arith, c.month_length.ensures, c.loop-left-test.false))) ∙
    c.loop-left.invariant.same
