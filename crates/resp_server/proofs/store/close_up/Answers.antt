use Rattle.std.proofs.Common.{◌<◌, ◌≤◌, Some, length, subst, sym, ap, ◌∙◌, arith, refl}
use Rattle.std.proofs.lemmas.List.{length-set}
use Rattle.std.proofs.lemmas.Option.{slice_get_read}
use Rattle.resp_server.specs.Entries.{AreInPlace, entries_in}
use Rattle.resp_server.proofs.ClosingUp.{begins, ends_as, ends_in_place, ends_with_few, goes_on, goes_past}
use Rattle.resp_server.proofs.store.close_up.Goals as goal
use Rattle.resp_server.proofs.store.close_up.Goals.{in-Some, in_default}

pub loop-place-init : goal.loop-place-init
loop-place-init g c = record { closing = begins c.requires; same_length = refl }

pub loop-place-preserved : goal.loop-place-preserved
loop-place-preserved g c =
    let l = c.loop-place in
    let places = l.places.items in
    let within : l.place < length places = let test = c.loop-place-test.true in let whole = c.len-place-end.ensures in
    let size = c.args.places.now.ok.0 in let same = l.invariant.same_length in omega (arith, test, whole, size, same) in
    let read = slice_get_read places (length places) l.place c.index.result.now refl within c.index.ensures in
    elim c.match-index.branch [
      | in-Some w ↦ record {
        closing = goes_on l.invariant.closing (read ∙ ap Some w.in-Some.is) _ _ _
            (λ key row found. ap (λ s. s.entries) w.rows-is ∙ w.move_row.ensures key row found) (ap (λ s. s.items) w.places-is) w.filled-is;
        same_length = ap (λ s. length s.items) w.places-is ∙ length-set places l.filled (Some w.in-Some.index) ∙ l.invariant.same_length;
      }
      | in_default w ↦ record {
        closing = goes_past l.invariant.closing (read ∙ ap Some w.in_default.is) (ap (λ s. s.entries) w.rows-is)
            (ap (λ s. s.items) w.places-is) w.filled-is;
        same_length = ap (λ s. length s.items) w.places-is ∙ l.invariant.same_length;
      }
    ]

pub returns-clause-same : goal.returns-clause-same
returns-clause-same g c =
    let l = c.loop-place in
    let past : length l.places.items ≤ l.place = let test = c.loop-place-test.false in let whole = c.len-place-end.ensures in
    let size = c.args.places.now.ok.0 in let same = l.invariant.same_length in omega (arith, test, whole, size, same) in
    ap (entries_in l.rows.entries) c.truncate.ensures.items ∙ ends_as l.invariant.closing past

pub returns-clause-in_place : goal.returns-clause-in_place
returns-clause-in_place g c =
    let l = c.loop-place in
    let past : length l.places.items ≤ l.place = let test = c.loop-place-test.false in let whole = c.len-place-end.ensures in
    let size = c.args.places.now.ok.0 in let same = l.invariant.same_length in omega (arith, test, whole, size, same) in
    subst (AreInPlace l.rows.entries) (sym c.truncate.ensures.items) (ends_in_place l.invariant.closing past)

pub returns-clause-few : goal.returns-clause-few
returns-clause-few g c =
    let l = c.loop-place in
    let few = ends_with_few l.invariant.closing in
    let left = ap length c.truncate.ensures.items in
    omega (arith, few, left)
