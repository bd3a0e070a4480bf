use Rattle.std.proofs.Common.{◌-◌, ℕ, refl, subst}
use Rattle.std.specs.Prelude.{nat_lt, slice_get}
use Rattle.resp_tap.specs.Counting.{CountsBy, IsAsked}
use Rattle.resp_tap.specs.Keeping.{KeptBy, new_words}
use Rattle.resp_tap.specs.declared.counted.Heard.{Heard}
use Rattle.resp_tap.proofs.KeptItems.{has_words, kept_by, none_gone}
use Rattle.resp_tap.proofs.counted.CountedTapWatching.watch_some.Goals as goal

pub returns-clause-watches : goal.returns-clause-watches
returns-clause-watches g c =
    let old = c.args.self.now in
    let f = old.filter in
    let client = c.args.given.printing.client in
    let items = old.kept.items in
    let next = c.step-next.result in
    let steps = c.step-next.ensures in
    let what = next.step.seen in
    let rows = c.args.counts.now.rows.items in
    let rows' = c.count-asked.new.counts.rows.items in
    let heard : Heard = record { bytes = next.size; is_error = c.is_error.result; waited = c.waited_of.result } in (
      what,
      (
        refl,
        next.is_line,
        next.size,
        record {
          seen = steps.sees;
          counts = record {
            heard = heard;
            is_heard = record {
              bytes = refl;
              error = c.is_error.ensures;
              asked = next.asked;
              of_command = steps.asked;
              delay = c.waited_of.ensures;
            };
            asked = subst (λ (t : ℕ × ℕ). KeptBy (IsAsked f client next.size t.0 items) (new_words (nat_lt t.0 t.1) what)
                (t.0 - t.1) items c.follow.new.kept.items) (λ i. (steps.before i, steps.left i))
                (kept_by (IsAsked f client next.size next.before items) _ (next.before - next.left)
                c.count-asked.result items c.follow.new.kept.items
                (λ words has. none_gone next.before next.left (has_words _ _ words has)) c.count-asked.ensures.asked
                c.follow.ensures);
            counts = subst (λ (t : ℕ × ℕ × ℕ). CountsBy f (new_words (nat_lt t.0 t.1) what) heard (t.0 - t.1)
                (slice_get items t.2) rows rows') (λ i. (steps.before i, steps.left i, steps.at i)) c.count-asked.ensures.rows;
          };
        },
        c.write_counted-printed.ensures,
      ),
    )
