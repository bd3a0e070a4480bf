use Rattle.std.proofs.Common.{◌≡◌, ◌∙◌, ◌-◌, ℕ, List, Option, ap, refl, subst}
use Rattle.std.specs.Prelude.{option_map, slice_get}
use Rattle.resp_tap.specs.Called.{CalledAfter, IsCalled, IsChosenCalled, name_of_called}
use Rattle.resp_tap.specs.JsonTaps.{called_of, kept_json}
use Rattle.resp_tap.specs.Taps.{tap_state}
use Rattle.resp_tap.specs.declared.called.Called.{Called}
use Rattle.resp_tap.specs.declared.json_line.Facts.{Facts}
use Rattle.resp_tap.proofs.KeptItems.{has_words, kept_at, kept_by, none_gone, prints_same}
use Rattle.resp_tap.proofs.json_tap.JsonTapWatching.watch_some.Goals as goal

pub returns-clause-watches : goal.returns-clause-watches
returns-clause-watches g c =
    let now = c.args.given.now in
    let old = c.args.self.now in
    let f = old.filter in
    let next = c.step-next.result in
    let steps = c.step-next.ensures in
    let what = next.step.seen in
    let is_line = next.is_line in
    let is_chosen = c.is_chosen_called-is_chosen.result in
    let called : option_map (λ called. called.now) c.get-called.result ≡ called_of old =
    kept_at old.kept.items next.at c.get-called.result c.get-called.ensures.item ∙ ap (slice_get old.kept.items) steps.at in
    let facts : Facts = record {
      client = c.args.given.printing.client;
      is_line = is_line;
      size = next.size;
      utc = now.utc.micros;
      waited = c.waited_of.result;
    } in (
      what,
      (
        refl,
        is_line,
        is_chosen,
        next.size,
        record {
          seen = steps.sees;
          chosen = subst (λ (kept : Option Called). IsChosenCalled f kept what is_chosen) called
              c.is_chosen_called-is_chosen.ensures;
          calls = subst (λ (t : ℕ × ℕ). CalledAfter is_chosen what t.0 t.1 old.kept.items c.follow.new.kept.items)
              (λ i. (steps.before i, steps.left i)) (kept_by (IsCalled is_chosen) _ (next.before - next.left)
              c.called_for-called.result old.kept.items c.follow.new.kept.items
              (λ words has. none_gone next.before next.left (has_words _ _ words has)) c.called_for-called.ensures
              c.follow.ensures);
        },
        record {
          asked = next.asked;
          of_command = steps.asked;
          facts = facts;
          are = ap (λ (waited : Option ℕ). record facts { waited = waited }) c.waited_of.ensures;
          text = λ whole kept. prints_same _ _ _ _ _ _ _ _
              (ap (λ (name : List ℕ). kept_json f facts is_chosen name whole what)
              (c.name_of_called-name.ensures ∙ ap name_of_called called))
              (c.write_kept-printed.ensures (tap_state old.connection.tap).kept whole kept);
        },
      ),
    )
