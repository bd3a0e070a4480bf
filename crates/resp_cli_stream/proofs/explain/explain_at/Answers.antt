use Rattle.std.proofs.Common.{◌≡◌, ◌+◌, ◌≤◌, Err, Ok, OnOk, Result, length, length-append, refl, take, drop, option_map, subst, sym, ap, arith, ◌∙◌}
use Rattle.resp_cli_stream.specs.Explained.{AreAround, IsHeld, held_bytes, reason_text}
use Rattle.resp_fronts.specs.LeastCompletions.{IsLeast}
use Rattle.resp_io.specs.Devices.{last_count}
use Rattle.resp_value.specs.Rules.{WithinTotal, rules_under}
use Rattle.resp_value.specs.Spellings.{IsViable}
use Rattle.resp_cli_stream.proofs.ValidLemmas.{hints_reason, is_text, of_text, says_reason}
use Rattle.resp_cli_stream.proofs.explain.explain_at.Goals as goal

on_ok : {X E : Type 0} (result : Result X E) (P Q : Type 0) → (P → Q) → OnOk result P → OnOk result Q
on_ok (Ok x) P Q follows is = follows is
on_ok (Err error) P Q follows is = tt

pub returns-clause-explains : goal.returns-clause-explains
returns-clause-explains g c = λ bytes h scanned. on_ok c.write_around.result _ _ (λ told.
    let before = c.around.result.0.now in
    let after = c.around.result.1.now in
    let r = rules_under c.args.options.now.version c.args.options.now.limits in
    let missing = c.missing-missing.result in
    let next = c.in_ok-next.next in
    let hint = c.hint_at.result in
    let sentence = reason_text r missing after c.args.error.now next in
    let found = c.in-Some.ensures.place bytes h in
    let place = found.is_place in
    let holds = c.in-Some.ensures.holds bytes h refl in
    let held = held_bytes c.args.watched.now in
    let same = c.in-Some.ensures.same_rules in
    let size : length bytes ≡ length place.begins.front + length place.begins.rest = ap (λ z. length z) place.begins.whole ∙ length-append place.begins.front place.begins.rest in
    let begins = λ (fits : length bytes ≤ last_count). place.started (omega (arith, fits, size)) in
    let front = λ (fits : length bytes ≤ last_count). of_text c.front-front.result (λ text. text ≡ take c.args.at (drop (length place.begins.front) bytes))
    (c.front-front.ensures.front bytes place.begins.front holds fits (begins fits)) in
    let kept = λ (fits : length bytes ≤ last_count) (is_held : IsHeld held bytes place.begins.front c.args.at). is_text c.front-front.result
    (c.front-front.ensures.none bytes place.begins.front holds (begins fits)
    (subst (λ n. IsHeld n bytes place.begins.front c.args.at) (sym c.in-Some.ensures.same_size) is_held)) in
    record {
      start = c.place_of.new.self.starts.start;
      place = c.in-Some.place;
      is_place = place;
      before = before;
      after = after;
      are_around = λ fits. subst (λ n. AreAround n bytes c.in-Some.place before after) c.in-Some.ensures.same_size (c.around.ensures bytes holds fits);
      missing = missing;
      counted = λ truncated viable. subst (λ z. IsLeast z place.begins.rest missing) same
          (c.missing-missing.ensures place.begins.rest (found.come (scanned truncated)) (subst (λ z. IsViable z WithinTotal place.begins.rest) (sym same) viable));
      sentence = sentence;
      says = λ fits. says_reason r held bytes place.begins.front place.begins.rest c.args.at missing after c.args.error.now place.begins.whole
          (option_map (λ text. text.now) c.front-front.result) (front fits) (kept fits) next c.in_ok-next.ensures;
      hint = hint;
      hints = λ fits. hints_reason r held bytes place.begins.front place.begins.rest c.args.at missing after c.args.error.now place.begins.whole
          (option_map (λ text. text.now) c.front-front.result) (front fits) (kept fits) hint c.hint_at.ensures;
      told = told;
    }) c.write_around.ensures.lines
