use Rattle.std.proofs.Common.{◌≡◌, ◌≤◌, ◌+◌, ◌-◌, ◌++◌, ℕ, List, [], length, drop, ap, sym, subst, ◌∙◌, arith, append-nil}
use Rattle.std.proofs.lemmas.List.{drop_all}
use Rattle.resp_cli_stream.specs.Begun.{BeginsAt, HasReadOrRefused}
use Rattle.resp_cli_stream.specs.Explained.{IsPlace, rules_watched}
use Rattle.resp_cli_stream.specs.declared.watched.PlacedSource.{PlacedSource}
use Rattle.resp_io.specs.Devices.{last_count}
use Rattle.resp_value.specs.Rules.{Rules}
use Rattle.resp_cli_stream.proofs.watched.PlacedSource.place_of.Goals.{then-self-gt0, else-self-gt0}
use Rattle.resp_cli_stream.proofs.watched.PlacedSource.place_of.Goals as goal

-- the place in a text that begins with this many values
abbrev place_in : (r : Rules) (done bytes : List ℕ) (count start start' value at place : ℕ) → BeginsAt r done count start → done ≡ bytes →
    count + 1 ≡ value → start' ≡ start → (start' + at ≤ last_count → place ≡ start' + at) → IsPlace r bytes value at start' place
place_in r done bytes count start start' value at place b whole counted same placed = record {
  begins =
      let v = b.begins in
      record { values = v.values; front = v.front; rest = v.rest; spelled = v.spelled; whole = sym whole ∙ v.whole };
  counted = omega (arith, b.counted, counted);
  started = λ fits. same ∙ b.placed fits;
  placed = λ fits. let is = same ∙ b.placed (omega (arith, fits)) in placed (omega (arith, fits, is)) ∙ omega (arith, is);
}

pub returns-clause-place : goal.returns-clause-place
returns-clause-place g c = λ bytes h.
    let s = h c.if-self.false in
    let old = c.args.self.now in
    let new = c.if-self-gt0.self.starts in
    let gone : ℕ = length old.held.items - old.fresh in
    let r = rules_watched old in
    let value = c.args.value in
    let place = c.saturating_add.result in
    let counted : new.values + 1 ≡ value = omega (arith, c.values.ensures, c.if-values-value.false, c.if-value-eq0.false) in
    let placed : new.start + c.args.at ≤ last_count → place ≡ new.start + c.args.at = λ fits. omega (arith, fits, c.saturating_add.ensures, c.start.ensures) in
    elim c.if-self-gt0.branch [
      | then-self-gt0 w ↦
          let starts = ap (λ (z : PlacedSource g.row.R.Denot). z.starts) w.self-is in
          let fresh : w.last-fresh.result.now ≡ drop gone old.held.items =
          w.last-fresh.ensures ∙ ap (λ z. drop (length z - old.fresh) z) w.as_slice.ensures in
          let whole : s.done ++ w.last-fresh.result.now ≡ bytes = ap (λ z. s.done ++ z) fresh ∙ sym s.whole in
          let after = w.pass.new.self in
          record {
            is_place = place_in r (s.done ++ w.last-fresh.result.now) bytes after.values after.start new.start value c.args.at place
                (w.pass.ensures.begins s.done s.passed) whole (ap (λ z. z.values + 1) (sym starts) ∙ counted) (ap (λ z. z.start) starts) placed;
            come = λ none. absurd (omega (arith, none, w.if-self-gt0.true));
          }
      | else-self-gt0 w ↦
          let starts = ap (λ (z : PlacedSource g.row.R.Denot). z.starts) w.self-is in
          let none : drop gone old.held.items ≡ [] = drop_all gone old.held.items (omega (arith, w.if-self-gt0.false)) in
          let whole : s.done ≡ bytes = sym (append-nil s.done) ∙ ap (λ z. s.done ++ z) (sym none) ∙ sym s.whole in
          record {
            is_place = place_in r s.done bytes old.starts.values old.starts.start new.start value c.args.at place s.passed.stands whole
                (ap (λ z. z.values + 1) (sym starts) ∙ counted) (ap (λ z. z.start) starts) placed;
            come = λ none. subst (λ z. HasReadOrRefused z.scanner s.passed.stands.begins.rest) (sym starts) s.passed.come;
          }
    ]
