-- Of a viable text whose due events were given without a Done, no front is a spelling.
use Rattle.std.specs.Prelude.{take, drop, cond, ltb, false, true, Bool, IfOk, Result, Ok, Err}
use Rattle.std.proofs.Common.{◌≡◌, refl, ℕ, zero, suc, ◌+◌, ◌<◌, ◌≤◌, List, [], ◌∷◌, ◌++◌, length, sym, ap, subst, ◌∙◌, arith, append_assoc, append-nil, length-append}
use Rattle.std.proofs.lemmas.Grind.{common_steps}
use Rattle.std.proofs.lemmas.List.{take_all}
use Rattle.resp_value.specs.declared.cause.Cause.{Cause}
use Rattle.resp_value.specs.Rules.{Rules, WithinTotal}
use Rattle.resp_value.proofs.SpellingLaws.{up_to_total}
use Rattle.resp_scan.specs.Kinds.{IsRefusedFor}
use Rattle.resp_value.specs.Spellings.{IsViable}
use Rattle.resp_value.specs.Trees.{Spells, Tree, text}
use Rattle.resp_value.proofs.Unique.{unique}
use Rattle.resp_fronts.specs.Events as e
use Rattle.resp_fronts.specs.Events.{all_events, events, events_due, last_of}
use Rattle.resp_fronts.proofs.EventLaws.EventsDue.{due-append}
use Rattle.resp_value.proofs.DefaultLimits.{text_at_least}
use Rattle.resp_scan.specs.Listening.{HearsValue, IfWhole}
use Rattle.resp_scan.specs.Machine.Tokens.{Place}
use Rattle.resp_scan.specs.Reading.{AreDue, Events, HasNoDone, HasNoSpelling, HasNoValue}
use Rattle.resp_scan.specs.declared.event.ScanError.{ScanError}
use Rattle.resp_scan.specs.declared.event.Scanned.{Scanned}
use Rattle.resp_scan.proofs.DueEvents.NoDone.{no_done_after}
use Rattle.resp_value.proofs.Choices.{if_below, if_within}

-- a list, cut
take-drop : (n : ℕ) (xs : List ℕ) → take n xs ++ drop n xs ≡ xs
take-drop n xs = grind (arith, common_steps)

-- at the end of a value its Done is due
done_is_due : (t : Tree) → HasNoDone (events_due (length (text t)) (all_events t)) → ⊥
done_is_due t h =
    let n = length (text t) in
    let last = record { at = last_of 0 (text t); event = e.Done } ∷ [] in
    let z = no_done_after (events_due n (events 0 t)) (events_due n last) (subst HasNoDone (due-append n (events 0 t) last) h) in
    not_due (last_of 0 (text t)) n (omega (arith, text_at_least t)) z
  where
    not_due : (at n : ℕ) → at < n → HasNoDone (cond (ltb at n) (e.Done ∷ []) []) → ⊥
    not_due at n below = if_below at n (λ x. HasNoDone (cond x (e.Done ∷ []) []) → ⊥) (λ y h. h.0) (λ beyond h. omega (arith, below, beyond))

-- no front of the text is a spelling
pub no_value : (r : Rules) (front : List ℕ) (es : List e.Event) → IsViable r WithinTotal front → AreDue front es → HasNoDone es → HasNoValue front
no_value r front es viable due none n tree spells =
    let rest = drop n front ++ viable.rest in
    let parts : take n front ++ rest ≡ front ++ viable.rest =
    sym (append_assoc (take n front) (drop n front) viable.rest) ∙ ap (λ z. z ++ viable.rest) (take-drop n front) in
    let u = unique tree viable.tree rest [] spells.is_tree viable.spells.is_tree
    (ap (λ z. z ++ rest) spells.spelled ∙ parts ∙ sym viable.spells.spelled ∙ sym (append-nil (text viable.tree))) in
    let empty : viable.rest ≡ [] = no_rest (drop n front) viable.rest u.1 in
    let whole : Spells viable.tree (front ++ []) = subst (λ z. Spells viable.tree (front ++ z)) empty viable.spells in
    let size : length front ≡ length (text viable.tree) = omega (arith, ap length whole.spelled, length-append front []) in
    done_is_due viable.tree (subst HasNoDone (sym (due [] viable.tree whole) ∙ ap (λ m. events_due m (all_events viable.tree)) size) none)
  where
    no_rest : (a b : List ℕ) → a ++ b ≡ [] → b ≡ []
    no_rest [] b h = h
    no_rest (x ∷ a) b h = absurd (omega (arith, ap length h))

-- Where the text stops being viable after such a front, no front of the whole text is a spelling within the rules.
pub no_spelling : (r : Rules) (written : List ℕ) (at : ℕ) (c : Cause) → HasNoValue (take at written) → IsRefusedFor r (take (at + 1) written) c →
    HasNoSpelling r written
no_spelling r written at c none refused n x = if_within n at (λ b. ⊥)
    (λ within. none n x.tree (subst (Spells x.tree) (shorter within) x.spells))
    (λ longer. refused.cause.not_viable (record {
      rest = drop (at + 1) (take n written);
      tree = x.tree;
      spells = subst (Spells x.tree) (sym (parts longer)) x.spells;
      keeps = λ earlier fits. x.keeps earlier (up_to_total earlier);
    }))
  where
    shorter : n ≤ at → take n written ≡ take n (take at written)
    shorter within = grind (arith, common_steps)

    parts : at < n → take (at + 1) written ++ drop (at + 1) (take n written) ≡ take n written
    parts longer = ap (λ z. z ++ drop (at + 1) (take n written)) (again longer) ∙ take-drop (at + 1) (take n written)
      where
        again : at < n → take (at + 1) written ≡ take (at + 1) (take n written)
        again longer = grind (arith, common_steps)

-- a value that ends in the piece uses a byte of it where none has ended before
value_uses_bytes : (r : Rules) (s : Place) (HasHeard : Events → Type 0) (front piece : List ℕ) (used : ℕ) → HasNoValue front →
    HearsValue r s HasHeard (front ++ take used piece) → 0 < used
value_uses_bytes r s HasHeard front piece (suc used) none heard = omega arith
value_uses_bytes r s HasHeard front piece zero none heard =
    absurd (none (length front) heard.is_value.tree
    (subst (Spells heard.is_value.tree) (append-nil front ∙ sym (take_all (length front) front (omega arith))) heard.is_value.spells))

-- and one that is used up uses all
pub uses_bytes : (r : Rules) (s : Place) (HasHeard : Events → Type 0) (front piece : List ℕ) (result : Result Scanned ScanError) → HasNoValue front →
    IfWhole result (λ used. HearsValue r s HasHeard (front ++ take used piece)) →
    IfOk result (λ scanned. scanned.is_whole ≡ false → scanned.used ≡ length piece) →
    IfOk result (λ scanned. 0 < length piece → 0 < scanned.used)
uses_bytes r s HasHeard front piece (Err stop) none whole up = tt
uses_bytes r s HasHeard front piece (Ok scanned) none whole up = λ some. case scanned.is_whole refl some
  where
    case : (is_whole : Bool) → scanned.is_whole ≡ is_whole → 0 < length piece → 0 < scanned.used
    case true is some = value_uses_bytes r s HasHeard front piece scanned.used none (whole is)
    case false is some = omega (arith, up is)
