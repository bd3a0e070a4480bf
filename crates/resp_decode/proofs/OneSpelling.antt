-- A text that spells one value is read as that value, and nothing is left after it.
use Rattle.std.proofs.Common.{◌≡◌, inl, inr, ℕ, List, [], ◌∷◌, ◌++◌, length, refl, sym, ap, subst, ◌∙◌, append_assoc, length-append, arith}
use Rattle.std.proofs.lemmas.List.{append-nil, take_all}
use Rattle.resp_value.specs.Data.{Datum}
use Rattle.resp_value.specs.Laws.{NoSpellingBeginsAnother, NoSpellingIsEmpty}
use Rattle.resp_value.specs.Rules.{Rules}
use Rattle.resp_value.specs.Trees.{Spells}
use Rattle.resp_value.specs.Spellings.{IsSpelling, AreSpellings}
use Rattle.resp_value.specs.declared.cause.Cause.TheVariants as cause
use Rattle.resp_scan.specs.declared.event.Fault.{Fault}
use Rattle.resp_decode.specs.Inputs.{RefusesInput, RefusesRest}
use Rattle.resp_decode.specs.declared.all.AllFault.{AllFault}

-- two lists that are empty side by side
both_empty : (p q : List ℕ) → [] ≡ p ++ q → (p ≡ []) × (q ≡ [])
both_empty [] q e = (refl, sym e)
both_empty (byte ∷ p) q e = absurd (omega (arith, ap length e))

-- no value is spelled by nothing
no_values : NoSpellingIsEmpty → (r : Rules) (values : List Datum) → AreSpellings r values [] → values ≡ []
no_values empty r [] are = refl
no_values empty r (y ∷ ys) are =
    let (front, rest, is, more, e) = are in
    absurd (empty r y (subst (IsSpelling r y) (both_empty front rest e).0 is))

-- the values before a rest of the text are its own value, and the rest is empty, where there are any
pub record IsAlone (x : Datum) (values : List Datum) (rest : List ℕ) : Type 0 where
  pub value : values ≡ x ∷ []
  pub nothing_left : rest ≡ []

alone : NoSpellingBeginsAnother → NoSpellingIsEmpty → (r : Rules) (x y : Datum) (ys : List Datum) (text front rest : List ℕ) → IsSpelling r x text →
    AreSpellings r (y ∷ ys) front → text ≡ front ++ rest → IsAlone x (y ∷ ys) rest
alone begins empty r x y ys text front rest is are whole =
    let (first, others, is_first, are_others, e) = are in
    let sides : text ++ [] ≡ first ++ (others ++ rest) =
    append-nil text ∙ whole ∙ ap (λ z. z ++ rest) e ∙ append_assoc first others rest in
    let same = begins r r x y text first [] (others ++ rest) is is_first sides in
    let none = both_empty others rest same.2 in
    record {
      value = ap (λ z. z ∷ ys) (sym same.0)
          ∙ ap (λ zs. x ∷ zs) (no_values empty r ys (subst (AreSpellings r ys) none.0 are_others));
      nothing_left = none.1;
    }

pub read_as_its_value : NoSpellingBeginsAnother → NoSpellingIsEmpty → (r : Rules) (x : Datum) (text : List ℕ) (values : List Datum) →
    IsSpelling r x text → AreSpellings r values text → values ≡ x ∷ []
read_as_its_value begins empty r x text [] is are = absurd (empty r x (subst (IsSpelling r x) are is))
read_as_its_value begins empty r x text (y ∷ ys) is are =
    (alone begins empty r x y ys text text [] is are (sym (append-nil text))).value

-- the text of a value isn't refused as a rest
not_refused : (r : Rules) (x : Datum) (text : List ℕ) (fault : Fault) → IsSpelling r x text → RefusesRest r text fault →
    fault.cause ≡ cause.OutOfMemory
not_refused r x text fault is (inl refused) =
    absurd (refused.no_value (length text)
    (record { tree = is.tree; spells = subst (Spells is.tree) (sym (take_all (length text) text (omega arith))) is.spells; keeps = is.keeps }))
not_refused r x text fault is (inr (inl ends)) =
    absurd (ends.no_value (length text) is.tree (subst (Spells is.tree) (sym (take_all (length text) text (omega arith))) is.spells))
not_refused r x text fault is (inr (inr (inl lacks))) = lacks.names
not_refused r x text fault is (inr (inr (inr lacks))) = lacks.names

-- neither is nothing at all
nothing_refused : (r : Rules) (rest : List ℕ) (fault : Fault) → rest ≡ [] → RefusesRest r rest fault →
    fault.cause ≡ cause.OutOfMemory
nothing_refused r rest fault none (inl refused) =
    let f = refused.fault_of in
    absurd (omega (arith, f.place, ap length f.whole, ap length none, length-append f.front f.beyond))
nothing_refused r rest fault none (inr (inl ends)) = absurd (omega (arith, ends.begun, ap length none))
nothing_refused r rest fault none (inr (inr (inl lacks))) = lacks.names
nothing_refused r rest fault none (inr (inr (inr lacks))) = lacks.names

-- the text of a value isn't refused after such values
refused_after : NoSpellingBeginsAnother → NoSpellingIsEmpty → (r : Rules) (x : Datum) (text : List ℕ) (fault : Fault) (values : List Datum)
    (front rest : List ℕ) → IsSpelling r x text → AreSpellings r values front → text ≡ front ++ rest → RefusesRest r rest fault →
    fault.cause ≡ cause.OutOfMemory
refused_after begins empty r x text fault [] front rest is are whole refused =
    not_refused r x text fault is (subst (λ z. RefusesRest r z fault) (sym (whole ∙ ap (λ z. z ++ rest) are)) refused)
refused_after begins empty r x text fault (y ∷ ys) front rest is are whole refused =
    nothing_refused r rest fault (alone begins empty r x y ys text front rest is are whole).nothing_left refused

pub refused_for_memory_alone : NoSpellingBeginsAnother → NoSpellingIsEmpty → (r : Rules) (x : Datum) (text : List ℕ) (refusal : AllFault) →
    IsSpelling r x text → RefusesInput r text refusal → refusal.fault.cause ≡ cause.OutOfMemory
refused_for_memory_alone begins empty r x text refusal is h =
    refused_after begins empty r x text refusal.fault h.values h.front h.rest is h.spelled h.whole h.refused
