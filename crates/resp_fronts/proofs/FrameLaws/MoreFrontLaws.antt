-- The laws of first bytes and of the events due.
use Rattle.std.proofs.Common.{◌≡◌, ◌≢◌, ◌⊎◌, inl, inr, ℕ, true, false, eqb, None, Some, List, [], ◌∷◌, ◌++◌, refl, sym, ap, subst, ◌∙◌, arith, append-nil}
use Rattle.std.proofs.lemmas.Bool.Decides.{eqb_tells}
use Rattle.resp_value.specs.Trees.{text}
use Rattle.resp_value.specs.Rules.{Rules, Rule, Grammar, WithinItems}
use Rattle.resp_value.specs.Spellings.{IsViable, IsCause}
use Rattle.resp_value.proofs.FirstBytes.{byte_at_start}
use Rattle.resp_value.proofs.Unique.{not_close}
use Rattle.resp_fronts.specs.Laws.{AFirstByteHasItsCause, EventsDueSplit}
use Rattle.resp_fronts.specs.FirstByteRefusals.{first_byte_refusal}
use Rattle.resp_fronts.proofs.Refusals.FirstRuleBroken.{viable, grammar_cause}
use Rattle.resp_fronts.proofs.Between.BegunBetweenValues.{IsFrontAnswered, first_byte_cause}
use Rattle.resp_fronts.proofs.EventLaws.EventsDue.{front_events, due_around}

-- no text begins with `.`
stop_cause : (r : Rules) → IsCause r (46 ∷ []) Grammar
stop_cause r = grammar_cause r (46 ∷ []) (λ rest w. not_close w.tree [] rest (append-nil (text w.tree) ∙ w.whole))

-- a first byte has its cause
pub first_byte : AFirstByteHasItsCause
first_byte r byte bounds = cases (eqb_tells byte 46)
  where
    cases : ((eqb byte 46 ≡ true) × (byte ≡ 46)) ⊎ ((eqb byte 46 ≡ false) × (byte ≢ 46)) →
        ((rule : Rule) → first_byte_refusal r 0 byte ≡ Some rule → IsCause r (byte ∷ []) rule) ×
        (first_byte_refusal r 0 byte ≡ None → IsViable r WithinItems (byte ∷ []))
    cases (inl h) =
        let e : first_byte_refusal r 0 byte ≡ Some Grammar = ap (first_byte_refusal r 0) h.1 in (
          λ rule e2. let some : Some Grammar ≡ Some rule = sym e ∙ e2 in let same : Grammar ≡ rule = cc in
              subst (IsCause r (byte ∷ [])) same (subst (λ b. IsCause r (b ∷ []) Grammar) (sym h.1) (stop_cause r)),
          λ e2. let none : Some Grammar ≡ None = sym e ∙ e2 in absurd (cc),
        )
    cases (inr h) =
        let answered = first_byte_cause r [] [] byte bounds h.1 ([], tt, tt, refl) in (
          λ rule e. subst (IsFrontAnswered r [] [] byte) e answered,
          λ e. let g = subst (IsFrontAnswered r [] [] byte) e answered in
              viable r WithinItems (byte ∷ []) g.rest (omega arith)
              (record { tree = g.completes.tree; is_tree = g.completes.is_tree; keep = g.completes.keep; whole = g.completes.whole }),
        )

-- the events due of a front
pub events_due_split : EventsDueSplit
events_due_split frames begun rest whole are_open no_stop spells =
    let b = front_events frames begun rest whole are_open (no_stop_first (begun ++ rest) no_stop) spells.is_tree spells.spelled in
    (b.value, b.beyond, b.is_tree, b.begins, λ unfinished. due_around frames begun b.value whole b.all unfinished)
  where
    no_stop_first : (x : List ℕ) → ((beyond : List ℕ) → x ≡ 46 ∷ beyond → ⊥) → byte_at_start x ≡ 46 → ⊥
    no_stop_first [] h e = omega arith
    no_stop_first (c ∷ cs) h e = h cs (ap (λ z. z ∷ cs) e)
