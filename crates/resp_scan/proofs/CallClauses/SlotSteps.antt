-- One step into a slot, which tells a text with its end.
use Rattle.std.specs.Prelude.{Option, None, Some, Result, Ok, Err, IfErr}
use Rattle.std.proofs.Common.{◌≡◌, ◌⊎◌, inl, inr, ℕ, List, length, refl, sym, subst}
use Rattle.resp_value.specs.Bytes.{IsText}
use Rattle.resp_scan.specs.declared.event.Event.{Event}
use Rattle.resp_scan.specs.declared.event.Fault.{Fault}
use Rattle.resp_scan.specs.declared.event.Step.{Step}
use Rattle.resp_scan.specs.declared.event.TextKind.{TextKind}
use Rattle.resp_scan.specs.declared.machine.Machine.{Machine}
use Rattle.resp_scan.specs.Machine.Fields.{place_of}
use Rattle.resp_scan.specs.Machine.Passing.{Passes, StepAnswers}
use Rattle.resp_scan.specs.Machine.Slots.{FillsEvent, FillsSlot, FillsStep}
use Rattle.resp_scan.specs.Machine.Sound.{IsSound}
use Rattle.resp_scan.specs.Machine.Tokens.{Place}
use Rattle.resp_scan.specs.Slots.{IfNothingShown, IfNotShown, IfShown, ShowsEvent, ShowsText, Steps}
use Rattle.resp_scan.proofs.CallClauses.Passing.{sound_step, steps_are}

-- The slot of the call shows what the slot of its turn shows.
pub turn_fills : (Same : Type 0) (E E' : Event → Type 0) (T T' : TextKind → List ℕ → Type 0) (IsLeft WasLeft : Type 0) (s : Place) (m : Machine) (p : List ℕ)
    (result : Result (Option ℕ) Fault) → (Same → (x : Event) → E' x → E x) → (Same → (k : TextKind) (bytes : List ℕ) → T' k bytes → T k bytes) →
    (Same → IsLeft → WasLeft) →
    Passes (λ step. Same × FillsStep E' IsLeft step result) (λ used k bytes. Same × (result ≡ Ok (Some used)) × T' k bytes) s m p →
    FillsSlot E T WasLeft s m p result
turn_fills Same E E' T T' IsLeft WasLeft s m p result event text left (inl h) =
    inl (record { step = h.step; takes = by_step h.step h.takes.1; answers = h.answers })
  where
    by_event : (used : ℕ) (x : Option Event) → FillsEvent E' IsLeft used x result → FillsEvent E WasLeft used x result
    by_event used (Some x) takes = (takes.0, event h.takes.0 x takes.1)
    by_event used None takes = (takes.0, left h.takes.0 takes.1)

    by_step : (step : Result Step Fault) → FillsStep E' IsLeft step result → FillsStep E WasLeft step result
    by_step (Ok step) takes = by_event step.used step.event takes
    by_step (Err fault) takes = (takes.0, left h.takes.0 takes.1)
turn_fills Same E E' T T' IsLeft WasLeft s m p result event text left (inr h) = inr (record {
  used = h.used;
  kind = h.kind;
  bytes = h.bytes;
  is_text = h.is_text;
  takes = (h.takes.1, text h.takes.0 h.kind h.bytes h.takes.2);
  tells = h.tells;
})

-- The place after a step into a slot is sound.
pub sound_after : (E : Event → Type 0) (T : TextKind → List ℕ → Type 0) (IsLeft : Type 0) (result : Result (Option ℕ) Fault) (s : Place) (m : Machine)
    (p : List ℕ) → IsSound s → FillsSlot E T IsLeft s m p result → IsSound (place_of m)
sound_after E T IsLeft result s m p sound (inl h) = sound_step h.step s m p sound h.answers
sound_after E T IsLeft result s m p sound (inr h) = h.tells.sound

-- The clauses of the call.

-- all of them
pub record IsFilled (E : Event → Type 0) (T : TextKind → List ℕ → Type 0) (IsLeft : Type 0) (s t : Place) (p : List ℕ) (result : Result (Option ℕ) Fault) :
    Type 0 where
  pub shown : IfShown result (λ used. ShowsEvent E s t p used ⊎ ShowsText T s t p used)
  pub used_up : IfNothingShown result (Steps s t p (Ok (record { used = length p; event = None })))
  pub refused : IfErr result (λ fault. Steps s t p (Err fault))
  pub left : IfNotShown result IsLeft

pub is_filled : (E : Event → Type 0) (T : TextKind → List ℕ → Type 0) (IsLeft : Type 0) (result : Result (Option ℕ) Fault) (s : Place) (m : Machine)
    (p : List ℕ) → IsText p → IsSound s → FillsSlot E T IsLeft s m p result → IsFilled E T IsLeft s (place_of m) p result
is_filled E T IsLeft result s m p text sound (inl h) = by_step h.step h.takes h.answers
  where
    by_event : (used : ℕ) (x : Option Event) → FillsEvent E IsLeft used x result → StepAnswers s m p (Ok (record { used = used; event = x })) →
        IsFilled E T IsLeft s (place_of m) p result
    by_event used (Some x) takes answers = subst (IsFilled E T IsLeft s (place_of m) p) (sym takes.0) (record {
      shown = inl (record { event = x; shows = takes.1; steps = steps_are _ s m p text sound answers });
      used_up = tt;
      refused = tt;
      left = tt;
    })
    by_event used None takes answers = subst (IsFilled E T IsLeft s (place_of m) p) (sym takes.0) (record {
      shown = tt;
      used_up = subst (λ n. Steps s (place_of m) p (Ok (record { used = n; event = None }))) (answers.whole_piece refl)
          (steps_are _ s m p text sound answers);
      refused = tt;
      left = takes.1;
    })

    by_step : (step : Result Step Fault) → FillsStep E IsLeft step result → StepAnswers s m p step → IsFilled E T IsLeft s (place_of m) p result
    by_step (Ok step) takes answers = by_event step.used step.event takes answers
    by_step (Err fault) takes answers = subst (IsFilled E T IsLeft s (place_of m) p) (sym takes.0) (record {
      shown = tt;
      used_up = tt;
      refused = steps_are (Err fault) s m p text sound answers;
      left = takes.1;
    })
is_filled E T IsLeft result s m p text sound (inr h) = subst (IsFilled E T IsLeft s (place_of m) p) (sym h.takes.0) (record {
  shown = inr (record {
    kind = h.kind;
    bytes = h.bytes;
    is_text = h.is_text;
    shows = h.takes.1;
    steps = h.tells.steps;
  });
  used_up = tt;
  refused = tt;
  left = tt;
})
