-- The results of the machine for a step into a slot.
use Rattle.std.specs.Prelude.{◌≡◌, ℕ, List, Option, None, Some, Result, Ok, Err}
use Rattle.resp_scan.specs.declared.event.Event.{Event}
use Rattle.resp_scan.specs.declared.event.Fault.{Fault}
use Rattle.resp_scan.specs.declared.event.Step.{Step}
use Rattle.resp_scan.specs.declared.event.TextKind.{TextKind}
use Rattle.resp_scan.specs.declared.machine.Machine.{Machine}
use Rattle.resp_scan.specs.Machine.Passing.{Passes}
use Rattle.resp_scan.specs.Machine.Tokens.{Place}

-- a slot shows the event of a step, or is left as it was
abbrev pub FillsEvent : (Event → Type 0) → Type 0 → ℕ → Option Event → Result (Option ℕ) Fault → Type 0
FillsEvent Shows IsLeft used (Some x) result = (result ≡ Ok (Some used)) × Shows x
FillsEvent Shows IsLeft used None result = (result ≡ Ok None) × IsLeft

abbrev pub FillsStep : (Event → Type 0) → Type 0 → Result Step Fault → Result (Option ℕ) Fault → Type 0
FillsStep Shows IsLeft (Ok step) result = FillsEvent Shows IsLeft step.used step.event result
FillsStep Shows IsLeft (Err fault) result = (result ≡ Err fault) × IsLeft

-- the result of a step into a slot
abbrev pub FillsSlot : (Event → Type 0) → (TextKind → List ℕ → Type 0) → Type 0 → Place → Machine → List ℕ →
    Result (Option ℕ) Fault → Type 0
FillsSlot Shows ShowsText IsLeft s m piece result =
    Passes (λ step. FillsStep Shows IsLeft step result)
    (λ used kind bytes. (result ≡ Ok (Some used)) × ShowsText kind bytes) s m piece
