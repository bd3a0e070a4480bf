-- The verdict over a value that fits.
use Rattle.std.proofs.Common.{◌≢◌, arith, refl, Ok}
use Rattle.resp_value.specs.Data.{Datum}
use Rattle.resp_value.specs.Rules.{Rules}
use Rattle.resp_value.specs.Canonical.{IsValue, Fits}
use Rattle.resp_value.specs.declared.cause.Limit.TheVariants.{Depth, Length, Items, Total}
use Rattle.resp_encode.specs.Encodings.{IsVerdict}
use Rattle.resp_encode.specs.Refusals.{IsFirstFault}
use Rattle.resp_encode.specs.declared.error.EncodeError.{EncodeError}
use Rattle.resp_encode.specs.declared.error.EncodeError.TheVariants.{Double, NotInVersion, NestedPush, OverLimits, OutOfMemory}
use Rattle.resp_encode.proofs.Texts.{spells_if_fits}

-- a value that fits has no fault
no_fault_of_fitting : (rules : Rules) (x : Datum) (error : EncodeError) → Fits rules x → error ≢ OutOfMemory →
    IsFirstFault rules x error → ⊥
no_fault_of_fitting rules x Double fits other fault = fault fits.allows_doubles
no_fault_of_fitting rules x NotInVersion fits other fault = fault.1 fits.has_types
no_fault_of_fitting rules x NestedPush fits other fault = fault.2 fits.push_at_top
no_fault_of_fitting rules x (OverLimits Depth) fits other fault = omega (arith, fits.within_depth, fault.2)
no_fault_of_fitting rules x (OverLimits Length) fits other fault = omega (arith, fits.within_length, fault.2.1)
no_fault_of_fitting rules x (OverLimits Items) fits other fault = omega (arith, fits.within_items, fault.2.2)
no_fault_of_fitting rules x (OverLimits Total) fits other fault = omega (arith, fits.within_total, fault.2.3)
no_fault_of_fitting rules x OutOfMemory fits other fault = other refl

-- a value that fits is rightly taken
pub verdict_of_fitting : {T : Type 0} (rules : Rules) (x : Datum) (answer : T) → IsValue x → Fits rules x →
    IsVerdict {T = T} rules x (Ok answer)
verdict_of_fitting rules x answer value fits = record {
  fits = fits;
  spelling = spells_if_fits rules x value fits;
  first_fault = tt;
  every_fault = λ error other fault. absurd (no_fault_of_fitting rules x error fits other fault);
}
