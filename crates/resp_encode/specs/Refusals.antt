-- The faults for which a value is not encoded.
use Rattle.std.specs.Prelude.{ℕ}
use Rattle.resp_value.specs.Data.{Datum}
use Rattle.resp_value.specs.Rules.{Rules}
use Rattle.resp_value.specs.Canonical.{HasTypes, HasPushAtTop, AllowsDoubles, Fits, IsFirstOver}
use Rattle.resp_value.specs.declared.version.Version.{Version}
use Rattle.resp_encode.specs.declared.error.EncodeError.{EncodeError}
use Rattle.resp_encode.specs.declared.error.EncodeError.TheVariants.{Double, NotInVersion, NestedPush, OverLimits, OutOfMemory}
use Rattle.resp_encode.specs.declared.error.EncodeToError.{EncodeToError}
use Rattle.resp_encode.specs.declared.error.EncodeToError.TheVariants.{Refused, Write}

-- the version has each type in the value, and the value holds no push inside another value
abbrev pub HasText : Version → Datum → Type 0
HasText version x = HasTypes version x × HasPushAtTop x

-- the value has this fault, and no fault before it; `OutOfMemory` applies only if the value has no fault
abbrev pub IsFirstFault : Rules → Datum → EncodeError → Type 0
IsFirstFault rules x Double = AllowsDoubles rules.limits x → ⊥
IsFirstFault rules x NotInVersion = AllowsDoubles rules.limits x × (HasTypes rules.version x → ⊥)
IsFirstFault rules x NestedPush = AllowsDoubles rules.limits x × HasTypes rules.version x × (HasPushAtTop x → ⊥)
IsFirstFault rules x (OverLimits over) = AllowsDoubles rules.limits x × HasText rules.version x ×
    IsFirstOver rules x over
IsFirstFault rules x OutOfMemory = Fits rules x

-- the value has the fault of the error, or has no fault if a write failed, because nothing is written before all faults
-- are checked
abbrev pub IsFirstRefusal : Rules → Datum → EncodeToError → Type 0
IsFirstRefusal rules x (Refused error) = IsFirstFault rules x error
IsFirstRefusal rules x (Write written) = Fits rules x

-- this holds of the number of bytes that were written, if a write failed
abbrev pub IfWrite : (ℕ → Type 0) → EncodeToError → Type 0
IfWrite P (Refused error) = Unit {0}
IfWrite P (Write written) = P written
