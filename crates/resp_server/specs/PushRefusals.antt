-- Why a session refuses a push.
use Rattle.std.specs.Prelude.{◌≡◌, ◌≢◌, true, false, Option, None, Some, Result, OnOk, IfErr, IsErrOf}
use Rattle.resp_value.specs.Bounds.{Bounds}
use Rattle.resp_value.specs.Canonical.{HasPushAtTop, AllowsDoubles, Fits, IsFirstOver}
use Rattle.resp_value.specs.Data.{Datum}
use Rattle.resp_value.specs.Rules.{rules_under}
use Rattle.resp_value.specs.declared.version.Version.TheVariants.{Two, Three}
use Rattle.resp_encode.specs.declared.error.EncodeError.{EncodeError}
use Rattle.resp_encode.specs.declared.error.EncodeError.TheVariants as encode
use Rattle.resp_server.specs.Hubs.{Seat}
use Rattle.resp_server.specs.declared.error.PushError.{PushError}
use Rattle.resp_server.specs.declared.error.PushError.TheVariants.{NoSession, Closing, NotInVersion, Double, NestedPush, OverLimits, OutOfMemory}

-- an open session of version 3
abbrev pub TakesPushes : Option Seat → Type 0
TakesPushes None = ⊥
TakesPushes (Some s) = (s.closing ≡ false) × (s.version ≡ Three)

-- the session refuses the push with this error, and no earlier error applies; `OutOfMemory` only if no other applies
abbrev pub HubRefusesPush : Bounds → Option Seat → Datum → PushError → Type 0
HubRefusesPush limits seat push NoSession = seat ≡ None
HubRefusesPush limits None push error = ⊥
HubRefusesPush limits (Some s) push Closing = s.closing ≡ true
HubRefusesPush limits (Some s) push NotInVersion = (s.closing ≡ false) × (s.version ≡ Two)
HubRefusesPush limits (Some s) push Double = TakesPushes (Some s) × (AllowsDoubles limits push → ⊥)
HubRefusesPush limits (Some s) push NestedPush =
    TakesPushes (Some s) × AllowsDoubles limits push × (HasPushAtTop push → ⊥)
HubRefusesPush limits (Some s) push (OverLimits limit) =
    TakesPushes (Some s) × AllowsDoubles limits push × HasPushAtTop push ×
    IsFirstOver (rules_under Three limits) push limit
HubRefusesPush limits (Some s) push OutOfMemory = TakesPushes (Some s) × Fits (rules_under Three limits) push

-- a push is queued if the session accepts pushes and the push is within the limits; otherwise it is refused with the
-- first error that applies, apart from `OutOfMemory`
pub record IsPushVerdict (limits : Bounds) (seat : Option Seat) (push : Datum) (result : Result (Unit {0}) PushError) :
    Type 0 where
  pub taken : OnOk result (TakesPushes seat × Fits (rules_under Three limits) push)
  pub first : IfErr result (HubRefusesPush limits seat push)
  pub every : (error : PushError) → error ≢ OutOfMemory → HubRefusesPush limits seat push error → IsErrOf result error

-- the error of a push for an error of the encoder
abbrev pub push_error : EncodeError → PushError
push_error encode.Double = Double
push_error encode.NotInVersion = NotInVersion
push_error encode.NestedPush = NestedPush
push_error (encode.OverLimits limit) = OverLimits limit
push_error encode.OutOfMemory = OutOfMemory
