-- Verdicts on pushes.
use Rattle.std.proofs.Common.{◌≡◌, Option, None, Err, IsErrOf, refl, subst}
use Rattle.resp_value.specs.Bounds.{Bounds}
use Rattle.resp_value.specs.Data.{Datum}
use Rattle.resp_server.specs.Hubs.{Seat}
use Rattle.resp_server.specs.PushRefusals.{HubRefusesPush, IsPushVerdict}
use Rattle.resp_server.specs.declared.error.PushError.{PushError}
use Rattle.resp_server.specs.declared.error.PushError.TheVariants.{NoSession, Closing, NotInVersion, Double, NestedPush, OverLimits, OutOfMemory}

only_none : (limits : Bounds) (push : Datum) (error : PushError) → HubRefusesPush limits None push error → IsErrOf {T = Unit {0}} (Err NoSession) error
only_none limits push NoSession h = refl
only_none limits push Closing h = absurd h
only_none limits push NotInVersion h = absurd h
only_none limits push Double h = absurd h
only_none limits push NestedPush h = absurd h
only_none limits push (OverLimits limit) h = absurd h
only_none limits push OutOfMemory h = absurd h

-- where there is no session, that is the only reason
pub no_session : {limits : Bounds} {seat : Option Seat} {push : Datum} → seat ≡ None → IsPushVerdict limits seat push (Err NoSession)
no_session {limits} {push} none = record {
  taken = tt;
  first = none;
  every = λ error other h. only_none limits push error (subst (λ o. HubRefusesPush limits o push error) none h);
}
