-- Memory is out only at an event that is done in the definitions, and at no drop.
use Rattle.std.proofs.Common.{◌≡◌, ◌≢◌, ℕ, ◌-◌, false, Some, Option, List, length, get_or, slice_get, IfErr, IfSome, OnErr, Ok, Err, Result, refl, sym, ap, subst, ◌∙◌, arith}
use Rattle.resp_value.specs.Bounds.{Bounds}
use Rattle.resp_value.specs.Data.{Datum}
use Rattle.resp_value.specs.declared.cause.Cause.{Cause}
use Rattle.resp_session.specs.Connections.{Connection, push_message}
use Rattle.resp_session.specs.Requests.{FitsRequest, RefusesRequest, Request}
use Rattle.resp_session.specs.Runs.{Done, RefusesEvent, Step, connection_of, is_gone}
use Rattle.resp_session.specs.Worlds.{Drop, Push, World, WorldEvent, after_event, connection_at}
use Rattle.resp_session.proofs.FittingSent.{requests_that_fit_are_sent}
use Rattle.resp_client.specs.Clients.{state_of}
use Rattle.resp_client.specs.Sending.{MayBeSent}
use Rattle.resp_server.specs.PushRefusals as server
use Rattle.resp_server.specs.declared.error.PushError.{PushError}
use Rattle.resp_server.specs.declared.error.PushError.TheVariants as push
use Rattle.resp_server.specs.Hubs.{HubState, Seat, seat_at}
use Rattle.resp_wire.specs.Ends.{outcome_of_push}
use Rattle.resp_wire.specs.Happening.{IsOpenClient, MayLackMemory}
use Rattle.resp_wire.specs.Worlds.{ShowsEach, WorldState}
use Rattle.resp_wire.specs.declared.end.End.{End}
use Rattle.resp_wire.proofs.worlds.Moves.{at_work, some_at_work}
use Rattle.resp_wire.proofs.worlds.Pushed.{push_not_refused}

-- bytes of a client that was not dropped are never refused
pub bytes_lack : {L : Type 0} (is_honest : L → Type 0) (s : WorldState L) (number : ℕ) (event : WorldEvent) → ((i : ℕ) → event ≢ Drop i) →
    ((w : World) → connection_of w event ≡ connection_at w.connections number) →
    ((limits : Bounds) (c : Option Connection) (cause : Cause) → RefusesEvent limits c event cause → ⊥) → IsOpenClient s.ends number →
    MayLackMemory is_honest s event
bytes_lack {L} is_honest s number event no_drop its never client = record {
  no_drop = no_drop;
  done = λ limits w shows.
      let (e, work) = some_at_work limits s.hub s.ends s.order w number shows.each client in
      let at : connection_of w event ≡ Some work.at.connection = its w ∙ ap (connection_at w.connections) (sym work.is) ∙ work.at.its in
      (ap is_gone at ∙ work.at.is_open, never limits (connection_of w event), refl);
}

-- nor is a request that the client may send
pub request_lacks : {L : Type 0} (is_honest : L → Type 0) (s : WorldState L) (number : ℕ) (e : End) (event : WorldEvent) (request : Request) →
    ((i : ℕ) → event ≢ Drop i) → ((w : World) → connection_of w event ≡ connection_at w.connections number) →
    ((limits : Bounds) (c : Connection) (cause : Cause) → RefusesEvent limits (Some c) event cause →
    RefusesRequest limits (length c.requests) request cause) → IsOpenClient s.ends number → e ≡ get_or s.ends (number - 1) e →
    MayBeSent (state_of e.client) request → MayLackMemory is_honest s event
request_lacks {L} is_honest s number e event request no_drop its refusing client e_is may = record {
  no_drop = no_drop;
  done = λ limits w shows.
      let work = at_work limits s.hub s.ends s.order w number e shows.each client e_is in
      let c = work.at.connection in
      let few = may.number_left in
      let counts = work.stands.same_count in
      let at : connection_of w event ≡ Some c = its w ∙ ap (connection_at w.connections) (sym work.is) ∙ work.at.its in
      let refused : (cause : Cause) → RefusesEvent limits (connection_of w event) event cause → ⊥ =
      λ cause r. requests_that_fit_are_sent limits (length c.requests) request may.is_sent
      (subst (λ l. FitsRequest l request) work.stands.same_limits may.fits) (omega (arith, few, counts)) cause
      (refusing limits c cause (subst (λ o. RefusesEvent limits o event cause) at r)) in
      (ap is_gone at ∙ work.at.is_open, refused, refl);
}

-- nor is a push that an open session has no memory for
push_done : (limits : Bounds) (hub : HubState) (ends : List End) (order : List ℕ) (w : World) (number : ℕ) (items : List Datum) (error : PushError) →
    ShowsEach limits hub ends order w → server.IsPushVerdict hub.limits (seat_at hub number) (push_message items).value (Err error) →
    IsOpenClient ends number → OnErr (outcome_of_push error) (Step limits w (Push number items) Done (after_event w (Push number items)))
push_done limits hub ends order w number items error each verdict client =
    let (e, work) = some_at_work limits hub ends order w number each client in
    let s = work.stands in
    let seat : seat_at hub number ≡ Some s.session = ap (seat_at hub) (sym work.is) ∙ s.there in
    let at : connection_at w.connections number ≡ Some work.at.connection = ap (connection_at w.connections) (sym work.is) ∙ work.at.its in
    by_error limits s.session work.at.connection w number items error at work.at.is_open s.version s.is_open
    (subst (λ o. server.IsPushVerdict limits o (push_message items).value (Err error)) seat
    (subst (λ l. server.IsPushVerdict l (seat_at hub number) (push_message items).value (Err error)) each.same_limits verdict))
  where
    by_error : (limits : Bounds) (s : Seat) (c : Connection) (w : World) (number : ℕ) (items : List Datum) (error : PushError) →
        connection_at w.connections number ≡ Some c → c.dropped ≡ false → s.version ≡ c.version → s.closing ≡ false →
        server.IsPushVerdict limits (Some s) (push_message items).value (Err error) →
        OnErr (outcome_of_push error) (Step limits w (Push number items) Done (after_event w (Push number items)))
    by_error limits s c w number items push.NoSession at here version is_open verdict = let never = verdict.first in absurd (cc)
    by_error limits s c w number items push.Closing at here version is_open verdict = let never = verdict.first in absurd (cc)
    by_error limits s c w number items push.NotInVersion at here version is_open verdict = tt
    by_error limits s c w number items push.Double at here version is_open verdict = tt
    by_error limits s c w number items push.NestedPush at here version is_open verdict = tt
    by_error limits s c w number items (push.OverLimits limit) at here version is_open verdict = tt
    by_error limits s c w number items push.OutOfMemory at here version is_open verdict = (
      ap is_gone at ∙ here,
      λ cause r. push_not_refused limits s c.version (push_message items).value (Err push.OutOfMemory) version is_open verdict
          (λ error e. let same : push.OutOfMemory ≡ error = cc in sym same) cause
          (subst (λ o. RefusesEvent limits o (Push number items) cause) at r),
      refl,
    )

-- what an error leads to
err_then : {T E : Type 0} (r : Result T E) (Q : Type 0) → ((e : E) → r ≡ Err e → Q) → OnErr r Q
err_then {T} {E} (Ok x) Q f = tt
err_then {T} {E} (Err e) Q f = f e refl

pub push_lacks : {L : Type 0} (is_honest : L → Type 0) (s : WorldState L) (number : ℕ) (items : List Datum) (error : PushError) →
    server.IsPushVerdict s.hub.limits (seat_at s.hub number) (push_message items).value (Err error) → IsOpenClient s.ends number →
    OnErr (outcome_of_push error) (MayLackMemory is_honest s (Push number items))
push_lacks {L} is_honest s number items error verdict client = err_then (outcome_of_push error) _ (λ cause is. record {
  no_drop = λ i same. absurd (cc);
  done = λ limits w shows. subst (λ r. OnErr r (Step limits w (Push number items) Done (after_event w (Push number items)))) is
      (push_done limits s.hub s.ends s.order w number items error shows.each verdict client);
})

-- where memory was out at the event of an index, it may be
pub lacks_at : {L : Type 0} (is_honest : L → Type 0) (s : WorldState L) (events : List WorldEvent) (k : ℕ) (event : WorldEvent) →
    slice_get events k ≡ Some event → MayLackMemory is_honest s event → IfSome (slice_get events k) (MayLackMemory is_honest s)
lacks_at {L} is_honest s events k event here lacks = subst (λ o. IfSome o (MayLackMemory is_honest s)) (sym here) lacks

-- Facts of results.
pub if_err : {T E : Type 0} (r : Result T E) (P Q : Type 0) → OnErr r P → (P → Q) → OnErr r Q
if_err {T} {E} (Ok x) P Q p f = tt
if_err {T} {E} (Err e) P Q p f = f p

pub all_errs : {T E : Type 0} (r : Result T E) (Q : Type 0) → Q → OnErr r Q
all_errs {T} {E} (Ok x) Q q = tt
all_errs {T} {E} (Err e) Q q = q

pub if_err_of : {T E : Type 0} (r : Result T E) (P : E → Type 0) (Q : Type 0) → OnErr r Q → IfErr r (λ e. P e → Q)
if_err_of {T} {E} (Ok x) P Q q = tt
if_err_of {T} {E} (Err e) P Q q = λ _. q
