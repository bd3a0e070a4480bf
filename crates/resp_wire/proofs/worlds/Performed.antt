-- What an event performs: of nobody, over no link, and over the link of its client.
use Rattle.std.proofs.Common.{◌≡◌, ◌≢◌, ℕ, ◌-◌, false, Option, List, length, get_or, map, set, slice_get, take, IfErr, IfOk, IfSome, OnErr, Ok, Result, refl, sym, ap, subst, ◌∙◌, arith}
use Rattle.std.proofs.lemmas.List.{length-set}
use Rattle.std.proofs.lemmas.Option.{slice_get_read}
use Rattle.resp_io.specs.Devices.{failures_after}
use Rattle.resp_value.specs.declared.cause.Cause.{Cause}
use Rattle.resp_value.specs.declared.cause.Cause.TheVariants.{OutOfMemory}
use Rattle.resp_session.specs.ReadingLaws.{ReadingsStay}
use Rattle.resp_session.specs.Requests.{Request}
use Rattle.resp_session.specs.Serving.{ArrivalsStay, WhatHasComeWasSent}
use Rattle.resp_session.specs.WorldLaws.{AChangeIsOfOneConnection, IsPossible}
use Rattle.resp_session.specs.Worlds.{Drop, ToClient, ToServer, WorldEvent, client_of}
use Rattle.resp_io.specs.Turns.{stopped_by}
use Rattle.resp_client.specs.Clients.{state_of}
use Rattle.resp_client.specs.Sending.{MayBeSent}
use Rattle.resp_server.specs.Hubs.{HubState, Seat, seat_at}
use Rattle.resp_wire.specs.Ends.{TakesRequest}
use Rattle.resp_wire.specs.Happening.{Fails, Happens, IsOpenClient, MayLackMemory, Performs}
use Rattle.resp_wire.specs.Links.{Carries, Traffic, is_of_link}
use Rattle.resp_wire.specs.Worlds.{LinkCarries, LinksAfter, WorldState, event_of}
use Rattle.resp_wire.specs.declared.end.End.{End}
use Rattle.resp_wire.specs.declared.event.Event.{Event}
use Rattle.resp_wire.specs.declared.event.Outcome.{Outcome}
use Rattle.resp_wire.specs.declared.event.Outcome.TheVariants.{Done, Gone}
use Rattle.resp_wire.specs.declared.link.Direction.{Direction}
use Rattle.resp_wire.specs.declared.link.Direction.TheVariants as way
use Rattle.resp_wire.proofs.LinkStops.{counts_none, counts_one, of_no_link}
use Rattle.resp_wire.proofs.LinkTraffic.{others_stay, same_links}
use Rattle.resp_wire.proofs.Showing.{at_there, if_there}
use Rattle.resp_wire.proofs.worlds.Events.{Asks, asks}
use Rattle.resp_wire.proofs.worlds.Lacking.{if_err, if_err_of, request_lacks}
use Rattle.resp_wire.proofs.worlds.Moves.{IsLinkOf, link_there, link_within, ok_of, stops_for_memory}
use Rattle.resp_wire.proofs.worlds.Places.{world_of}

no_carry : {L : Type 0} (carried : L → Option Traffic) (s : WorldState L) (event : WorldEvent) → LinksAfter carried s s event Gone
no_carry {L} carried s (ToServer number count) = refl
no_carry {L} carried s (ToClient number count) = refl
no_carry {L} carried s _ = refl

-- an event of nobody
pub of_nobody : {L : Type 0} (is_honest : L → Type 0) (failures : L → ℕ) (carried : L → Option Traffic) (s : WorldState L) (event : WorldEvent) →
    Happens is_honest s s event Gone → Performs is_honest failures carried s s event (Ok Gone)
of_nobody {L} is_honest failures carried s event happens = record {
  happens = happens;
  stops = tt;
  memory = tt;
  going = refl;
  links = refl;
  traffic = no_carry carried s event;
  others = λ k other. refl;
  as_many = refl;
}

-- the event of a number is that of the client with this number
pub of_number : {L : Type 0} {is_honest : L → Type 0} {failures : L → ℕ} {carried : L → Option Traffic} {old new : WorldState L} {result : Result Outcome Cause}
    {event its : Event} {number : ℕ} (of : ℕ → WorldEvent) → number ≡ client_of (event_of event) → event ≡ its →
    event_of its ≡ of (client_of (event_of its)) → Performs is_honest failures carried old new (of number) result →
    Performs is_honest failures carried old new (event_of event) result
of_number {L} {is_honest} {failures} {carried} {old} {new} {result} {event} {its} {number} of numbered is same =
    subst (λ e. Performs is_honest failures carried old new e result)
    (ap of (numbered ∙ ap (λ e. client_of (event_of e)) is) ∙ sym same ∙ sym (ap event_of is))

-- what an open client's event performs in a world performs in the same world
pub from_inside : {L : Type 0} (is_honest : L → Type 0) (failures : L → ℕ) (carried : L → Option Traffic) (number : ℕ) (s z new : WorldState L)
    (event : WorldEvent) (result : Result Outcome Cause) → s ≡ z → IsOpenClient z.ends number →
    (IsOpenClient s.ends number → Performs is_honest failures carried s new event result) → Performs is_honest failures carried z new event result
from_inside {L} is_honest failures carried number s z new event result same client performs =
    subst (λ (w : WorldState L). IsOpenClient w.ends number → Performs is_honest failures carried w new event result) same performs client

-- an event over no link
pub over_none : {L : Type 0} (is_honest : L → Type 0) (failures : L → ℕ) (carried : L → Option Traffic) (old new : WorldState L) (event : WorldEvent)
    (result : Result Outcome Cause) → ((outcome : Outcome) → LinksAfter carried old new event outcome) → new.links ≡ old.links → new.stopped ≡ old.stopped →
    length new.ends ≡ length old.ends → IfErr result (λ cause. is_of_link cause ≡ false) → IfOk result (Happens is_honest old new event) →
    IfErr result (Fails is_honest failures old new) → IfErr result (λ cause. cause ≡ OutOfMemory → MayLackMemory is_honest old event) →
    Performs is_honest failures carried old new event result
over_none {L} is_honest failures carried old new event result unused same going as_many none happens stops memory = record {
  happens = happens;
  stops = stops;
  memory = memory;
  going = going;
  links = counts_none failures (client_of event) old.links new.links result (ap (map failures) same) none;
  traffic = ok_of result _ (λ outcome is. unused outcome);
  others = same_links (client_of event) old.links new.links same;
  as_many = as_many;
}

-- a request of a client
pub of_request : {L : Type 0} (is_honest : L → Type 0) (failures : L → ℕ) (carried : L → Option Traffic) → ReadingsStay → WhatHasComeWasSent → ArrivalsStay →
    AChangeIsOfOneConnection → (s : WorldState L) (number : ℕ) (event : ℕ → WorldEvent) (request : Request) (e e' : End) (result : Result Outcome Cause) →
    Asks event request → ((n : ℕ) → IfOk result (λ outcome. outcome ≡ Done → IsPossible (event n))) → ((i : ℕ) → event number ≢ Drop i) →
    ((outcome : Outcome) → LinksAfter carried s (record s { ends = set s.ends (number - 1) e' }) (event number) outcome) →
    e ≡ get_or s.ends (number - 1) e → IfOk result (TakesRequest e e' request) → IfErr result (λ cause. cause ≡ OutOfMemory) →
    OnErr result (MayBeSent (state_of e.client) request) → IsOpenClient s.ends number →
    Performs is_honest failures carried s (record s { ends = set s.ends (number - 1) e' }) (event number) result
of_request {L} is_honest failures carried readings sent arrivals change s number event request e e' result asked possible no_drop unused e_is takes memory may
    client =
    let new : WorldState L = record s { ends = set s.ends (number - 1) e' } in
    over_none is_honest failures carried s new (event number) result unused refl refl (length-set s.ends (number - 1) e') (of_no_link result memory)
    (ok_of result (Happens is_honest s new (event number)) (λ outcome is.
    asks is_honest readings sent arrivals change s number event request e e' outcome asked
    (λ done n. subst (λ r. IfOk r (λ o. o ≡ Done → IsPossible (event n))) is (possible n) done) client e_is
    (subst (λ r. IfOk r (TakesRequest e e' request)) is takes)))
    (stops_for_memory is_honest failures s new result memory)
    (if_err_of result (λ cause. cause ≡ OutOfMemory) (MayLackMemory is_honest s (event number)) (if_err result _ _ may (λ sendable.
    request_lacks is_honest s number e (event number) request no_drop (λ w. (asked.1 w number).0) (λ limits c cause. (asked.0 limits c number cause).0) client
    e_is sendable)))

-- an event over the link of its client
pub over_link : {L : Type 0} (is_honest : L → Type 0) (failures : L → ℕ) (carried : L → Option Traffic) (s : WorldState L) (hub' : HubState)
    (ends' : List End) (order' : List ℕ) (event : WorldEvent) (link link' : L) (result : Result Outcome Cause) → IsLinkOf s (client_of event) link →
    failures link' ≡ failures_after (stopped_by is_of_link result) (failures link) → length ends' ≡ length s.ends →
    IfOk result (Happens is_honest s (world_of hub' ends' (set s.links (client_of event - 1) link') order' s.stopped) event) →
    IfErr result (Fails is_honest failures s (world_of hub' ends' (set s.links (client_of event - 1) link') order' s.stopped)) →
    IfErr result (λ cause. cause ≡ OutOfMemory → MayLackMemory is_honest s event) →
    IfOk result (LinksAfter carried s (world_of hub' ends' (set s.links (client_of event - 1) link') order' s.stopped) event) →
    Performs is_honest failures carried s (world_of hub' ends' (set s.links (client_of event - 1) link') order' s.stopped) event result
over_link {L} is_honest failures carried s hub' ends' order' event link link' result of risen same happens stops memory traffic = record {
  happens = happens;
  stops = stops;
  memory = memory;
  going = refl;
  links = counts_one failures (client_of event) s.links (client_of event - 1) link link' (stopped_by is_of_link result) (omega (arith, of.client.there.0))
      (link_within s (client_of event) link of) of.is risen;
  traffic = traffic;
  others = others_stay s.links (client_of event) link' of.client.there.0;
  as_many = same;
}

-- what goes over a link of a client's number
carries_at : {L : Type 0} (carried : L → Option Traffic) (s : WorldState L) (number : ℕ) (link link' : L) → IsLinkOf s number link → (to : Direction)
    (bytes : List ℕ) → Carries to bytes (carried link) (carried link') →
    LinkCarries carried (number - 1) to bytes s.links (set s.links (number - 1) link')
carries_at {L} carried s number link link' of to bytes carries = record {
  before = link;
  after = link';
  there = link_there s number link of;
  others_stay = refl;
  carries = carries;
}

-- the bytes of a client
pub client_carries : {L : Type 0} (carried : L → Option Traffic) (s : WorldState L) (number count : ℕ) (e : End) (link link' : L) → IsLinkOf s number link →
    e ≡ get_or s.ends (number - 1) e → Carries way.ToServer (take count (state_of e.client).out) (carried link) (carried link') →
    IfSome (slice_get s.ends (number - 1)) (λ (d : End).
    LinkCarries carried (number - 1) way.ToServer (take count (state_of d.client).out) s.links (set s.links (number - 1) link'))
client_carries {L} carried s number count e link link' of e_is carries =
    let there = of.client.there in
    subst (λ o. IfSome o (λ (d : End). LinkCarries carried (number - 1) way.ToServer (take count (state_of d.client).out) s.links
    (set s.links (number - 1) link'))) (sym (slice_get_read s.ends (length s.ends) (number - 1) e refl (omega (arith, there.0, there.1)) e_is))
    (carries_at carried s number link link' of way.ToServer _ carries)

-- the bytes of its session
pub session_carries : {L : Type 0} (carried : L → Option Traffic) (s : WorldState L) (number count : ℕ) (link link' : L) → IsLinkOf s number link →
    IfSome (seat_at s.hub number) (λ (t : Seat). Carries way.ToClient (take count t.out) (carried link) (carried link')) →
    IfSome (seat_at s.hub number) (λ (t : Seat).
    LinkCarries carried (number - 1) way.ToClient (take count t.out) s.links (set s.links (number - 1) link'))
session_carries {L} carried s number count link link' of carries = if_there s.hub number _ (λ t here.
    carries_at carried s number link link' of way.ToClient _
    (at_there s.hub number (λ (u : Seat). Carries way.ToClient (take count u.out) (carried link) (carried link')) t here carries))
