-- What each event leaves of a world.
use Rattle.std.proofs.Common.{◌≡◌, ℕ, suc, ◌-◌, ◌<◌, ◌≤◌, false, Some, List, [], ◌∷◌, ◌++◌, length, map, get_or, set, slice_get, IfOk, IfSome, Ok, Err, Result, refl, sym, ap, subst, ◌∙◌, arith}
use Rattle.std.proofs.lemmas.Option.{slice_get_read}
use Rattle.resp_value.specs.Bounds.{Bounds}
use Rattle.resp_value.specs.declared.cause.Cause.{Cause}
use Rattle.resp_session.specs.Connections.{Connection, with_request}
use Rattle.resp_session.specs.ReadingLaws.{ReadingsStay}
use Rattle.resp_session.specs.Requests.{FitsRequest, RefusesRequest, Request}
use Rattle.resp_session.specs.Runs as runs
use Rattle.resp_session.specs.Runs.{RefusesEvent, Step, connection_of, is_gone}
use Rattle.resp_session.specs.Serving.{ArrivalsStay, WhatHasComeWasSent}
use Rattle.resp_session.specs.WorldLaws.{AChangeIsOfOneConnection, IsPossible}
use Rattle.resp_session.specs.Worlds.{World, WorldEvent, after_event, connection_at, world_with}
use Rattle.resp_session.proofs.FittingSent.{requests_that_fit_are_sent}
use Rattle.resp_server.specs.Hubs.{HubState, seat_at}
use Rattle.resp_client.specs.Clients as client
use Rattle.resp_client.specs.Clients.{queued, state_of}
use Rattle.resp_client.specs.Sending.{MayBeSent}
use Rattle.resp_wire.specs.Ends.{HasQueued, TakesRequest}
use Rattle.resp_wire.specs.Happening.{Happens, IsOpenClient, IsOpenEnd}
use Rattle.resp_wire.specs.Requests.{request_of}
use Rattle.resp_wire.specs.Worlds.{Shows, ShowsEach, WorldState, outcome_of}
use Rattle.resp_wire.specs.declared.end.End.{End}
use Rattle.resp_wire.specs.declared.event.Outcome.{Outcome}
use Rattle.resp_wire.specs.declared.event.Outcome.TheVariants.{Done, Gone, Refused}
use Rattle.resp_wire.proofs.worlds.Asked.{as_before, with_one_more}
use Rattle.resp_wire.proofs.worlds.Frames.{Beyond, IsFramed, beyond, framed, kept}
use Rattle.resp_wire.proofs.worlds.Places.{connection_there}

-- what two facts of a result come to
pub both_ok : {T E : Type 0} (r : Result T E) (P Q R : T → Type 0) → IfOk r P → IfOk r Q → ((x : T) → P x → Q x → R x) → IfOk r R
both_ok (Ok x) P Q R p q f = f x p q
both_ok (Err e) P Q R p q f = tt

-- a client that was not dropped, with its connection
pub record IsAt (limits : Bounds) (hub : HubState) (ends : List End) (order : List ℕ) (w : World) (i : ℕ) (e : End) : Type 0 where
  pub within : i < length ends
  pub here : slice_get ends i ≡ Some e
  pub connection : Connection
  pub its : connection_at w.connections (suc i) ≡ Some connection
  pub is_open : connection.dropped ≡ false

-- it is found by its number
pub found_at : (limits : Bounds) (hub : HubState) (ends : List End) (order : List ℕ) (w : World) (i : ℕ) (e : End) → ShowsEach limits hub ends order w →
    i < length ends → e ≡ get_or ends i e → IsOpenEnd ends i → IsAt limits hub ends order w i e
found_at limits hub ends order w i e at within e_is open_end =
    let here : slice_get ends i ≡ Some e = slice_get_read ends (length ends) i e refl within e_is in
    let many = at.as_many in
    let (c, its) = connection_there w.connections i (omega (arith, within, many)) in
    let not_dropped : e.is_dropped ≡ false = subst (λ o. IfSome o (λ (d : End). d.is_dropped ≡ false)) here open_end in
    record {
      within = within;
      here = here;
      connection = c;
      its = its;
      is_open = sym (at.each i e c here its).dropped ∙ not_dropped;
    }

-- a request that was queued
request_done : ReadingsStay → WhatHasComeWasSent → ArrivalsStay → AChangeIsOfOneConnection → (limits : Bounds) (hub : HubState) (ends : List End)
    (order : List ℕ) (w : World) (i : ℕ) (e e' : End) (event : WorldEvent) (request : Request) → (at : ShowsEach limits hub ends order w) →
    (a : IsAt limits hub ends order w i e) → MayBeSent (state_of e.client) request →
    HasQueued e e' (client.with_request request (state_of e.client)) (map request_of e.asked.items ++ request ∷ []) → IsPossible event →
    ((cause : Cause) → RefusesEvent limits (Some a.connection) event cause → RefusesRequest limits (length a.connection.requests) request cause) →
    connection_of w event ≡ Some a.connection → after_event w event ≡ world_with (with_request request) w (suc i) →
    Step limits w event runs.Done (after_event w event) × ShowsEach limits hub (set ends i e') order (after_event w event)
request_done readings sent arrivals change limits hub ends order w i e e' event request at a may q possible refusing its now =
    let c = a.connection in
    let old = at.each i e c a.here a.its in
    let s = old.stands a.is_open in
    let few = may.number_left in
    let counts = s.same_count in
    let refused : (cause : Cause) → RefusesEvent limits (connection_of w event) event cause → ⊥ =
    λ cause r. requests_that_fit_are_sent limits (length c.requests) request may.is_sent (subst (λ l. FitsRequest l request) s.same_limits may.fits) (omega (
      arith,
      few,
      counts,
    ))
    cause (refusing cause (subst (λ o. RefusesEvent limits o event cause) its r)) in
    let step : Step limits w event runs.Done (after_event w event) = (ap is_gone its ∙ a.is_open, refused, refl) in
    let b = beyond limits hub ends order w (after_event w event) event at step possible in
    let of_one = change (with_request request) w.connections (suc i) in
    let next : World = world_with (with_request request) w (suc i) in
    let frame : IsFramed i hub hub w next = record {
      limits = refl;
      store = at.store;
      as_many = of_one.0;
      others = of_one.2;
      seats = λ j other. refl;
    } in
    let one = with_one_more readings sent arrivals limits hub ends order w at i e e' c request a.here a.its a.is_open q in (
      step,
      subst (λ v. ShowsEach limits hub (set ends i e') order v) (sym now)
          (framed limits hub hub ends order order w next i e' (with_request request c) at (subst (λ v. Beyond limits at.n v) now b) frame at.ordered a.within
          (of_one.1 c a.its) one),
    )

-- what came of a request
request_taken : {L : Type 0} (is_honest : L → Type 0) → ReadingsStay → WhatHasComeWasSent → ArrivalsStay → AChangeIsOfOneConnection → (limits : Bounds)
    (s : WorldState L) (w : World) (i : ℕ) (e e' : End) (event : WorldEvent) (request : Request) (outcome : Outcome) → (shows : Shows is_honest s limits w) →
    (a : IsAt limits s.hub s.ends s.order w i e) → TakesRequest e e' request outcome → (outcome ≡ Done → IsPossible event) →
    ((cause : Cause) → RefusesEvent limits (Some a.connection) event cause → RefusesRequest limits (length a.connection.requests) request cause) →
    ((cause : Cause) → RefusesRequest limits (length a.connection.requests) request cause → RefusesEvent limits (Some a.connection) event cause) →
    connection_of w event ≡ Some a.connection → after_event w event ≡ world_with (with_request request) w (suc i) →
    (next : World) × Step limits w event (outcome_of outcome) next × Shows is_honest (record s { ends = set s.ends i e' }) limits next
request_taken {L} is_honest readings sent arrivals change limits s w i e e' event request Done shows a takes possible refusing by_it its now =
    let d = request_done readings sent arrivals change limits s.hub s.ends s.order w i e e' event request shows.each a takes.0 takes.1 (possible refl) refusing
    its now in
    (after_event w event, d.0, record { each = d.1; honest = shows.honest })
request_taken {L} is_honest readings sent arrivals change limits s w i e e' event request (Refused cause) shows a takes possible refusing by_it its now =
    let c = a.connection in
    let old = shows.each.each i e c a.here a.its in
    let st = old.stands a.is_open in
    let refused : RefusesRequest limits (length c.requests) request cause =
    subst (λ n. RefusesRequest limits n request cause) st.same_count
    (subst (λ l. RefusesRequest l (queued (state_of e.client)) request cause) st.same_limits takes.0) in
    let its_refusal = subst (λ o. RefusesEvent limits o event cause) (sym its) (by_it cause refused) in
    let one = as_before limits (seat_at s.hub (suc i)) e e' c old takes.1 in (
      w,
      (ap is_gone its ∙ a.is_open, its_refusal, refl),
      record {
        each = kept limits s.hub s.ends s.order w i e' c shows.each a.within a.its one;
        honest = shows.honest;
      },
    )
request_taken {L} is_honest readings sent arrivals change limits s w i e e' event request Gone shows a takes possible refusing by_it its now = absurd takes

-- the number of an index
pub numbered : (number : ℕ) → 1 ≤ number → suc (number - 1) ≡ number
numbered number least = omega (arith, least)

-- what an event of this request asks of each connection
abbrev pub Asks : (ℕ → WorldEvent) → Request → Type 0
Asks event request = ((limits : Bounds) (c : Connection) (n : ℕ) (cause : Cause) →
    (RefusesEvent limits (Some c) (event n) cause → RefusesRequest limits (length c.requests) request cause) ×
    (RefusesRequest limits (length c.requests) request cause → RefusesEvent limits (Some c) (event n) cause)) ×
    ((w : World) (n : ℕ) → (connection_of w (event n) ≡ connection_at w.connections n) ×
    (after_event w (event n) ≡ world_with (with_request request) w n))

-- what came of a request of a client that was not dropped
pub asks : {L : Type 0} (is_honest : L → Type 0) → ReadingsStay → WhatHasComeWasSent → ArrivalsStay → AChangeIsOfOneConnection → (s : WorldState L)
    (number : ℕ) (event : ℕ → WorldEvent) (request : Request) (e e' : End) (outcome : Outcome) → Asks event request →
    (outcome ≡ Done → (n : ℕ) → IsPossible (event n)) → IsOpenClient s.ends number → e ≡ get_or s.ends (number - 1) e → TakesRequest e e' request outcome →
    Happens is_honest s (record s { ends = set s.ends (number - 1) e' }) (event number) outcome
asks {L} is_honest readings sent arrivals change s number event request e e' outcome of_request possible client e_is takes limits w shows =
    let i = number - 1 in
    let (least, most) = client.there in
    let a = found_at limits s.hub s.ends s.order w i e shows.each (omega (arith, least, most)) e_is client.is_open in
    let refusals = of_request.0 limits a.connection (suc i) in
    let changes = of_request.1 w (suc i) in
    subst (λ n. (next : World) × Step limits w (event n) (outcome_of outcome) next × Shows is_honest (record s { ends = set s.ends i e' }) limits next)
    (numbered number least)
    (request_taken is_honest readings sent arrivals change limits s w i e e' (event (suc i)) request outcome shows a takes
    (λ done. possible done (suc i)) (λ cause. (refusals cause).0) (λ cause. (refusals cause).1) (changes.0 ∙ a.its) changes.1)
