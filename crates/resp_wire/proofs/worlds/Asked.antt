-- Requests that a client of a world queues or refuses.
use Rattle.std.proofs.Common.{◌≡◌, ℕ, suc, ◌+◌, false, Some, Option, List, [], ◌∷◌, ◌++◌, length, map, drop, slice_get, sym, ap, subst, ◌∙◌, arith, length-append}
use Rattle.std.proofs.lemmas.List.{drop-append-le, map-append}
use Rattle.resp_value.specs.Bounds.{Bounds}
use Rattle.resp_value.specs.declared.version.Version.TheVariants.{Two}
use Rattle.resp_session.specs.Connections.{Connection, sent_text, shown_messages, values_of, with_request}
use Rattle.resp_session.specs.Reading.{ReadsAs}
use Rattle.resp_session.specs.ReadingLaws.{ReadingsStay}
use Rattle.resp_session.specs.Requests.{Request, request_text, version_asked}
use Rattle.resp_session.specs.Serving.{ArrivalsStay, IsUnfinished, WhatHasComeWasSent}
use Rattle.resp_session.specs.Worlds.{World, connection_at}
use Rattle.resp_server.specs.Hubs.{HubState, Seat, seat_at}
use Rattle.resp_client.specs.Clients as client
use Rattle.resp_client.specs.Clients.{ClientState, queued, state_of}
use Rattle.resp_client.specs.Hearing.{KeepsReading}
use Rattle.resp_wire.specs.Ends.{HasQueued}
use Rattle.resp_wire.specs.Requests.{request_of}
use Rattle.resp_wire.specs.Worlds.{ShowsClient, ShowsEach, Stands}
use Rattle.resp_wire.specs.declared.end.End.{End}
use Rattle.resp_wire.proofs.worlds.Places.{never_gone}
use Rattle.resp_wire.proofs.worlds.Reading.{one_more_request}

-- where nothing more is read and sent, a client stands with its requests as it stood
stands_on : (limits : Bounds) (seat : Option Seat) (e e' : End) (c : Connection) (requests : List Request) (s : Stands limits seat e c) →
    IsUnfinished limits (record c { requests = requests }) s.front → (state_of e'.client).limits ≡ (state_of e.client).limits →
    (state_of e'.client).out ≡ drop c.arrived (sent_text (record c { requests = requests })) → queued (state_of e'.client) ≡ length requests →
    ReadsAs limits (record { version = Two; asks = map version_asked requests }) (values_of (shown_messages c)) s.text (state_of e'.client).waiting →
    KeepsReading e.client e'.client → Stands limits seat e' (record c { requests = requests })
stands_on limits seat e e' c requests s unfinished same_limits asks counted reads reading = record {
  session = s.session;
  there = s.there;
  version = s.version;
  is_open = s.is_open;
  answers = s.answers;
  front = s.front;
  taking = s.taking;
  unfinished = unfinished;
  same_limits = same_limits ∙ s.same_limits;
  asks = asks;
  same_count = counted;
  text = s.text;
  rest = s.rest;
  reads = reads;
  whole = s.whole;
  reading = reading.same_front s.rest s.reading;
}

-- a client that queues a request shows what its connection shows with it
pub with_one_more : ReadingsStay → WhatHasComeWasSent → ArrivalsStay → (limits : Bounds) (hub : HubState) (ends : List End) (order : List ℕ) (w : World)
    (at : ShowsEach limits hub ends order w) (i : ℕ) (e e' : End) (c : Connection) (request : Request) → slice_get ends i ≡ Some e →
    connection_at w.connections (suc i) ≡ Some c → c.dropped ≡ false →
    HasQueued e e' (client.with_request request (state_of e.client)) (map request_of e.asked.items ++ request ∷ []) →
    ShowsClient limits (seat_at hub (suc i)) e' (with_request request c)
with_one_more readings sent arrivals limits hub ends order w at i e e' c request here its is_open q =
    let old = at.each i e c here its in
    let s = old.stands is_open in
    let within = (sent limits at.n at.events w at.run (suc i) c its).0 in
    let one_waits : length ((state_of e.client).waiting.asks ++ version_asked request ∷ []) ≡ length (state_of e.client).waiting.asks + 1 =
    length-append (state_of e.client).waiting.asks (version_asked request ∷ []) in
    let one_asked : length (c.requests ++ request ∷ []) ≡ length c.requests + 1 = length-append c.requests (request ∷ []) in
    let before = s.same_count in
    let counts : (state_of e.client).answered + length ((state_of e.client).waiting.asks ++ version_asked request ∷ []) ≡ length (c.requests ++ request ∷ []) =
    omega (arith, one_waits, one_asked, before) in
    let more = readings limits (record { version = Two; asks = map version_asked c.requests }) (state_of e.client).waiting (version_asked request ∷ [])
    (values_of (shown_messages c)) s.text s.reads in
    let asked = subst (λ asks. ReadsAs limits (record { version = Two; asks = asks }) (values_of (shown_messages c)) s.text
    (record { version = (state_of e.client).waiting.version; asks = (state_of e.client).waiting.asks ++ version_asked request ∷ [] }))
    (sym (map-append version_asked c.requests (request ∷ []))) more in
    record {
      asked = q.asked ∙ ap (λ l. l ++ request ∷ []) old.asked;
      replies = q.replies ∙ old.replies;
      pushes = q.pushes ∙ old.pushes;
      dropped = q.dropped ∙ old.dropped;
      gone = never_gone c _ is_open;
      stands = λ _. stands_on limits (seat_at hub (suc i)) e e' c (c.requests ++ request ∷ []) s
          (arrivals limits at.n at.events w at.run (suc i) c its request s.front s.unfinished) (ap (λ (z : ClientState). z.limits) q.now)
          (ap (λ (z : ClientState). z.out) q.now ∙ ap (λ l. l ++ request_text request) s.asks ∙
          sym (drop-append-le c.arrived (sent_text c) (request_text request) within) ∙ sym (ap (drop c.arrived) (one_more_request request c)))
          (ap queued q.now ∙ counts)
          (subst (λ (z : ClientState). ReadsAs limits (record { version = Two; asks = map version_asked (c.requests ++ request ∷ []) })
          (values_of (shown_messages c)) s.text z.waiting) (sym q.now) asked) q.same_reading;
    }

-- a client that refuses one shows what it showed
pub as_before : (limits : Bounds) (seat : Option Seat) (e e' : End) (c : Connection) → ShowsClient limits seat e c →
    HasQueued e e' (state_of e.client) (map request_of e.asked.items) →
    ShowsClient limits seat e' c
as_before limits seat e e' c old same = record {
  asked = same.asked ∙ old.asked;
  replies = same.replies ∙ old.replies;
  pushes = same.pushes ∙ old.pushes;
  dropped = same.dropped ∙ old.dropped;
  gone = old.gone;
  stands = λ is_open.
      let s = old.stands is_open in
      stands_on limits seat e e' c c.requests s s.unfinished (ap (λ (z : ClientState). z.limits) same.now)
      (ap (λ (z : ClientState). z.out) same.now ∙ s.asks) (ap queued same.now ∙ s.same_count)
      (subst (λ (z : ClientState). ReadsAs limits (record { version = Two; asks = map version_asked c.requests }) (values_of (shown_messages c)) s.text
      z.waiting) (sym same.now) s.reads) same.same_reading;
}
