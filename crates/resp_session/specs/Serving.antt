-- The answer of a session of a world to the bytes that it receives.
use Rattle.std.specs.Prelude.{◌≡◌, ℕ, ◌+◌, ◌≤◌, false, List, [], ◌++◌, length, map, take, drop, min, replicate, Some}
use Rattle.std.specs.List.{AllByRecursion}
use Rattle.resp_value.specs.Bounds.{Bounds, AreBounds}
use Rattle.resp_value.specs.Spellings.{AreSpellings}
use Rattle.resp_value.specs.Words.{command_of}
use Rattle.resp_session.specs.Answers.{SessionState, Answers, server_rules}
use Rattle.resp_session.specs.Connections.{Connection, arrived_requests, back_text, sent_text, with_request}
use Rattle.resp_session.specs.Requests.{Request, request_words}
use Rattle.resp_session.specs.Runs.{Run}
use Rattle.resp_session.specs.WorldLaws.{IsPossible}
use Rattle.resp_session.specs.Worlds.{World, WorldEvent, ToServer, ToClient, after_event, connection_at, new_world}

-- the present state of a connection's session, with a count of 0
abbrev pub session_of : World → Connection → SessionState
session_of w c = record { store = w.store; version = c.version; text = []; closing = false; count = 0 }

-- the rest of the bytes that a session has received, after the complete requests
pub record IsUnfinished (limits : Bounds) (c : Connection) (rest : List ℕ) : Type 0 where
  pub front : List ℕ
  pub spelled : AreSpellings (server_rules limits)
      (map (λ (request : Request). command_of (request_words request)) (arrived_requests c)) front
  pub whole : take c.arrived (sent_text c) ≡ front ++ rest

-- this many more of the bytes that were sent
abbrev pub coming : ℕ → Connection → List ℕ
coming k c = take k (drop c.arrived (sent_text c))

-- the client of each command, in the order in which they were run
abbrev pub clients_in : World → List ℕ
clients_in w = map (λ (command : ℕ × List (List ℕ)). command.0) w.order

-- the client's requests and messages are the same as before, and it is dropped if it was dropped before
pub record IsSameClient (next c : Connection) : Type 0 where
  pub requests : next.requests ≡ c.requests
  pub shown : next.shown ≡ c.shown
  pub dropped : next.dropped ≡ c.dropped

-- the answer of a session is the effect of these bytes on the world: its store, its version, its messages, and the
-- order; the other connections stay the same
pub record IsLeftBy (limits : Bounds) (i k : ℕ) (w left : World) (c : Connection) (after : SessionState)
    (rest : List ℕ) : Type 0 where
  pub next : Connection
  pub there : connection_at left.connections i ≡ Some next
  pub client : IsSameClient next c
  pub arrived : next.arrived ≡ min (c.arrived + k) (length (sent_text c))
  pub unfinished : IsUnfinished limits next rest
  pub store : after.store ≡ left.store
  pub version : after.version ≡ next.version
  pub text : back_text next ≡ back_text c ++ after.text
  pub is_open : after.closing ≡ false
  pub order : clients_in left ≡ clients_in w ++ replicate after.count i
  pub others : (j : ℕ) → (j ≡ i → ⊥) → connection_at left.connections j ≡ connection_at w.connections j
  pub same_count : length left.connections ≡ length w.connections

-- any answer to the bytes that a session of a world receives, given its unfinished rest, is the effect of these bytes
-- on the world
abbrev pub WhatArrivesIsAnswered : Type 0
WhatArrivesIsAnswered = (limits : Bounds) (n : ℕ) (events : List WorldEvent) (w : World) → AreBounds limits →
    AllByRecursion IsPossible events → Run limits (new_world n) events w → (i k : ℕ) (c : Connection) →
    connection_at w.connections i ≡ Some c → (rest rest' : List ℕ) (after : SessionState) →
    IsUnfinished limits c rest → Answers limits i (session_of w c) (rest ++ coming k c) after rest' →
    IsLeftBy limits i k w (after_event w (ToServer i k)) c after rest'

-- receiving bytes in two parts, at a session or at a client, has the same effect as receiving them together
abbrev pub ArrivalsGoOn : Type 0
ArrivalsGoOn = (limits : Bounds) (n : ℕ) (events : List WorldEvent) (w : World) → Run limits (new_world n) events w →
    (i j k : ℕ) →
    (after_event (after_event w (ToServer i j)) (ToServer i k) ≡ after_event w (ToServer i (j + k))) ×
    (after_event (after_event w (ToClient i j)) (ToClient i k) ≡ after_event w (ToClient i (j + k)))

-- no more bytes were received than were sent, in both directions
abbrev pub WhatHasComeWasSent : Type 0
WhatHasComeWasSent = (limits : Bounds) (n : ℕ) (events : List WorldEvent) (w : World) →
    Run limits (new_world n) events w → (i : ℕ) (c : Connection) → connection_at w.connections i ≡ Some c →
    (c.arrived ≤ length (sent_text c)) × (c.shown ≤ length (back_text c))

-- a further request does not change the bytes received of the requests before it
abbrev pub ArrivalsStay : Type 0
ArrivalsStay = (limits : Bounds) (n : ℕ) (events : List WorldEvent) (w : World) → Run limits (new_world n) events w →
    (i : ℕ) (c : Connection) → connection_at w.connections i ≡ Some c → (request : Request) (rest : List ℕ) →
    IsUnfinished limits c rest → IsUnfinished limits (with_request request c) rest
