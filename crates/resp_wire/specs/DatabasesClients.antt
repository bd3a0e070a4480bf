-- What a connection reads, does and writes, in the words of the servers whose clients are served over devices.
use Rattle.std.specs.Prelude.{◌≡◌, ℕ, Bool, true, false, List, [], ◌++◌}
use Rattle.resp_server.specs.Parts.{Part}
use Rattle.resp_server.specs.Doing.{standing_of, waiting_of}
use Rattle.resp_server.specs.Servers.{ServerState}
use Rattle.resp_server.specs.Taking.{DoesParts, Ends, HasUnfinished, KeepsUnfinished, Progress, Takes, WhereUnfinished, closed, progress_of}
use Rattle.resp_server.specs.declared.databases.client.Client.{Client}

-- the client is open, and this is true of all bytes with which it has begun a request
abbrev pub WhereOpen : ServerState → Client → (List ℕ → Type 0) → Type 0
WhereOpen server c P = (standing_of c).closing ≡ false →
    (front : List ℕ) → HasUnfinished server.limits c front → P front

-- this text was written before the bytes that wait
abbrev pub with_written : List ℕ → Progress → Progress
with_written text p = record p { waiting = text ++ p.waiting }

-- The bytes are requests, which were done in order, and a rest. The bytes written and the bytes that still wait, joined,
-- are those that waited before and the replies.
pub record Serves (bytes text : List ℕ) (old new : ServerState) (before after : Client) : Type 0 where
  pub parts : List Part
  pub rest : List ℕ
  pub reached : Progress
  pub does : DoesParts old.limits parts bytes rest (progress_of old before) reached
  pub ends : Ends old.limits rest reached (with_written text (progress_of new after)) after

-- The first of the bytes are requests, which were done in order. Nothing else was done, and the client is closing.
pub record ServesFirst (bytes text : List ℕ) (old new : ServerState) (before after : Client) : Type 0 where
  pub parts : List Part
  pub rest : List ℕ
  pub reached : Progress
  pub does : DoesParts old.limits parts bytes rest (progress_of old before) reached
  pub closing : with_written text (progress_of new after) ≡ closed reached
  pub begun : HasUnfinished old.limits after []

-- whether the server has the client: it has each one
abbrev pub has_client : ServerState → Client → Bool
has_client server c = true

-- each client can be given bytes
abbrev pub IsKnown : ServerState → Client → Type 0
IsKnown server c = Unit {0}

abbrev pub closing_of : ServerState → Client → Bool
closing_of server c = (standing_of c).closing

abbrev pub waits_of : ServerState → Client → List ℕ
waits_of server c = waiting_of c

-- These bytes were given to the client, all of them were done, and this text was written. No other part of the server
-- than its stores was changed.
pub record ServesClient (old : ServerState) (before : Client) (new : ServerState) (after : Client)
    (bytes text : List ℕ) : Type 0 where
  pub same_server : new ≡ record old { stores = new.stores }
  pub served : WhereOpen old before (λ front. Serves (front ++ bytes) text old new before after)

-- these bytes were given to the client, the first of them were done since memory ran out, and this text was written
pub record CutsClient (old : ServerState) (before : Client) (new : ServerState) (after : Client)
    (bytes text : List ℕ) : Type 0 where
  pub same_server : new ≡ record old { stores = new.stores }
  pub stopped : WhereOpen old before (λ front. ServesFirst (front ++ bytes) text old new before after)

-- these bytes were taken, while at most so many bytes waited before each request
abbrev pub TakesBytes : ℕ → ServerState → Client → ServerState → Client → List ℕ → Type 0
TakesBytes held old before new after bytes =
    WhereUnfinished old before (λ front. Takes held (front ++ bytes) old new before after)

-- this text, the first of the bytes that waited, was written, and nothing else of the client is changed
pub record WritesText (old : ServerState) (before : Client) (new : ServerState) (after : Client)
    (text : List ℕ) : Type 0 where
  pub same_server : new ≡ old
  pub parts : waiting_of before ≡ text ++ waiting_of after
  pub same_standing : standing_of after ≡ standing_of before
  pub same_begun : KeepsUnfinished before after
