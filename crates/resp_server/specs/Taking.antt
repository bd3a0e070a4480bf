-- How the bytes of a client are taken.
use Rattle.std.specs.Prelude.{◌≡◌, ◌⊎◌, ℕ, ◌<◌, ◌≤◌, true, false, List, [], ◌∷◌, ◌++◌, length, take, Option, None, Some}
use Rattle.std.specs.List.{AllByRecursion}
use Rattle.resp_frames.specs.Unfinished.{HasBegunRequest}
use Rattle.resp_session.specs.Replies.{error}
use Rattle.resp_session.specs.Stores.{Store}
use Rattle.resp_value.specs.Bounds.{Bounds}
use Rattle.resp_value.specs.Canonical.{canonical_text}
use Rattle.resp_value.specs.Rules.{rules_under}
use Rattle.resp_value.specs.declared.version.Version.TheVariants.{Two}
use Rattle.resp_server.specs.Deeds.{Asked}
use Rattle.resp_server.specs.Outcomes.{Outcome, Standing, outcome_of}
use Rattle.resp_server.specs.Parts.{IsPart, IsRequestFor, Part, texts_in}
use Rattle.resp_server.specs.Rejections.{Rejects, rejection_text}
use Rattle.resp_server.specs.Doing.{standing_of, waiting_of}
use Rattle.resp_server.specs.Servers.{ServerState}
use Rattle.resp_server.specs.declared.databases.client.Client.{Client}
use Rattle.resp_server.specs.declared.databases.rejection.Rejection.{Rejection}

-- a client has begun a request with these bytes, or none
abbrev pub HasUnfinished : Bounds → Client → List ℕ → Type 0
HasUnfinished limits c = HasBegunRequest (rules_under Two limits) true c.unfinished

-- this is true of all bytes with which a client has begun a request
abbrev pub WhereUnfinished : ServerState → Client → (List ℕ → Type 0) → Type 0
WhereUnfinished server c P = (front : List ℕ) → HasUnfinished server.limits c front → P front

-- a request that the client has begun goes on
abbrev pub KeepsUnfinished : Client → Client → Type 0
KeepsUnfinished before after = (limits : Bounds) (front : List ℕ) → HasUnfinished limits before front →
    HasUnfinished limits after front

-- the stores, a client, and the bytes that wait to be written to it
pub record Progress : Type 0 where
  pub stores : List Store
  pub client : Standing
  pub waiting : List ℕ

abbrev pub progress_of : ServerState → Client → Progress
progress_of server c = record { stores = server.stores; client = standing_of c; waiting = waiting_of c }

-- the reply of an outcome, in the client's version, follows the bytes that waited
abbrev pub after_outcome : Outcome → List ℕ → Progress
after_outcome o waiting = record {
  stores = o.stores;
  client = o.client;
  waiting = waiting ++ canonical_text o.client.version o.reply;
}

-- after a request; one that is no command changes nothing, and has no reply
abbrev pub after_request : Option Asked → Progress → Progress
after_request None p = p
after_request (Some asked) p = after_outcome (outcome_of p.stores p.client asked) p.waiting

-- after these parts, in order
abbrev pub after_parts : List Part → Progress → Progress
after_parts [] p = p
after_parts (part ∷ parts) p = after_parts parts (after_request part.asked p)

-- no command of the client is run any more
abbrev pub closed : Progress → Progress
closed p = record p { client = record p.client { closing = true } }

-- after bytes that are rejected: the error reply is the last
abbrev pub after_rejection : Rejection → Progress → Progress
after_rejection why p = record (closed p) { waiting = p.waiting ++ canonical_text Two (error (rejection_text why)) }

-- the client is open before each of these parts
abbrev pub IsOpenBefore : List Part → Progress → Type 0
IsOpenBefore [] p = Unit {0}
IsOpenBefore (part ∷ parts) p = (p.client.closing ≡ false) × IsOpenBefore parts (after_request part.asked p)

-- at most this many bytes wait before each of these parts
abbrev pub WaitsFewBefore : ℕ → List Part → Progress → Type 0
WaitsFewBefore held [] p = Unit {0}
WaitsFewBefore held (part ∷ parts) p =
    (length p.waiting ≤ held) × WaitsFewBefore held parts (after_request part.asked p)

-- The bytes are these requests and then the rest. The requests were done in order, each while the client was open.
pub record DoesParts (limits : Bounds) (parts : List Part) (bytes rest : List ℕ) (before after : Progress) :
    Type 0 where
  pub whole : bytes ≡ texts_in parts ++ rest
  pub requests : AllByRecursion (IsPart limits) parts
  pub is_open : IsOpenBefore parts before
  pub done : after ≡ after_parts parts before

-- the client is open, and has begun a request with the rest
pub record Begins (limits : Bounds) (rest : List ℕ) (reached after : Progress) (c : Client) : Type 0 where
  pub is_open : reached.client.closing ≡ false
  pub same : after ≡ reached
  pub begun : HasUnfinished limits c rest

-- the client was open, the rest is rejected, and the client is closing after the error reply
pub record IsRejected (limits : Bounds) (rest : List ℕ) (reached after : Progress) (c : Client) : Type 0 where
  pub is_open : reached.client.closing ≡ false
  pub why : Rejection
  pub rejected : Rejects limits rest why
  pub replied : after ≡ after_rejection why reached
  pub begun : HasUnfinished limits c []

-- the client was closing, and the rest is ignored
pub record IsIgnored (limits : Bounds) (reached after : Progress) (c : Client) : Type 0 where
  pub closing : reached.client.closing ≡ true
  pub same : after ≡ reached
  pub begun : HasUnfinished limits c []

-- the client has begun a request with the rest; or the rest is rejected; or the client was closing, and the rest is
-- ignored
abbrev pub Ends : Bounds → List ℕ → Progress → Progress → Client → Type 0
Ends limits rest reached after c = Begins limits rest reached after c ⊎
    (IsRejected limits rest reached after c ⊎ IsIgnored limits reached after c)

-- The bytes are requests, which were done in order, and a rest. Before each request, and before the error reply to a
-- rest that is rejected, at most `held` bytes waited.
pub record Takes (held : ℕ) (bytes : List ℕ) (old new : ServerState) (before after : Client) : Type 0 where
  pub parts : List Part
  pub rest : List ℕ
  pub reached : Progress
  pub does : DoesParts old.limits parts bytes rest (progress_of old before) reached
  pub ends : Ends old.limits rest reached (progress_of new after) after
  pub few : WaitsFewBefore held parts (progress_of old before)
  pub few_last : (waiting_of after ≡ reached.waiting) ⊎ (length reached.waiting ≤ held)

-- The first of the bytes are requests, which were done in order. Nothing else was done, and the client is closing.
pub record TakesFirst (held : ℕ) (bytes : List ℕ) (old new : ServerState) (before after : Client) : Type 0 where
  pub parts : List Part
  pub rest : List ℕ
  pub reached : Progress
  pub does : DoesParts old.limits parts bytes rest (progress_of old before) reached
  pub closing : progress_of new after ≡ closed reached
  pub begun : HasUnfinished old.limits after []
  pub few : WaitsFewBefore held parts (progress_of old before)

-- the client is open, and more than this many bytes wait
pub record IsFull (held : ℕ) (c : Client) : Type 0 where
  pub is_open : (standing_of c).closing ≡ false
  pub many : held < length (waiting_of c)

-- the text is a request, and it was done
pub record TakesPart (limits : Bounds) (text : List ℕ) (before after : Progress) : Type 0 where
  pub asked : Option Asked
  pub request : IsRequestFor limits asked text
  pub done : after ≡ after_request asked before

-- a request that ends in the piece was done, or none ends in it
abbrev pub TakesOne : Bounds → List ℕ → List ℕ → Option ℕ → Progress → Progress → Client → Type 0
TakesOne limits front piece None before after c = HasUnfinished limits c (front ++ piece) × (after ≡ before)
TakesOne limits front piece (Some used) before after c =
    HasUnfinished limits c [] × TakesPart limits (front ++ take used piece) before after
