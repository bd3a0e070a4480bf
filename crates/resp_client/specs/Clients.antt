-- The state of a client, and the effect of its calls.
use Rattle.std.specs.Prelude.{◌≡◌, ℕ, ◌+◌, List, [], ◌∷◌, ◌++◌, length, drop, Option}
use Rattle.resp_value.specs.Bounds.{Bounds}
use Rattle.resp_value.specs.Data.{Datum}
use Rattle.resp_value.specs.declared.version.Version.{Version}
use Rattle.resp_value.specs.declared.version.Version.TheVariants.{Two}
use Rattle.resp_session.specs.Reading.{Waiting, waiting_after_reply}
use Rattle.resp_session.specs.Requests.{Request, request_text, version_asked}
use Rattle.resp_client.specs.declared.client.Client.{Client}

-- the commands that a client has queued, and the replies that it waits for
pub record ClientState : Type 0 where
  pub limits : Bounds
  -- its version, and the version that each waiting command requests, if any
  pub waiting : Waiting
  -- the number of commands that have a reply
  pub answered : ℕ
  -- the texts of the commands, without the bytes that were removed
  pub out : List ℕ

abbrev pub state_of : Client → ClientState
state_of c = record {
  limits = c.limits;
  waiting = record { version = c.version; asks = c.asks.items };
  answered = c.answered;
  out = c.out.items;
}

-- nothing is queued, and the version is 2
abbrev pub new_state : Bounds → ClientState
new_state limits = record { limits = limits; waiting = record { version = Two; asks = [] }; answered = 0; out = [] }

-- the number of commands that were queued
abbrev pub queued : ClientState → ℕ
queued s = s.answered + length s.waiting.asks

-- the limits, the bytes to be written and the number of queued commands are the same
pub record KeepsQueued (old new : ClientState) : Type 0 where
  pub same_limits : new.limits ≡ old.limits
  pub same_out : new.out ≡ old.out
  pub same_count : queued new ≡ queued old

-- the number of the next reply
abbrev pub next_number : ClientState → ℕ
next_number s = s.answered + 1

-- the state after a request that was queued
abbrev pub with_request : Request → ClientState → ClientState
with_request request s = record s {
  waiting = record { version = s.waiting.version; asks = s.waiting.asks ++ version_asked request ∷ [] };
  out = s.out ++ request_text request;
}

-- one more command waits, which requests this version or none
abbrev pub with_ask : Option Version → ClientState → ClientState
with_ask asked s = record s {
  waiting = record { version = s.waiting.version; asks = s.waiting.asks ++ asked ∷ [] };
}

-- the state after this many bytes were removed
abbrev pub without_front : ℕ → ClientState → ClientState
without_front count s = record s { out = drop count s.out }

-- the state after a reply to the first command that waits
abbrev pub with_answer : Datum → ClientState → ClientState
with_answer x s = record s {
  waiting = waiting_after_reply s.waiting.version s.waiting.asks x;
  answered = s.answered + 1;
}
