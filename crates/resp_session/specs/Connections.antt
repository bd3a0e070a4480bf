-- A client and its session: the messages that each has sent to the other, and how many bytes of them were received.
use Rattle.std.specs.Prelude.{ℕ, ◌+◌, ◌-◌, Bool, true, false, List, [], ◌∷◌, ◌++◌, length, map, take, drop, min, nat_lt, if◌then◌else◌}
use Rattle.std.specs.List.{concat}
use Rattle.resp_value.specs.Data.{Datum, aggregate, data_of_list}
use Rattle.resp_value.specs.Data as d
use Rattle.resp_value.specs.Canonical.{canonical_text}
use Rattle.resp_value.specs.declared.version.Version.{Version}
use Rattle.resp_value.specs.declared.version.Version.TheVariants.{Two, Three}
use Rattle.resp_session.specs.Heard.{replies_of, pushes_of}
use Rattle.resp_session.specs.Requests.{Request, request_text}
use Rattle.resp_session.specs.Stores.{Effect}

-- a reply or a push, with the version in which it is written
pub record Message : Type 0 where
  pub value : Datum
  pub version : Version

-- the text of a message
abbrev pub message_text : Message → List ℕ
message_text m = canonical_text m.version m.value

-- a push of these items, which is written in version 3
abbrev pub push_message : List Datum → Message
push_message items = record { value = aggregate d.Push (data_of_list items); version = Three }

-- a client and its session
pub record Connection : Type 0 where
  -- the requests of the client
  pub requests : List Request
  -- the number of bytes of the requests that the session has received
  pub arrived : ℕ
  -- the session's version
  pub version : Version
  -- the replies and pushes of the session
  pub messages : List Message
  -- the number of bytes of the messages that the client has received
  pub shown : ℕ
  -- whether the session is closed, so that no more bytes are carried
  pub dropped : Bool

-- a connection on which nothing was sent
abbrev pub new_connection : Connection
new_connection =
    record { requests = []; arrived = 0; version = Two; messages = []; shown = 0; dropped = false }

-- the text of all requests
abbrev pub sent_text : Connection → List ℕ
sent_text c = concat (map request_text c.requests)

-- the text of all messages
abbrev pub back_text : Connection → List ℕ
back_text c = concat (map message_text c.messages)

-- the number of these texts, one after another, that are complete within this many bytes
abbrev pub whole_within : List (List ℕ) → ℕ → ℕ
whole_within [] n = 0
whole_within (text ∷ texts) n = if nat_lt n (length text) then 0 else whole_within texts (n - length text) + 1

-- the requests that the session has received completely
abbrev pub arrived_requests : Connection → List Request
arrived_requests c = take (whole_within (map request_text c.requests) c.arrived) c.requests

-- the requests that the session has not received completely
abbrev pub later_requests : Connection → List Request
later_requests c = drop (whole_within (map request_text c.requests) c.arrived) c.requests

-- the messages that the client has received completely
abbrev pub shown_messages : Connection → List Message
shown_messages c = take (whole_within (map message_text c.messages) c.shown) c.messages

-- the values of messages
abbrev pub values_of : List Message → List Datum
values_of messages = map (λ (m : Message). m.value) messages

-- the replies that are shown to the client
abbrev pub shown_replies : Connection → List Datum
shown_replies c = replies_of (values_of (shown_messages c))

-- the pushes that are shown to the client
abbrev pub shown_pushes : Connection → List Datum
shown_pushes c = pushes_of (values_of (shown_messages c))

-- the client makes one more request
abbrev pub with_request : Request → Connection → Connection
with_request request c = record c { requests = c.requests ++ request ∷ [] }

-- the session sends one more message
abbrev pub with_message : Message → Connection → Connection
with_message message c = record c { messages = c.messages ++ message ∷ [] }

-- a command of the session has this effect
abbrev pub with_effect : Effect → Connection → Connection
with_effect effect c = with_message (record { value = effect.reply; version = effect.version })
    (record c { version = effect.version })

-- the session receives this many more bytes, at most those that were sent
abbrev pub with_arrived : ℕ → Connection → Connection
with_arrived k c = record c { arrived = min (c.arrived + k) (length (sent_text c)) }

-- the client receives this many more bytes, at most those that were sent
abbrev pub with_shown : ℕ → Connection → Connection
with_shown k c = record c { shown = min (c.shown + k) (length (back_text c)) }

-- the requests that become complete with this many more bytes
abbrev pub new_requests : ℕ → Connection → List Request
new_requests k c = drop (length (arrived_requests c)) (arrived_requests (with_arrived k c))

-- the connection is dropped
abbrev pub as_dropped : Connection → Connection
as_dropped c = record c { dropped = true }
