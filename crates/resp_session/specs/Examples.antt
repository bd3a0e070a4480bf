-- Definitions for the worked examples.
use Rattle.std.specs.Prelude.{◌≡◌, ℕ, true, false, List, [], ◌∷◌, ◌++◌, Option, None, Some, map, fold, codes}
use Rattle.resp_value.specs.Bounds.{Bounds, AreBounds}
use Rattle.resp_value.specs.Data.{Datum, Attr, aggregate, more, none}
use Rattle.resp_value.specs.declared.cause.Cause.{Cause}
use Rattle.resp_value.specs.declared.cause.Cause.TheVariants.{TooMany}
use Rattle.resp_value.specs.declared.version.Version.TheVariants.{Two, Three}
use Rattle.resp_session.specs.Runs.{Step, Refused, Gone}
use Rattle.resp_session.specs.Replies.{bulk_string, simple_string}
use Rattle.resp_session.specs.Requests.{Request, FitsRequest, RefusesRequest, is_unsent_request}
use Rattle.resp_session.specs.Answers.{SessionState, Answers, after_values}
use Rattle.resp_session.specs.Connections.{Connection, shown_replies, shown_pushes, push_message}
use Rattle.resp_session.specs.Worlds.{World, WorldEvent, Send, Greet, ToServer, ToClient, Push, Drop, new_world, after_event, connection_at}

-- a new session over an empty store
abbrev pub new_session : SessionState
new_session = record { store = []; version = Two; text = []; closing = false; count = 0 }

-- the answers of session 1 to these values
abbrev pub answers_to : List Datum → List ℕ
answers_to values = (after_values 1 new_session values).text

-- the state of session 1 after a first byte that begins no value
abbrev pub refused_at_once : SessionState
refused_at_once = record new_session { text = codes "-ERR Protocol error: Syntax at byte 0\r\n"; closing = true }

-- an inline command is rejected at its first byte
abbrev pub AnInlineCommandIsRefused : Type 0
AnInlineCommandIsRefused = (limits : Bounds) → AreBounds limits →
    Answers limits 1 new_session (codes "PING\r\n") refused_at_once (codes "PING\r\n")

-- the reply of session 1 to HELLO in version 3
abbrev pub hello_in_three : List ℕ
hello_in_three = codes "%7\r\n$6\r\nserver\r\n$9\r\nresp_loop\r\n$7\r\nversion\r\n$5\r\n1.0.0\r\n$5\r\nproto\r\n:3\r\n"
    ++
    codes "$2\r\nid\r\n:1\r\n$4\r\nmode\r\n$10\r\nstandalone\r\n$4\r\nrole\r\n$6\r\nmaster\r\n$7\r\nmodules\r\n*0\r\n"

-- the reply of session 1 to HELLO in version 2
abbrev pub hello_in_two : List ℕ
hello_in_two = codes "*14\r\n$6\r\nserver\r\n$9\r\nresp_loop\r\n$7\r\nversion\r\n$5\r\n1.0.0\r\n$5\r\nproto\r\n:2\r\n"
    ++
    codes "$2\r\nid\r\n:1\r\n$4\r\nmode\r\n$10\r\nstandalone\r\n$4\r\nrole\r\n$6\r\nmaster\r\n$7\r\nmodules\r\n*0\r\n"

-- the words of SET a 1
abbrev pub set_a : List (List ℕ)
set_a = codes "SET" ∷ codes "a" ∷ codes "1" ∷ []

-- the words of GET a
abbrev pub get_a : List (List ℕ)
get_a = codes "GET" ∷ codes "a" ∷ []

-- two clients: one requests to set a key, and the other, whose command runs first, to read it
abbrev pub get_before_set : World
get_before_set = fold after_event (new_world 2) (Send 1 set_a ∷ Send 2 get_a ∷ ToServer 2 20 ∷ ToServer 1 27 ∷
    ToServer 1 1000 ∷ ToClient 1 1000 ∷ ToServer 2 1000 ∷ ToClient 2 1000 ∷ [])

-- one client that requests version 3, and is sent a push after the reply
abbrev pub push_after_hello : World
push_after_hello = fold after_event (new_world 1) (Greet 1 (Some Three) ∷ ToServer 1 1000 ∷ ToClient 1 148 ∷
    Push 1 (bulk_string (codes "x") ∷ []) ∷ ToClient 1 10 ∷ ToClient 1 1 ∷ [])

-- two clients: the second reads the key that the first has set
abbrev pub get_after_set : World
get_after_set = fold after_event (new_world 2) (Send 1 set_a ∷ Send 2 get_a ∷ ToServer 1 27 ∷ ToServer 2 20 ∷
    ToClient 2 1000 ∷ [])

-- that client is sent two more pushes, the last of which it has not received completely
abbrev pub more_pushes : World
more_pushes = fold after_event push_after_hello (Push 1 (bulk_string (codes "y") ∷ []) ∷
    Push 1 (bulk_string (codes "z") ∷ []) ∷ ToClient 1 12 ∷ [])

-- one client that is dropped while its command waits
abbrev pub dropped_before_set : World
dropped_before_set = fold after_event (new_world 1) (Send 1 set_a ∷ Drop 1 ∷ [])

-- a push of one bulk string
abbrev pub push_of_one : List ℕ → Datum
push_of_one content = (push_message (bulk_string content ∷ [])).value

-- the value with an attribute without pairs in front of it
abbrev pub annotated : Datum → Datum
annotated x = aggregate Attr (more x none)

-- the value with an attribute of one pair in front of it, whose value is this
abbrev pub annotated_with : Datum → Datum → Datum
annotated_with note x = aggregate Attr (more (simple_string (codes "k")) (more note (more x none)))

-- a client that has queued this many commands never fails with `TooMany`
abbrev pub HasNumberAfter : ℕ → Type 0
HasNumberAfter count = (limits : Bounds) (request : Request) → RefusesRequest limits count request TooMany → ⊥

-- a client that has queued this many commands fails with `TooMany` at each request that it would otherwise send
abbrev pub HasNoNumberAfter : ℕ → Type 0
HasNoNumberAfter count = (limits : Bounds) (request : Request) → is_unsent_request request ≡ false →
    FitsRequest limits request → RefusesRequest limits count request TooMany

-- the clients of the commands, in the order in which the commands were run
abbrev pub clients_of : World → List ℕ
clients_of w = map (λ (c : ℕ × List (List ℕ)). c.0) w.order

abbrev pub replies_on : Option Connection → List Datum
replies_on None = []
replies_on (Some c) = shown_replies c

-- the replies that are shown to the client of this number
abbrev pub replies_to : World → ℕ → List Datum
replies_to w i = replies_on (connection_at w.connections i)

abbrev pub pushes_on : Option Connection → List Datum
pushes_on None = []
pushes_on (Some c) = shown_pushes c

-- the pushes that are shown to the client of this number
abbrev pub pushes_to : World → ℕ → List Datum
pushes_to w i = pushes_on (connection_at w.connections i)

-- under all limits, the event is refused with this cause after this world
abbrev pub RefusesEventFor : World → WorldEvent → Cause → Type 0
RefusesEventFor w event cause = (limits : Bounds) → Step limits w event (Refused cause) w

-- under all limits, no client of this world has the number of the event
abbrev pub IsOfNobody : World → WorldEvent → Type 0
IsOfNobody w event = (limits : Bounds) → Step limits w event Gone w
