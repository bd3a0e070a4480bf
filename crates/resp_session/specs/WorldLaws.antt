-- Statements that have to be true if the definitions of worlds are right.
use Rattle.std.specs.Prelude.{◌≡◌, ℕ, ◌^◌, ◌<◌, ◌≤◌, List, ◌++◌, length, map, take, Some}
use Rattle.std.specs.List.{AllByRecursion}
use Rattle.resp_value.specs.Bounds.{Bounds, AreBounds}
use Rattle.resp_value.specs.Canonical.{IsValue}
use Rattle.resp_value.specs.Data.{Datum}
use Rattle.resp_value.specs.Rules.{rules_under}
use Rattle.resp_value.specs.Spellings.{IsSpelling}
use Rattle.resp_value.specs.Words.{command_of}
use Rattle.resp_value.specs.declared.version.Version.{Version}
use Rattle.resp_value.specs.declared.version.Version.TheVariants.{Two}
use Rattle.resp_session.specs.Answers.{server_rules}
use Rattle.resp_session.specs.Arrivals.{HasCome, HasBeenRead, MeetsNoFault}
use Rattle.resp_session.specs.Heard.{replies_of, pushes_of}
use Rattle.resp_session.specs.Reading.{Waiting, MayGoOn, ReadsAs}
use Rattle.resp_session.specs.Requests.{version_asked, Request, Command, HasBytes, request_words, request_text}
use Rattle.resp_session.specs.Connections.{Connection, Message, message_text, push_message, back_text, later_requests, sent_text, values_of, shown_messages, shown_replies, shown_pushes}
use Rattle.resp_session.specs.Worlds.{World, WorldEvent, Send, Push, connection_at, new_world, with_change}
use Rattle.resp_session.specs.Runs.{Run}
use Rattle.resp_session.specs.Orders.{OneOrder, IsBeginning, part_of_client}

-- whatever happens, one order of all commands explains the store, the versions and the replies, and the commands of
-- each client in it are a prefix of its requests
abbrev pub AWorldHasOneOrder : Type 0
AWorldHasOneOrder = (limits : Bounds) (n : ℕ) (events : List WorldEvent) (w : World) →
    Run limits (new_world n) events w →
    OneOrder n w

-- a run of events and then of more events is a run of the first and a run of the others
abbrev pub ARunIsCut : Type 0
ARunIsCut = (limits : Bounds) (w v : World) (events more : List WorldEvent) → Run limits w (events ++ more) v →
    (u : World) × Run limits w events u × Run limits u more v

-- the commands that were run stay first in the order, so commands that are run later come after them
abbrev pub TheOrderOnlyGrows : Type 0
TheOrderOnlyGrows = (limits : Bounds) (w v : World) (events : List WorldEvent) → Run limits w events v →
    IsBeginning w.order v.order

-- a reply that is shown belongs to a command that was run: a client is shown at most as many replies as it has commands
-- in the order
abbrev pub ShownRepliesAreOfTheOrder : Type 0
ShownRepliesAreOfTheOrder = (limits : Bounds) (n : ℕ) (events : List WorldEvent) (w : World) →
    Run limits (new_world n) events w → (i : ℕ) (c : Connection) → connection_at w.connections i ≡ Some c →
    length (shown_replies c) ≤ length (part_of_client i w.order)

-- the messages shown to a client are a prefix of those that its session has sent
abbrev pub WhatIsShownWasSent : Type 0
WhatIsShownWasSent = (c : Connection) → IsBeginning (shown_replies c) (replies_of (values_of c.messages)) ×
    IsBeginning (shown_pushes c) (pushes_of (values_of c.messages))

-- the events that a program can cause: words consist of bytes, and pushed items are values
abbrev pub IsPossible : WorldEvent → Type 0
IsPossible (Send i words) = HasBytes (Command words)
IsPossible (Push i items) = IsValue (push_message items).value
IsPossible _ = Unit {0}

-- the request has a word, so the text that is sent for it is a command
abbrev pub HasName : Request → Type 0
HasName request = 0 < length (request_words request)

-- each request of a connection, as the value that is sent for it
abbrev pub request_values : Connection → List Datum
request_values c = map (λ (request : Request). command_of (request_words request)) c.requests

-- the bytes received by a session are a number of whole commands and a viable rest that does not begin with a value, so
-- no session of a world reports a fault
abbrev pub WhatArrivesIsCommands : Type 0
WhatArrivesIsCommands = (limits : Bounds) (n : ℕ) (events : List WorldEvent) (w : World) → AreBounds limits →
    AllByRecursion IsPossible events → Run limits (new_world n) events w → (i : ℕ) (c : Connection) →
    connection_at w.connections i ≡ Some c → AllByRecursion HasName c.requests ×
    HasCome (server_rules limits) (request_values c) (map request_text c.requests) (take c.arrived (sent_text c))

-- Whatever happens to fewer than 2^63 clients, this holds of each connection. With more clients HELLO's reply cannot be
-- encoded, because it has the client's number as an integer.
abbrev pub AlwaysHolds : (Bounds → Connection → Type 0) → Type 0
AlwaysHolds Holds = (limits : Bounds) (n : ℕ) (events : List WorldEvent) (w : World) → AreBounds limits → n < 2 ^ 63 →
    AllByRecursion IsPossible events → Run limits (new_world n) events w → (i : ℕ) (c : Connection) →
    connection_at w.connections i ≡ Some c → Holds limits c

-- the message's text is a spelling of its value, in the version in which it is written
abbrev pub IsWritten : Bounds → Message → Type 0
IsWritten limits m = IsSpelling (rules_under m.version limits) m.value (message_text m)

-- all messages of a session are within the limits
abbrev pub EachMessageIsWritten : Type 0
EachMessageIsWritten = AlwaysHolds (λ limits c. AllByRecursion (IsWritten limits) c.messages)

-- the state of a client in this version that has made these requests and has received nothing
abbrev pub waiting_for : Version → List Request → Waiting
waiting_for version requests = record { version = version; asks = map version_asked requests }

-- The client reads the text of all messages of its session: each message, and then it waits, in the session's version,
-- for the replies to the requests that the session has not received.
abbrev pub IsReadByItsClient : Bounds → Connection → Type 0
IsReadByItsClient limits c = ReadsAs limits (waiting_for Two c.requests) (values_of c.messages) (back_text c)
    (waiting_for c.version (later_requests c))

abbrev pub WhatIsWrittenIsRead : Type 0
WhatIsWrittenIsRead = AlwaysHolds IsReadByItsClient

-- the bytes received by a client are the messages that are complete, and a viable rest
abbrev pub WhatIsShownIsRead : Type 0
WhatIsShownIsRead = AlwaysHolds (λ limits c. HasBeenRead limits (waiting_for Two c.requests)
    (values_of (shown_messages c)) (take c.shown (back_text c)))

-- however the bytes received by a client are read, there is no fault
abbrev pub NoClientMeetsAFault : Type 0
NoClientMeetsAFault = AlwaysHolds (λ limits c.
    MeetsNoFault limits (waiting_for Two c.requests) (take c.shown (back_text c)))

-- however the bytes received by a client are read up to a viable rest, the values are the messages that are complete
abbrev pub WhatIsReadIsShown : Type 0
WhatIsReadIsShown = AlwaysHolds (λ limits c. (xs : List Datum) (front rest : List ℕ) (after : Waiting) →
    ReadsAs limits (waiting_for Two c.requests) xs front after → take c.shown (back_text c) ≡ front ++ rest →
    MayGoOn limits after rest → xs ≡ values_of (shown_messages c))

-- however the complete messages that a client has received are read, the rest is viable
abbrev pub WhatIsLeftMayGoOn : Type 0
WhatIsLeftMayGoOn = AlwaysHolds (λ limits c. (front rest : List ℕ) (after : Waiting) →
    ReadsAs limits (waiting_for Two c.requests) (values_of (shown_messages c)) front after →
    take c.shown (back_text c) ≡ front ++ rest → MayGoOn limits after rest)

-- a change of one connection is made, and the others stay the same
abbrev pub AChangeIsOfOneConnection : Type 0
AChangeIsOfOneConnection = (f : Connection → Connection) (cs : List Connection) (i : ℕ) →
    (length (with_change f cs i) ≡ length cs) ×
    ((c : Connection) → connection_at cs i ≡ Some c → connection_at (with_change f cs i) i ≡ Some (f c)) ×
    ((j : ℕ) → (j ≡ i → ⊥) → connection_at (with_change f cs i) j ≡ connection_at cs j)
