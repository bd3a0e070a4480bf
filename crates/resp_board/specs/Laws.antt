-- What is true of the commands of many clients on several lines.
use Rattle.std.specs.Prelude.{◌≢◌, false, slice_get, slice_set, ◌≡◌, ◌+◌, ◌++◌, ◌∷◌, ℕ, List, [], Some, drop, map, take}
use Rattle.std.specs.List.{AllByRecursion, concat}
use Rattle.resp_board.specs.declared.ticket.ClientId.{ClientId}
use Rattle.resp_board.specs.Answers.{front_answers}
use Rattle.resp_board.specs.Boards.{Board, Entry, Event, Place, Reply, after_events, answer_at, happens, is_same, nothing_asked, with_part}
use Rattle.resp_board.specs.Connections.{AreAwaited, IsAnswered, UsesOneLine, after_passing, answered_to, due_to, owners_on, replies_on}
use Rattle.resp_board.specs.Differences.{AnswersAnother, RunsDifferForOthers}
use Rattle.resp_board.specs.Histories.{due_on}
use Rattle.resp_board.specs.Once.{WaitsOnce, answer_of}
use Rattle.resp_board.specs.Orders.{RunKeepsOrder, texts_ordered, texts_sent}
use Rattle.resp_board.specs.Tickets.{answer_to, answers_for, command_of, place_of}

-- a part that waits has no answer, and it waits once and on one line
abbrev pub APartWaitsOnce : Type 0
APartWaitsOnce = (events : List Event) →
    WaitsOnce (after_events nothing_asked events).entries (after_events nothing_asked events).waiting

-- an answer to a part is its only one
abbrev pub AnAnswerStays : Type 0
AnAnswerStays = (events : List Event) (e : Event) (entry part : ℕ) (text : List ℕ) →
    answer_of (after_events nothing_asked events).entries entry part ≡ Some (Some text) →
    answer_of (happens (after_events nothing_asked events) e).entries entry part ≡ Some (Some text)

-- A ticket is a client and the number of a command among its own: the answer to a part is found by it, and changes this answer and
-- no answer of another client.
pub record FindsCommand (who : ClientId) (n : ℕ) (es : List Entry) (e : Entry) (part : ℕ) (text : List ℕ) : Type 0 where
  pub own : answers_for who (answer_at es (place_of who n es) part text) ≡ slice_set (answers_for who es) n (answer_to (with_part part text e))
  pub others : (other : ClientId) → is_same other who ≡ false → answers_for other (answer_at es (place_of who n es) part text) ≡ answers_for other es

abbrev pub ATicketFindsItsCommand : Type 0
ATicketFindsItsCommand = (who : ClientId) (n : ℕ) (es : List Entry) (e : Entry) (part : ℕ) (text : List ℕ) →
    command_of who n es ≡ Some e → FindsCommand who n es e part text

-- If two runs differ only in the replies to the commands of others, the same bytes are due to a client.
abbrev pub OthersAnswersChangeNothing : Type 0
OthersAnswersChangeNothing = (who : ClientId) (events others : List Event) →
    RunsDifferForOthers who nothing_asked events others →
    due_on who (after_events nothing_asked events) ≡ due_on who (after_events nothing_asked others)

-- A reply to another client's command gives a client nothing, and another reply instead changes nothing for it, whatever
-- happens later.
pub record ChangesNothingFor (who : ClientId) (events : List Event) (line : ℕ) (text : List ℕ) : Type 0 where
  pub now : due_on who (happens (after_events nothing_asked events) (Reply line text)) ≡ due_on who (after_events nothing_asked events)
  pub later : (other : List ℕ) (later : List Event) →
      due_on who (after_events nothing_asked (events ++ Reply line text ∷ later)) ≡
      due_on who (after_events nothing_asked (events ++ Reply line other ∷ later))

abbrev pub AReplyIsItsOwnersAlone : Type 0
AReplyIsItsOwnersAlone = (who : ClientId) (events : List Event) (line : ℕ) (text : List ℕ) →
    AnswersAnother who (after_events nothing_asked events).entries ((after_events nothing_asked events).waiting line) →
    ChangesNothingFor who events line text

-- The bytes that are due to a client, if a command at a place has this answer, and its earlier commands have those that were
-- told: they, the answer, and those to its later commands, up to the first that is missing.
abbrev pub due_with : ClientId → List (List ℕ) → List ℕ → ℕ → Board → List ℕ
due_with who told answer place b = concat told ++ answer ++ concat (front_answers (answers_for who (drop (place + 1) b.entries)))

-- A client gets the reply to its command, or the answer that the last reply to its parts makes, after the answers to its earlier
-- commands.
abbrev pub EachReplyIsGiven : Type 0
EachReplyIsGiven = (events : List Event) (line : ℕ) (text answer : List ℕ) (p : Place) (rest : List Place) (e : Entry) (told : List (List ℕ)) →
    (after_events nothing_asked events).waiting line ≡ p ∷ rest →
    slice_get (after_events nothing_asked events).entries p.entry ≡ Some e →
    answer_to (with_part p.part text e) ≡ Some answer →
    answers_for e.client (take p.entry (after_events nothing_asked events).entries) ≡ map Some told →
    due_on e.client (happens (after_events nothing_asked events) (Reply line text)) ≡
    due_with e.client told answer p.entry (after_events nothing_asked events)

-- a client whose commands all go to one line sees one connection, whatever happens on other lines
abbrev pub OneLineIsAConnection : Type 0
OneLineIsAConnection = (who : ClientId) (line : ℕ) (events : List Event) → AllByRecursion (UsesOneLine who line) events →
    due_on who (after_events nothing_asked events) ≡ due_to who (after_passing line [] events)

-- a client's commands all go to one line, and each of their answers is a reply of its server, which is awaited
pub record IsServedByOne (who : ClientId) (line : ℕ) (events : List Event) : Type 0 where
  pub one : AllByRecursion (UsesOneLine who line) events
  pub answered : AllByRecursion (IsAnswered who line) events
  pub awaited : AreAwaited line events

-- the nth reply of a line answers the nth command that went there
abbrev pub OneLineIsAZip : Type 0
OneLineIsAZip = (who : ClientId) (line : ℕ) (events : List Event) → IsServedByOne who line events →
    due_on who (after_events nothing_asked events) ≡ answered_to who (owners_on line events) (replies_on line events)

-- a client that is alone on a line gets all replies of its server
abbrev pub AClientAloneGetsAll : Type 0
AClientAloneGetsAll = (who : ClientId) (line : ℕ) (events : List Event) → IsServedByOne who line events →
    AllByRecursion (λ (owner : ClientId). owner ≡ who) (owners_on line events) →
    due_on who (after_events nothing_asked events) ≡ concat (replies_on line events)

-- The commands of a client that went to a line, followed by those that are held for it on another line, are those that the client
-- sent to the two, in their order.
abbrev pub LinesKeepEachClientsOrder : Type 0
LinesKeepEachClientsOrder = (who : ClientId) (line held : ℕ) (b : Board) (events : List Event) → line ≢ held →
    RunKeepsOrder who line held b events →
    texts_ordered who line held (after_events b events) ≡ texts_ordered who line held b ++ texts_sent who line held events
