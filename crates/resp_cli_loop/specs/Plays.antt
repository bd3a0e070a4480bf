-- What the steps of a script come to, and why they are not played to their end.
use Rattle.std.specs.Prelude.{◌≡◌, ◌⊎◌, ℕ, zero, suc, List, [], ◌∷◌, ◌++◌, length, Contains, map, Bool, true, false, Option, None, Some, Result, Ok, Err, IsErrOf, codes, decimal}
use Rattle.std.specs.List.{flat_map}
use Rattle.resp_value.specs.Bounds.{Bounds}
use Rattle.resp_value.specs.Causes.{name_of}
use Rattle.resp_io.specs.Devices.{Appends, count_after, last_count}
use Rattle.resp_value.specs.declared.cause.Cause.{Cause}
use Rattle.resp_session.specs.Connections.{Connection, shown_pushes, shown_replies}
use Rattle.resp_session.specs.Runs as runs
use Rattle.resp_session.specs.Runs.{Step, connection_of}
use Rattle.resp_session.specs.Worlds.{World, WorldEvent, ToServer, ToClient, client_of, connection_at}
use Rattle.resp_wire.specs.Worlds.{Shows, WorldState, event_of}
use Rattle.resp_wire.specs.declared.event.Event.{Event}
use Rattle.resp_wire.specs.declared.event.Outcome.{Outcome}
use Rattle.resp_wire.specs.declared.event.Outcome.TheVariants.{Done}
use Rattle.resp_print.specs.Written.{AppendsPart}
use Rattle.resp_cli_loop.specs.Printed.{HaveTooDeep, PlayedEvent, counts_text, outcome_text}
use Rattle.resp_cli_loop.specs.declared.play.PlayError.{PlayError}
use Rattle.resp_cli_loop.specs.declared.play.PlayError.TheVariants.{Stopped, Write, Memory}

-- the line that says why the script was not played to its end
abbrev pub play_fault_line : PlayError → List ℕ
play_fault_line (Stopped line cause) = codes "line " ++ decimal line ++ codes ": " ++ name_of cause ++ codes "\n"
play_fault_line Write = codes "write failed\n"
play_fault_line Memory = codes "out of memory\n"

-- the line that says why no connection was opened for a client
abbrev pub no_connection_line : ℕ → List ℕ → List ℕ
no_connection_line client why = codes "  no connection for client " ++ decimal client ++ codes ": " ++ why ++ codes "\n"

-- an event of the step in this line
abbrev pub played : ℕ → Bool → WorldEvent → PlayedEvent
played line is_flush event = record { line = line; event = event; is_flush = is_flush }

-- the events of `flush`: for each client, all waiting bytes go to its session, and then all waiting bytes of the
-- session go to the client
abbrev pub flush_events : ℕ → ℕ → List PlayedEvent
flush_events line zero = []
flush_events line (suc clients) = flush_events line clients ++
    (played line true (ToServer (suc clients) last_count) ∷ played line true (ToClient (suc clients) last_count) ∷ [])

-- the events of the step in this line, with this many clients
abbrev pub step_events : ℕ → ℕ → Option Event → List PlayedEvent
step_events clients line (Some event) = played line false (event_of event) ∷ []
step_events clients line None = flush_events line clients

-- the events of steps, in order
abbrev pub steps_events : ℕ → List (ℕ × Option Event) → List PlayedEvent
steps_events clients steps = flat_map (λ (step : ℕ × Option Event). step_events clients step.0 step.1) steps

-- the text of the result of an event, which leads from one world to the next
abbrev pub text_of_step : World → PlayedEvent → runs.Outcome → World → List ℕ
text_of_step w played outcome next = outcome_text (client_of played.event) played.is_flush outcome
    (connection_of w played.event) (connection_of next played.event)

-- The events have the results of the definitions, one after another, and this is their text.
abbrev pub Plays : Bounds → World → List PlayedEvent → List ℕ → World → Type 0
Plays limits w [] text last = (text ≡ []) × (last ≡ w)
Plays limits w (played ∷ events) text last = (outcome : runs.Outcome) × (next : World) × (rest : List ℕ) ×
    Step limits w played.event outcome next × Plays limits next events rest last ×
    (text ≡ text_of_step w played outcome next ++ rest)

-- these events were played, with this text and this world as the result
pub record ArePlayed (limits : Bounds) (w : World) (events : List PlayedEvent) : Type 0 where
  pub text : List ℕ
  pub last : World
  pub plays : Plays limits w events text last

-- all of the events were played, the world shows what they leave, and their text was appended
pub record PlaysAll {L : Type 0} (is_honest : L → Type 0) (limits : Bounds) (w : World) (events : List PlayedEvent)
    (after : WorldState L) (held held' : Option (List ℕ)) : Type 0 where
  pub played : ArePlayed limits w events
  pub shows : Shows is_honest after limits played.last
  pub appended : Appends held held' played.text

-- one of these events, the events before it, and the events after it
pub record EventIn (events : List PlayedEvent) : Type 0 where
  pub done : List PlayedEvent
  pub event : PlayedEvent
  pub later : List PlayedEvent
  pub whole : events ≡ done ++ event ∷ later

-- the events before one in this line were played, and their text was appended
pub record PlaysUpTo (limits : Bounds) (w : World) (events : List PlayedEvent) (line : ℕ)
    (held held' : Option (List ℕ)) : Type 0 where
  pub stopped_at : EventIn events
  pub at_line : stopped_at.event.line ≡ line
  pub played : ArePlayed limits w stopped_at.done
  pub appended : Appends held held' played.text

-- The events up to one were played, and no event after it. The text of the events before it was appended, and the first
-- part of its own text. The world shows what it leaves.
pub record PlaysPart {L : Type 0} (is_honest : L → Type 0) (limits : Bounds) (w : World) (events : List PlayedEvent)
    (after : WorldState L) (held held' : Option (List ℕ)) : Type 0 where
  pub failing : EventIn events
  pub played : ArePlayed limits w failing.done
  pub outcome : runs.Outcome
  pub next : World
  pub step : Step limits played.last failing.event.event outcome next
  pub shows : Shows is_honest after limits next
  pub begun : List ℕ
  pub unwritten : List ℕ
  pub parts : text_of_step played.last failing.event outcome next ≡ begun ++ unwritten
  pub appended : Appends held held' (played.text ++ begun)

-- The result of playing events: all of them and their text; or the events before the one at which the world stopped,
-- and their text; or the events up to the one whose text was not written to its end, if a write failed or when out of
-- memory.
abbrev pub PlaysTo : {L : Type 0} → (L → Type 0) → Bounds → World → List PlayedEvent → WorldState L →
    Option (List ℕ) → Option (List ℕ) → Result (Unit {0}) PlayError → Type 0
PlaysTo {L} is_honest limits w events after held held' (Ok x) = PlaysAll is_honest limits w events after held held'
PlaysTo {L} is_honest limits w events after held held' (Err (Stopped line cause)) =
    PlaysUpTo limits w events line held held'
PlaysTo {L} is_honest limits w events after held held' (Err e) =
    PlaysPart is_honest limits w events after held held'

-- The result of playing all events of a script, and then the line of counts. Either all text was appended; or the
-- events ended early, as PlaysTo says; or all were played, and the first part of the line was appended to their text.
abbrev pub PlaysScript : {L : Type 0} → (L → Type 0) → Bounds → World → List PlayedEvent → WorldState L →
    Option (List ℕ) → Option (List ℕ) → Result (Unit {0}) PlayError → Type 0
PlaysScript {L} is_honest limits w events after held held' (Ok x) =
    (between : Option (List ℕ)) × (all : PlaysAll is_honest limits w events after held between) ×
    Appends between held' (counts_text all.played.last)
PlaysScript {L} is_honest limits w events after held held' (Err (Stopped line cause)) =
    PlaysUpTo limits w events line held held'
PlaysScript {L} is_honest limits w events after held held' (Err e) =
    PlaysPart is_honest limits w events after held held' ⊎
    (between : Option (List ℕ)) × (all : PlaysAll is_honest limits w events after held between) ×
    AppendsPart between held' (counts_text all.played.last)

-- the world shows a reply or a push that is nested too deeply to be printed
pub record ShowsTooDeep {L : Type 0} (is_honest : L → Type 0) (limits : Bounds) (after : WorldState L) : Type 0 where
  pub next : World
  pub shows : Shows is_honest after limits next
  pub client : ℕ
  pub connection : Connection
  pub there : connection_at next.connections client ≡ Some connection
  pub deep : HaveTooDeep (shown_replies connection) ⊎ HaveTooDeep (shown_pushes connection)

-- the call runs out of memory only if the world then shows a reply or a push that is nested too deeply to be printed
abbrev pub LacksMemoryOnlyTooDeep : {L : Type 0} → (L → Type 0) → WorldState L → WorldState L →
    Result (Unit {0}) PlayError → Type 0
LacksMemoryOnlyTooDeep {L} is_honest before after result = IsErrOf result Memory → (limits : Bounds) (w : World) →
    Shows is_honest before limits w → ShowsTooDeep is_honest limits after

-- P holds of the line and the cause, if the error is a stop of the world
abbrev pub WhereStopped : (ℕ → Cause → Type 0) → PlayError → Type 0
WhereStopped P (Stopped line cause) = P line cause
WhereStopped P _ = Unit {0}

-- the world stopped at the line of one of these steps
abbrev pub IsAtStep : List (ℕ × Option Event) → PlayError → Type 0
IsAtStep steps error =
    WhereStopped (λ line cause. Contains (map (λ (step : ℕ × Option Event). step.0) steps) line) error

-- if the world stops, it keeps the cause; if the call succeeds, a world that had not stopped goes on
abbrev pub KeepsCause : Option Cause → Option Cause → Result (Unit {0}) PlayError → Type 0
KeepsCause before after (Ok x) = before ≡ None → after ≡ None
KeepsCause before after (Err error) = WhereStopped (λ line cause. after ≡ Some cause) error

-- one write failed if the error is a failed write, and otherwise none did
abbrev pub FailsToWrite : ℕ → ℕ → Result (Unit {0}) PlayError → Type 0
FailsToWrite failures failures' (Err Write) = failures' ≡ count_after 1 failures
FailsToWrite failures failures' _ = failures' ≡ failures

-- the numbers of replies and pushes that a connection has received, if there is one
abbrev pub AreShownOn : ℕ → ℕ → Option Connection → Type 0
AreShownOn replies pushes None = Unit {0}
AreShownOn replies pushes (Some c) = (replies ≡ length (shown_replies c)) × (pushes ≡ length (shown_pushes c))

-- if the event happened, its connection exists before and after it
abbrev pub AreThere : Outcome → Option Connection → Option Connection → Type 0
AreThere Done (Some before) (Some after) = Unit {0}
AreThere Done before after = ⊥
AreThere outcome before after = Unit {0}

-- the error is not a stop of the world; one write failed if the error is a failed write, and otherwise none did
abbrev pub EndsPrint : ℕ → ℕ → Result (Unit {0}) PlayError → Type 0
EndsPrint failures failures' (Err (Stopped line cause)) = ⊥
EndsPrint failures failures' result = FailsToWrite failures failures' result
