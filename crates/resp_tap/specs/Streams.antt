-- The results that `watch` reports for a whole connection, however the bytes of both sides were cut into pieces.
use Rattle.std.specs.Prelude.{◌≡◌, ◌⊎◌, ℕ, ◌+◌, ◌≤◌, false, List, [], ◌∷◌, ◌++◌, length, map, take, Option, Result}
use Rattle.std.specs.List.{AllByRecursion}
use Rattle.resp_value.specs.Bounds.{Bounds}
use Rattle.resp_value.specs.Data.{Datum}
use Rattle.resp_value.specs.Rules.{WithinTotal, rules_under}
use Rattle.resp_value.specs.Spellings.{Cut, IsViable}
use Rattle.resp_value.specs.Values.{datum_of}
use Rattle.resp_value.specs.declared.value.Value.TheVariants as value
use Rattle.resp_scan.specs.Reading.{HasNoValue}
use Rattle.resp_session.specs.Commands.{Call, Meaning, meaning_of}
use Rattle.resp_session.specs.Heard.{numbered_replies, pushes_of}
use Rattle.resp_print.specs.declared.print_error.PrintError.{PrintError}
use Rattle.resp_tap.specs.Kinds.{command_kind}
use Rattle.resp_tap.specs.Lines.{LineState, ReadsLine, asking, next_version, paired}
use Rattle.resp_tap.specs.Parts.{cut_within, lengths_within, word_lengths, words_within}
use Rattle.resp_tap.specs.Taps.{new_tap, tap_state}
use Rattle.resp_tap.specs.Watches.{KeepsOther, Watches, WatchesAll}
use Rattle.resp_tap.specs.Watching.{HasTakenRequest, HasTakenValue, request_rules}
use Rattle.resp_tap.specs.declared.kind.CommandKind.{CommandKind}
use Rattle.resp_tap.specs.declared.kind.CommandKind.TheVariants.{Plain, Hello, Reset}
use Rattle.resp_tap.specs.declared.moment.Moment.{Moment}
use Rattle.resp_tap.specs.declared.print.Printing.{Printing}
use Rattle.resp_tap.specs.declared.seen.Seen.{Seen}
use Rattle.resp_tap.specs.declared.seen.Seen.TheVariants as seen
use Rattle.resp_tap.specs.declared.tap.Tap.{Tap}
use Rattle.resp_tap.specs.declared.watch.Side.{Side}
use Rattle.resp_tap.specs.declared.watch.Side.TheVariants.{Client, Server}

-- a piece that one side sent, with what was told of it
pub record Arrival : Type 0 where
  pub side : Side
  pub piece : List ℕ
  pub told : List Seen

-- the piece arrived: these are its results, as `watch` tells them
pub record Arrives (old new : Tap) (a : Arrival) : Type 0 where
  pub printing : Printing
  pub now : Option Moment
  pub before : Option (List ℕ)
  pub after : Option (List ℕ)
  pub failures : ℕ
  pub failures' : ℕ
  pub result : Result (Unit {0}) PrintError
  pub watched : WatchesAll (Watches printing a.side now) a.told old new a.piece before after failures failures' result
  pub other_side : KeepsOther a.side old new

-- these pieces arrived, one after another
abbrev pub Arrive : Tap → Tap → List Arrival → Type 0
Arrive old new [] = new ≡ old
Arrive old new (a ∷ arrivals) = (next : Tap) × Arrives old next a × Arrive next new arrivals

-- the first of two lists for the client, and the second for the server
abbrev pub by_side : {X : Type 0} → Side → X → X → X
by_side Client x y = x
by_side Server x y = y

-- the bytes of the client, and those of the server
abbrev pub client_bytes : List Arrival → List ℕ
client_bytes [] = []
client_bytes (a ∷ arrivals) = by_side a.side a.piece [] ++ client_bytes arrivals

abbrev pub server_bytes : List Arrival → List ℕ
server_bytes [] = []
server_bytes (a ∷ arrivals) = by_side a.side [] a.piece ++ server_bytes arrivals

-- a command with its number
abbrev pub Numbered : Type 0
Numbered = ℕ × List (List ℕ)

-- what is kept of the words of a command: the first bytes of each word, and the lengths of the longer words
abbrev pub WordsPart : Type 0
WordsPart = List (List ℕ) × List ℕ

-- the same of a command with its number
abbrev pub command_part : Option ℕ → Numbered → ℕ × WordsPart
command_part kept command = (command.0, (words_within kept command.1, word_lengths kept command.1))

abbrev pub command_in : Seen → List (ℕ × WordsPart)
command_in (seen.Command number words lengths) = (number, (words, lengths.items)) ∷ []
command_in _ = []

-- what is kept of a value: one byte more of each text than is shown, and the lengths of the longer texts
abbrev pub Part : Type 0
Part = Datum × List ℕ

abbrev pub part_of : Option ℕ → Datum → Part
part_of most x = (cut_within most x, lengths_within most x)

-- the same of a reply with its number
abbrev pub reply_part : Option ℕ → ℕ × Datum → ℕ × Part
reply_part most reply = (reply.0, part_of most reply.1)

abbrev pub reply_in : Seen → List (ℕ × Part)
reply_in (seen.Reply number kept) = (number, (datum_of kept.value, kept.lengths.items)) ∷ []
reply_in _ = []

abbrev pub push_in : Seen → List Part
push_in (seen.Push members lengths) = (datum_of (value.Push members), lengths.items) ∷ []
push_in _ = []

-- what is told of each result, in order
abbrev pub each : {X : Type 0} → (Seen → List X) → List Seen → List X
each f [] = []
each f (what ∷ more) = f what ++ each f more

abbrev pub told : {X : Type 0} → (Seen → List X) → List Arrival → List X
told f [] = []
told f (a ∷ arrivals) = each f a.told ++ told f arrivals

-- whether a result is no error
abbrev pub IsNoError : Seen → Type 0
IsNoError (seen.NotCommand number) = ⊥
IsNoError (seen.Refused cause at where') = ⊥
IsNoError _ = Unit {0}

-- no error was told
abbrev pub NoError : List Arrival → Type 0
NoError arrivals = AllByRecursion (λ (a : Arrival). AllByRecursion IsNoError a.told) arrivals

-- the words of the commands among these values
abbrev pub words_of : Meaning → List (List (List ℕ))
words_of (Call name arguments) = (name ∷ arguments) ∷ []
words_of _ = []

abbrev pub commands_of : List Datum → List (List (List ℕ))
commands_of [] = []
commands_of (x ∷ xs) = words_of (meaning_of x) ++ commands_of xs

-- the same with their numbers, from the first number on
abbrev pub numbered_commands : ℕ → List (List (List ℕ)) → List Numbered
numbered_commands first [] = []
numbered_commands first (words ∷ more) = (first, words) ∷ numbered_commands (first + 1) more

-- A rest that does not begin with a value, and with whose bytes a value can begin: in the version of the first of the
-- commands that wait, or of none of them.
abbrev pub IsRest : Bounds → LineState → List ℕ → Type 0
IsRest limits l rest = (rest ≡ []) ⊎ ((n : ℕ) × (n ≤ length l.due) × HasNoValue rest ×
    IsViable (rules_under (next_version (record l { due = take n l.due })) limits) WithinTotal rest)

-- The commands that were told are those of the client's bytes, which are cut into values, numbered from 1. Of each command
-- the part is told that is kept.
pub record TellsCommands (limits : Bounds) (kept : Option ℕ) (arrivals : List Arrival) : Type 0 where
  pub values : List Datum
  pub rest : List ℕ
  pub cut : Cut (request_rules limits) (client_bytes arrivals) values rest
  pub commands : told command_in arrivals ≡ map (command_part kept) (numbered_commands 1 (commands_of values))

-- The replies and the pushes that were told are those of the server's bytes, which are read while all of these commands
-- wait. Each reply has the number of the command that it belongs to. Of each value the part is told that is kept.
pub record TellsReplies (limits : Bounds) (most : Option ℕ) (arrivals : List Arrival) (commands : List (List (List ℕ))) :
    Type 0 where
  pub values : List Datum
  pub front : List ℕ
  pub rest : List ℕ
  pub after : LineState
  pub whole : server_bytes arrivals ≡ front ++ rest
  pub reads : ReadsLine limits (asking commands) values front after
  pub no_more : IsRest limits after rest
  pub replies : told reply_in arrivals ≡ map (reply_part most) (paired (asking commands) values)
  pub pushes : told push_in arrivals ≡ map (part_of most) (pushes_of values)

-- Of a new connection: if no error was told, the commands are told. If no value has arrived that no command asked for,
-- the replies are told too.
abbrev pub TellsTheConnection : Type 0
TellsTheConnection = (limits : Bounds) (most kept : Option ℕ) (old new : Tap) (arrivals : List Arrival) →
    tap_state old ≡ new_tap limits most kept →
    HasTakenRequest old [] → HasTakenValue old [] → Arrive old new arrivals → NoError arrivals →
    (commands : TellsCommands limits kept arrivals) ×
    ((tap_state new).line.is_lost ≡ false → TellsReplies limits most arrivals (commands_of commands.values))

-- a kind of commands with exactly one reply
abbrev pub IsAnswered : CommandKind → Type 0
IsAnswered Plain = Unit {0}
IsAnswered (Hello version) = Unit {0}
IsAnswered Reset = Unit {0}
IsAnswered kind = ⊥

-- whether a command has exactly one reply
abbrev pub HasOneReply : List (List ℕ) → Type 0
HasOneReply words = IsAnswered (command_kind words)

-- If each command has exactly one reply, the nth reply has the number n, whatever it is, and only pushes are no replies.
abbrev pub CountsReplies : Type 0
CountsReplies = (limits : Bounds) (commands : List (List (List ℕ))) (values : List Datum) (text : List ℕ) (after : LineState) →
    AllByRecursion HasOneReply commands → ReadsLine limits (asking commands) values text after → after.is_lost ≡ false →
    paired (asking commands) values ≡ numbered_replies 1 values
