-- What is kept of the commands that wait while a filter is used, and what is printed through it.
use Rattle.std.specs.Prelude.{◌≡◌, ℕ, ◌-◌, ◌<◌, ◌≤◌, Bool, true, false, ◌&&◌, List, [], ◌++◌, length, take, nat_lt, Option, None, Some, option_and_then, option_map, if◌then◌else◌, codes}
use Rattle.resp_value.specs.Data.{Datum}
use Rattle.resp_tap.specs.Filters.{is_by_reply, is_selective, keeps, keeps_all}
use Rattle.resp_tap.specs.Keeping.{IsChosenBy, KeptBy, new_words}
use Rattle.resp_tap.specs.Secrets.{printed_words}
use Rattle.resp_tap.specs.Texts.{heading, seen_text, words_text}
use Rattle.resp_tap.specs.declared.filter.Filter.{Filter}
use Rattle.resp_tap.specs.declared.moment.Moment.{Moment}
use Rattle.resp_tap.specs.declared.moment.Utc.{Utc}
use Rattle.resp_tap.specs.declared.note.Note.{Note}
use Rattle.resp_tap.specs.declared.print.TextOptions.{TextOptions}
use Rattle.resp_tap.specs.declared.seen.Seen.{Seen}
use Rattle.resp_tap.specs.declared.seen.Seen.TheVariants as seen
use Rattle.resp_tap.specs.declared.stamp.Stamp.{Stamp}

-- ---- what is kept

-- The most bytes that are kept of the words of a command behind this many others that wait. The first 1,024 commands have
-- room.
abbrev pub room_behind : ℕ → ℕ
room_behind behind = if nat_lt behind 1024 then 1024 else 0

-- The same of a command that is let through by its words or is not. Words are kept only if the reply decides whether the
-- command is printed.
abbrev pub room_for : Filter → Bool → ℕ → ℕ
room_for f is_chosen behind = if is_by_reply f && is_chosen then room_behind behind else 0

-- the text of a command's words, without the secret ones
abbrev pub shown_words : TextOptions → List (List ℕ) → List ℕ
shown_words p words = words_text p.shown.most (printed_words p.shows_passwords words)

-- This is kept of a command that arrived at this moment, as a line or as an array, and is let through by its words or is
-- not, if so many bytes are kept of them.
pub record IsNote (p : TextOptions) (now : Option Moment) (is_line is_chosen : Bool) (words : List (List ℕ)) (room : ℕ) (note : Note) :
    Type 0 where
  pub time : note.utc ≡ option_map (λ (moment : Moment). moment.utc) now
  pub line : note.is_line ≡ is_line
  pub chosen : note.is_chosen ≡ is_chosen
  pub first_bytes : note.text.items ≡ take room (shown_words p words)
  pub whole : note.is_whole ≡ true → length (shown_words p words) ≤ room
  pub part : note.is_whole ≡ false → 0 < room → room < length (shown_words p words)

-- the same of a command behind those with these notes, with as much of its words as there is room for
abbrev pub IsNoteBehind : Filter → TextOptions → Option Moment → Bool → Bool → List Note → List (List ℕ) → Note → Type 0
IsNoteBehind f p now is_line is_chosen others words = IsNote p now is_line is_chosen words (room_for f is_chosen (length others))

-- The notes after a result, if this many commands waited before it and after it: the note of a new command is added, and
-- the notes of commands that wait no more are dropped.
abbrev pub NotesAfter : Filter → TextOptions → Option Moment → Bool → Bool → Seen → ℕ → ℕ → List Note → List Note →
    Type 0
NotesAfter f p now is_line is_chosen what before after old new =
    KeptBy (IsNoteBehind f p now is_line is_chosen old) (new_words (nat_lt before after && is_selective f) what) (before - after) old new

-- ---- what is printed

-- the end of the line of a command's words, of which all or a part is kept
abbrev pub line_end : Bool → List ℕ
line_end is_whole = if is_whole then codes "\n" else codes " ..\n"

-- the line of a command's words, of which this text is kept
abbrev pub kept_line : Bool → List ℕ → List ℕ
kept_line is_whole text = codes " " ++ (text ++ line_end is_whole)

abbrev pub stamp_on : Option Utc → Option Stamp
stamp_on = option_map (λ utc. record { utc = utc; waited = None })

-- the lines of a command that waited, by what is kept of it
abbrev pub deferred_text : ℕ → ℕ → Option Note → List ℕ
deferred_text client number None = heading false client number None ++ kept_line false []
deferred_text client number (Some note) =
    heading note.is_line client number (stamp_on note.utc) ++ kept_line note.is_whole note.text.items

-- the lines before a result: those of its command, if the reply has decided
abbrev pub before_text : Filter → ℕ → Option Note → Seen → List ℕ
before_text f client note (seen.Reply number kept) = if is_by_reply f then deferred_text client number note else []
before_text f client _ what = []

-- whether the command of a reply is let through by its words
abbrev pub chosen_by : Filter → Option Note → Bool
chosen_by f None = keeps_all f
chosen_by f (Some note) = note.is_chosen

-- whether the command of a result is let through by its words, if this is kept for the reply
abbrev pub IsChosen : Filter → Option Note → Seen → Bool → Type 0
IsChosen f kept what is_chosen = IsChosenBy f (chosen_by f kept) what is_chosen

abbrev pub waited_in : Option Stamp → Option ℕ
waited_in = option_and_then (λ stamp. stamp.waited)

-- The lines of a result through a filter. `note` is what is kept of the command that the next reply belongs to, and the
-- lines of a command or of a result of the server are those of this whole value.
abbrev pub filtered_text : Filter → TextOptions → Bool → Bool → Option Note → Option Stamp → Datum → Seen → List ℕ
filtered_text f p is_line is_chosen note stamp whole what =
    if keeps f p.client is_chosen (waited_in stamp) what
    then before_text f p.client note what ++ seen_text p is_line stamp whole what
    else []
