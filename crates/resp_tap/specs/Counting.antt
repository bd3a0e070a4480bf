-- What is counted of the commands of a connection, each with its reply.
use Rattle.std.specs.Prelude.{◌≡◌, ◌⊎◌, ℕ, ◌-◌, ◌<◌, Bool, true, false, List, length, nat_lt, slice_get, Option, None, Some}
use Rattle.std.specs.Bool.{MatchBool}
use Rattle.resp_stats.specs.Names.{table_name}
use Rattle.resp_stats.specs.Rows.{CountsCall, MayAddRow, has_name}
use Rattle.resp_stats.specs.declared.name.Name.{Name}
use Rattle.resp_stats.specs.declared.row.Call.{Call}
use Rattle.resp_stats.specs.declared.row.CommandRow.{CommandRow}
use Rattle.resp_value.specs.Values.{datum_of}
use Rattle.resp_session.specs.Reading.{is_refusal}
use Rattle.resp_tap.specs.Filters.{DropsWords, KeepsWords, keeps_answer, keeps_client}
use Rattle.resp_tap.specs.Keeping.{KeptBy, new_words}
use Rattle.resp_tap.specs.Times.{IsAskedIn, next_asked, waited_of}
use Rattle.resp_tap.specs.declared.counted.Asked.{Asked}
use Rattle.resp_tap.specs.declared.connection.KeepingTap.{KeepingTap}
use Rattle.resp_tap.specs.declared.counted.Heard.{Heard}
use Rattle.resp_tap.specs.declared.filter.Filter.{Filter}
use Rattle.resp_tap.specs.declared.moment.Moment.{Moment}
use Rattle.resp_tap.specs.declared.seen.Seen.{Seen}
use Rattle.resp_tap.specs.declared.seen.Seen.TheVariants as seen

-- ---- commands

-- the name of a command in the table, if the command is counted
abbrev pub IsNameFor : Bool → List ℕ → Option Name → Type 0
IsNameFor true text (Some name) = name.text.items ≡ text
IsNameFor true text None = ⊥
IsNameFor false text name = name ≡ None

-- whether a command of this client with these words is counted
abbrev pub IsCounted : Filter → ℕ → List (List ℕ) → Bool → Type 0
IsCounted f client words counted = MatchBool counted ((keeps_client f client ≡ true) × KeepsWords f words)
    ((keeps_client f client ≡ false) ⊎ DropsWords f words)

-- This is kept of a command behind so many others: its name, if it is counted, and its bytes. Each of the others is kept.
pub record IsAsked (f : Filter) (client bytes before : ℕ) (others : List Asked) (words : List (List ℕ)) (asked : Asked) : Type 0 where
  pub behind : length others ≡ before
  pub counted : Bool
  pub is_counted : IsCounted f client words counted
  pub is_name : IsNameFor counted (table_name words) asked.name
  pub size : asked.bytes ≡ bytes

-- ---- replies

-- whether a result is a reply that is an error
abbrev pub is_error : Seen → Bool
is_error (seen.Reply number kept) = is_refusal (datum_of kept.value)
is_error _ = false

-- a command of so many bytes, with what was heard in reply
abbrev pub call_of : ℕ → Heard → Call
call_of sent heard = record { sent = sent; received = heard.bytes; is_error = heard.is_error; waited = heard.waited }

-- the place of a row with this name, or of the first row
abbrev pub IsPlaceFor : List ℕ → List CommandRow → ℕ → Type 0
IsPlaceFor name rows place = (place < length rows) × (0 < place → has_name name rows place ≡ true)

-- The call is counted in a row with this name, which may be added for it, or in the first row.
abbrev pub CountsNamed : List ℕ → Call → List CommandRow → List CommandRow → Type 0
CountsNamed name call rows rows' = (with_row : List CommandRow) × (place : ℕ) × MayAddRow name rows with_row ×
    IsPlaceFor name with_row place × CountsCall place call with_row rows'

-- A call is counted if its command has a name and its reply is let through. Otherwise the rows stay as they are.
abbrev pub CountsAs : Option Name → Bool → Call → List CommandRow → List CommandRow → Type 0
CountsAs None is_kept call rows rows' = rows' ≡ rows
CountsAs (Some name) is_kept call rows rows' = MatchBool is_kept (CountsNamed name.text.items call rows rows') (rows' ≡ rows)

-- A command waits no more, of which this is kept. It is counted with its reply if the filter lets the reply through.
abbrev pub AnswersCall : Filter → Option Asked → Heard → List CommandRow → List CommandRow → Type 0
AnswersCall f None heard rows rows' = rows' ≡ rows
AnswersCall f (Some asked) heard rows rows' =
    CountsAs asked.name (keeps_answer f heard.is_error heard.waited) (call_of asked.bytes heard) rows rows'

-- The same if this many commands wait no more. Only one of them has this reply.
abbrev pub ReleasesCall : ℕ → Filter → Option Asked → Heard → List CommandRow → List CommandRow → Type 0
ReleasesCall gone f asked heard rows rows' =
    MatchBool (nat_lt 0 gone) (AnswersCall f asked heard rows rows') (rows' ≡ rows)

-- ---- steps

-- What is counted at a result: nothing at a new command with these words. Otherwise this many commands wait no more, and
-- the one of which this is kept is counted.
abbrev pub CountsBy : Filter → Option (List (List ℕ)) → Heard → ℕ → Option Asked → List CommandRow → List CommandRow → Type 0
CountsBy f None heard gone asked rows rows' = ReleasesCall gone f asked heard rows rows'
CountsBy f (Some words) heard gone asked rows rows' = rows' ≡ rows

abbrev pub CountedTap : Type 0
CountedTap = KeepingTap Asked

-- what is kept of the command that the next reply belongs to
abbrev pub asked_of : CountedTap → Option Asked
asked_of t = slice_get t.kept.items (next_asked t.connection.tap)

-- What was heard by a result: its bytes, and the delay of the command that it answers.
pub record IsHeard (now : Moment) (old : CountedTap) (size : ℕ) (what : Seen) (heard : Heard) : Type 0 where
  pub bytes : heard.bytes ≡ size
  pub error : heard.is_error ≡ is_error what
  pub asked : Option ℕ
  pub of_command : IsAskedIn old.connection.tap asked
  pub delay : heard.waited ≡ waited_of now asked what

-- The first result in a piece is counted, if this many commands waited before it and after it.
pub record CountsSeen (f : Filter) (client : ℕ) (now : Moment) (old new : CountedTap) (size : ℕ) (what : Seen)
    (before after : ℕ) (rows rows' : List CommandRow) : Type 0 where
  pub heard : Heard
  pub is_heard : IsHeard now old size what heard
  pub asked : KeptBy (IsAsked f client size before old.kept.items) (new_words (nat_lt before after) what) (before - after)
      old.kept.items new.kept.items
  pub counts : CountsBy f (new_words (nat_lt before after) what) heard (before - after) (asked_of old) rows rows'
