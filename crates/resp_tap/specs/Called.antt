-- What is kept of a command that waits, while JSON is printed.
use Rattle.std.specs.Prelude.{◌≡◌, ℕ, ◌-◌, Bool, List, [], map, take, nat_lt, Option, None, Some}
use Rattle.std.specs.Char.{to_ascii_uppercase}
use Rattle.resp_tap.specs.Filters.{keeps_all}
use Rattle.resp_tap.specs.Keeping.{IsChosenBy, KeptBy, new_words}
use Rattle.resp_tap.specs.Keyed.{name_in}
use Rattle.resp_tap.specs.declared.called.Called.{Called}
use Rattle.resp_tap.specs.declared.filter.Filter.{Filter}
use Rattle.resp_tap.specs.declared.seen.Seen.{Seen}

-- the first 32 bytes of a word, with letters in upper case
abbrev pub upper_word : List ℕ → List ℕ
upper_word word = map to_ascii_uppercase (take 32 word)

-- the printed name of a command with these words
abbrev pub command_name : List (List ℕ) → List ℕ
command_name words = upper_word (name_in words)

-- the name of the command of which this is kept, if anything is
abbrev pub name_of_called : Option Called → List ℕ
name_of_called None = []
name_of_called (Some called) = called.name.items

-- whether the command of a reply is let through by its words
abbrev pub chosen_called : Filter → Option Called → Bool
chosen_called f None = keeps_all f
chosen_called f (Some called) = called.is_chosen

-- whether the command of a result is let through by its words, if this is kept for the reply
abbrev pub IsChosenCalled : Filter → Option Called → Seen → Bool → Type 0
IsChosenCalled f kept what is_chosen = IsChosenBy f (chosen_called f kept) what is_chosen

-- this is kept of a command with these words, which is let through by them or is not
abbrev pub IsCalled : Bool → List (List ℕ) → Called → Type 0
IsCalled is_chosen words called = (called.name.items ≡ command_name words) × (called.is_chosen ≡ is_chosen)

-- The items after a result, if this many commands waited before it and after it: the item of a new command is added,
-- and the items of commands that wait no more are dropped.
abbrev pub CalledAfter : Bool → Seen → ℕ → ℕ → List Called → List Called → Type 0
CalledAfter is_chosen what before after old new =
    KeptBy (IsCalled is_chosen) (new_words (nat_lt before after) what) (before - after) old new
