-- Which commands, replies and other results a filter lets through.
use Rattle.std.specs.Prelude.{◌≡◌, ◌⊎◌, ⊤, ℕ, Bool, true, false, not, ◌&&◌, ◌||◌, ◌==◌, List, [], ◌∷◌, length, map, max, ◌≤◌, nat_lt, vec_len, Option, None, Some, Vec, is_some, if◌then◌else◌, MatchOption}
use Rattle.std.specs.Bool.{MatchBool}
use Rattle.std.specs.Char.{to_ascii_lowercase}
use Rattle.std.specs.List.{list_any}
use Rattle.std.specs.Str.{bytes_eq}
use Rattle.std.proofs.Common.{Global}
use Rattle.resp_value.specs.Values.{datum_of}
use Rattle.resp_session.specs.Reading.{is_refusal}
use Rattle.resp_tap.specs.Keyed.{IsKeyed, IsUnkeyed, name_in}
use Rattle.resp_tap.specs.Parts.{kept_for}
use Rattle.resp_tap.specs.declared.end.Cut.{Cut}
use Rattle.resp_tap.specs.declared.filter.Filter.{Filter}
use Rattle.resp_tap.specs.declared.seen.Seen.{Seen}
use Rattle.resp_tap.specs.declared.seen.Seen.TheVariants as seen

-- whether these are the same name, in upper, lower or mixed case
abbrev pub same_name : List ℕ → List ℕ → Bool
same_name name other = bytes_eq (map to_ascii_lowercase name) (map to_ascii_lowercase other)

-- whether commands of all names are let through
abbrev pub has_no_name : Filter → Bool
has_no_name f = vec_len f.names == 0

-- whether commands with these words are let through, by their name
abbrev pub keeps_name : Filter → List (List ℕ) → Bool
keeps_name f words = has_no_name f || list_any (λ name. same_name (name_in words) name.items) f.names.items

-- whether commands of all names and all keys are let through
abbrev pub keeps_all : Filter → Bool
keeps_all f = has_no_name f && not (is_some f.key)

-- A command with these words is let through: by its name, and because the glob matches one of its keys if there is one.
abbrev pub KeepsWords : Filter → List (List ℕ) → Type 0
KeepsWords f words = (keeps_name f words ≡ true) × MatchOption f.key ⊤ (λ glob. IsKeyed glob.items words)

-- it is not let through: by its name, or because the glob matches none of its keys
abbrev pub DropsWords : Filter → List (List ℕ) → Type 0
DropsWords f words = (keeps_name f words ≡ false) ⊎ MatchOption f.key ⊥ (λ glob. IsUnkeyed glob.items words)

-- whether a command with these words is let through
abbrev pub Chooses : Filter → List (List ℕ) → Bool → Type 0
Chooses f words is_chosen = MatchBool is_chosen (KeepsWords f words) (DropsWords f words)

-- the bytes of the longest of these names
abbrev pub longest_name : List (Vec ℕ Global) → ℕ
longest_name [] = 0
longest_name (name ∷ names) = max (length name.items) (longest_name names)

-- The bytes that are kept of each word for a filter, if so many are shown: whole words if a glob is compared with keys, and
-- otherwise as many as the longest name of the filter has.
abbrev pub kept_by : Filter → Option ℕ → Option ℕ
kept_by f shown = if is_some f.key then None else kept_for (longest_name f.names.items) shown

-- Enough is kept of each word for a filter: whole words, or, if the filter has no key, the bytes of its longest name.
abbrev pub Suffices : Option ℕ → Filter → Type 0
Suffices None f = ⊤
Suffices (Some most) f = (f.key ≡ None) × (longest_name f.names.items ≤ most)

-- whether the lines about this client are let through
abbrev pub keeps_number : Option ℕ → ℕ → Bool
keeps_number None client = true
keeps_number (Some number) client = number == client

abbrev pub keeps_client : Filter → ℕ → Bool
keeps_client f client = keeps_number f.client client

-- whether a delay is greater than the least one, or all delays are let through
abbrev pub is_late : Option ℕ → Option ℕ → Bool
is_late None waited = true
is_late (Some least) None = false
is_late (Some least) (Some waited) = nat_lt least waited

-- whether an error, or a value that is no error, is let through after this delay
abbrev pub keeps_answer : Filter → Bool → Option ℕ → Bool
keeps_answer f is_error waited = (not f.errors || is_error) && is_late f.slower waited

-- whether a command is let through only with its reply, because the reply decides
abbrev pub is_by_reply : Filter → Bool
is_by_reply f = f.errors || is_some f.slower

-- whether an error, or a value that is no error, is let through if it belongs to no command
abbrev pub keeps_loose : Filter → Bool → Bool
keeps_loose f is_error = keeps_all f && keeps_answer f is_error None

-- Whether a result is let through: what the client sent, or what the server sent. `is_chosen` says whether the command,
-- or that of a reply, is let through by its words, and `waited` how long it waited.
abbrev pub keeps_seen : Filter → Bool → Option ℕ → Seen → Bool
keeps_seen f is_chosen waited seen.Nothing = false
keeps_seen f is_chosen waited seen.Passed = false
keeps_seen f is_chosen waited (seen.Command number words lengths) = not (is_by_reply f) && is_chosen
keeps_seen f is_chosen waited (seen.Reply number kept) = is_chosen && keeps_answer f (is_refusal (datum_of kept.value)) waited
keeps_seen f is_chosen waited (seen.Push members lengths) = keeps_loose f false
keeps_seen f is_chosen waited (seen.Value kept) = keeps_loose f (is_refusal (datum_of kept.value))
keeps_seen f is_chosen waited (seen.NotCommand number) = true
keeps_seen f is_chosen waited (seen.Refused cause at where') = true

-- whether a result of this client is let through
abbrev pub keeps : Filter → ℕ → Bool → Option ℕ → Seen → Bool
keeps f client is_chosen waited what = keeps_client f client && keeps_seen f is_chosen waited what

-- whether only some commands are let through
abbrev pub is_selective : Filter → Bool
is_selective f = is_by_reply f || not (keeps_all f)

-- whether the line is let through that says from where this client is connected
abbrev pub keeps_connected : Filter → ℕ → Bool
keeps_connected f client = keeps_client f client && f.connections

-- whether lines about connections are let through, although no command is cut off
abbrev pub keeps_ends : Filter → Bool
keeps_ends f = f.connections || not (is_selective f)

-- whether the line is let through that says that this client's connection has gone
abbrev pub keeps_gone : Filter → ℕ → Bool
keeps_gone f client = keeps_client f client && keeps_ends f

-- whether the line is let through that says that a side has closed the connection, inside this command or reply if there
-- is one
abbrev pub keeps_end : Filter → ℕ → Option Cut → Bool
keeps_end f client cut = keeps_client f client && (is_some cut || keeps_ends f)
