-- The name that a client has given to its connection.
use Rattle.std.specs.Prelude.{ℕ, ◌+◌, Bool, false, ◌&&◌, ◌==◌, List, [], ◌∷◌, length, map, take, nat_le, nat_lt, slice_index_or, Option, None, Some, if◌then◌else◌, codes}
use Rattle.resp_value.specs.Values.{datum_of}
use Rattle.resp_session.specs.Operations.{is_name}
use Rattle.resp_session.specs.Reading.{is_refusal}
use Rattle.resp_tap.specs.declared.client_name.ClientName.{ClientName}
use Rattle.resp_tap.specs.declared.seen.Seen.{Seen}
use Rattle.resp_tap.specs.declared.seen.Seen.TheVariants as seen

-- the name as it is printed, the last command that asked for another name, while its reply is due, and that name
pub record Naming : Type 0 where
  pub name : List ℕ
  pub asked : Option ℕ
  pub next : List ℕ

abbrev pub naming_of : ClientName → Naming
naming_of n = record { name = n.text.items; asked = n.asked; next = n.next.items }

-- the byte that is printed for a byte of a name: `?` for a byte that is not printable
abbrev pub shown_byte : ℕ → ℕ
shown_byte byte = if nat_le 33 byte && nat_le byte 126 then byte else 63

-- the first 64 bytes of a name, as they are printed
abbrev pub shown_name : List ℕ → List ℕ
shown_name name = map shown_byte (take 64 name)

-- ---- commands

-- the word after this option, if the option is at this index
abbrev pub option_at : List ℕ → ℕ → List (List ℕ) → Option (List ℕ)
option_at option index words =
    if nat_lt (index + 1) (length words) && is_name option (slice_index_or words index [])
    then Some (slice_index_or words (index + 1) []) else None

-- the name in HELLO 3 SETNAME name, or in HELLO 3 AUTH user password SETNAME name
abbrev pub name_in_hello : List (List ℕ) → Option (List ℕ)
name_in_hello words =
    if nat_lt 2 (length words) && is_name (codes "auth") (slice_index_or words 2 [])
    then option_at (codes "setname") 5 words else option_at (codes "setname") 2 words

-- the name that a command with this name and these words asks for
abbrev pub name_asked_by : List ℕ → List (List ℕ) → Option (List ℕ)
name_asked_by command words =
    if is_name (codes "client") command && length words == 3 then option_at (codes "setname") 1 words else
    if is_name (codes "hello") command then name_in_hello words else
    if is_name (codes "reset") command then Some [] else None

abbrev pub name_asked : List (List ℕ) → Option (List ℕ)
name_asked [] = None
name_asked (command ∷ arguments) = name_asked_by command (command ∷ arguments)

-- ---- results

-- after a command that asks for this name, or for none
abbrev pub asked_by : ℕ → Option (List ℕ) → Naming → Naming
asked_by number None n = n
asked_by number (Some name) n = record { name = n.name; asked = Some number; next = shown_name name }

-- whether this command has asked last
abbrev pub is_asked : ℕ → Option ℕ → Bool
is_asked number None = false
is_asked number (Some asked) = asked == number

-- after the reply to a command
abbrev pub heard_by : ℕ → Bool → Naming → Naming
heard_by number is_refused n =
    if is_asked number n.asked then record { name = if is_refused then n.name else n.next; asked = None; next = [] } else n

-- the name after a result
abbrev pub named_after : Seen → Naming → Naming
named_after (seen.Command number words lengths) n = asked_by number (name_asked words) n
named_after (seen.Reply number kept) n = heard_by number (is_refusal (datum_of kept.value)) n
named_after _ n = n
