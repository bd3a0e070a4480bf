-- Each command is at the place that its name says.
use Rattle.std.proofs.Common.{Option, None, Some, ◌≡◌, ℕ, zero, suc, ◌+◌, ◌<◌, ◌≤◌, Bool, true, ◌&&◌, T, eqb, List, [], ◌∷◌, length, map, get_or, refl, sym, ap, subst, ◌∙◌, arith, eqb→eq}
use Rattle.std.proofs.lemmas.List.{get_or_default, get_or-map}
use Rattle.std.specs.Char.{to_ascii_lowercase}
use lib.Ieee.Fits.{and_l, and_r}
use Rattle.std.specs.Prelude.{Contains, IfNone, IfSome, MatchOption}
use Rattle.resp_commands.specs.declared.command.Class.{Class}
use Rattle.resp_commands.specs.declared.command.Merge.{Merge}
use Rattle.resp_commands.specs.declared.command.Split.{Split}
use Rattle.resp_commands.specs.Merges.{IsMerged}
use Rattle.resp_commands.specs.Rows.{HasNoRow, LacksRow}
use Rattle.std.specs.Borrow.{Bor}
use Rattle.resp_commands.specs.Classes.{HasClass, HasNoClass, IsClassOf, LacksArgument}
use Rattle.resp_commands.specs.Names.{name_of, HasName, IsAt, IsSubcommand, IsUnknown, LacksSubcommand, NamesAreDistinct, NamesAreInLowerCase, SubcommandsAreDistinct}
use Rattle.resp_commands.specs.Places.{inner_place_of, place_of}
use Rattle.resp_commands.specs.declared.command.Command.{Command}
use Rattle.resp_commands.specs.declared.table.TheConstants.{COMMANDS, SUBCOMMANDS}

-- the place that the name of a command says
abbrev own_place : Command → ℕ
own_place command = place_of (map to_ascii_lowercase (name_of command))

-- the place that the name of a subcommand says
abbrev own_inner_place : Command → ℕ
own_inner_place command = inner_place_of command.container (map to_ascii_lowercase (name_of command))

-- these commands are at the places from this one on
abbrev are_from : (Command → ℕ) → ℕ → List Command → Bool
are_from place first [] = true
are_from place first (command ∷ commands) = eqb (place command) first && are_from place (suc first) commands

from_are : (place : Command → ℕ) (first : ℕ) (commands : List Command) → T (are_from place first commands) → (k : ℕ) (d : Command) →
    k < length commands → place (get_or commands k d) ≡ first + k
from_are place first [] are k d less = absurd (omega arith)
from_are place first (command ∷ commands) are zero d less =
    let here : place command ≡ first = eqb→eq (place command) first (and_l _ (are_from place (suc first) commands) are) in
    here ∙ omega arith
from_are place first (command ∷ commands) are (suc k) d less =
    let later : place (get_or commands k d) ≡ suc first + k =
    from_are place (suc first) commands (and_r (eqb (place command) first) _ are) k d (omega arith) in
    later ∙ omega arith

pub at_its_place : (k : ℕ) (d : Command) → k < 240 → own_place (get_or COMMANDS k d) ≡ k
at_its_place k d less = from_are own_place 0 COMMANDS tt k d less ∙ omega arith

pub at_its_inner_place : (k : ℕ) (d : Command) → k < 126 → own_inner_place (get_or SUBCOMMANDS k d) ≡ k
at_its_inner_place k d less = from_are own_inner_place 0 SUBCOMMANDS tt k d less ∙ omega arith

-- a command with this name is at the place that the name says
pub at_named_place : (word : List ℕ) (k : ℕ) (d : Command) → k < 240 → HasName (get_or COMMANDS k d) word →
    place_of (map to_ascii_lowercase word) ≡ k
at_named_place word k d less named = ap place_of named ∙ at_its_place k d less

pub at_named_inner_place : (command : Command) (word : List ℕ) (k : ℕ) (d : Command) → k < 126 →
    IsSubcommand command word (get_or SUBCOMMANDS k d) → inner_place_of command.container (map to_ascii_lowercase word) ≡ k
at_named_inner_place command word k d less named =
    ap (λ c. inner_place_of c (map to_ascii_lowercase word)) (sym named.0) ∙
    ap (inner_place_of (get_or SUBCOMMANDS k d).container) named.1 ∙ at_its_inner_place k d less

-- no command has a name whose place is past the table
pub unknown_past : (word : List ℕ) → 240 ≤ place_of (map to_ascii_lowercase word) → IsUnknown word
unknown_past word past k d less named =
    let place : place_of (map to_ascii_lowercase word) ≡ k = at_named_place word k d less named in
    absurd (omega arith)

pub no_subcommand_past : (command : Command) (word : List ℕ) →
    126 ≤ inner_place_of command.container (map to_ascii_lowercase word) → LacksSubcommand command word
no_subcommand_past command word past k d less named =
    let place : inner_place_of command.container (map to_ascii_lowercase word) ≡ k = at_named_inner_place command word k d less named in
    absurd (omega arith)

abbrev lower_name : Command → List ℕ
lower_name command = map to_ascii_lowercase (name_of command)

all_in_lower_case : map lower_name COMMANDS ≡ map name_of COMMANDS
all_in_lower_case = refl

all_inner_in_lower_case : map lower_name SUBCOMMANDS ≡ map name_of SUBCOMMANDS
all_inner_in_lower_case = refl

in_lower : (commands : List Command) → map lower_name commands ≡ map name_of commands → (k : ℕ) (d : Command) → k < length commands →
    lower_name (get_or commands k d) ≡ name_of (get_or commands k d)
in_lower commands same k d less =
    sym (get_or-map lower_name commands k d [] less) ∙ ap (λ names. get_or names k []) same ∙ get_or-map name_of commands k d [] less

-- the command at this place has the name that is the word in lower case
pub named_in_lower : (word : List ℕ) (place : ℕ) (e : Command) → place < 240 → map to_ascii_lowercase word ≡ name_of (get_or COMMANDS place e) →
    HasName (get_or COMMANDS place e) word
named_in_lower word place e less same = same ∙ sym (in_lower COMMANDS all_in_lower_case place e less)

pub inner_named_in_lower : (word : List ℕ) (place : ℕ) (e : Command) → place < 126 →
    map to_ascii_lowercase word ≡ name_of (get_or SUBCOMMANDS place e) → HasName (get_or SUBCOMMANDS place e) word
inner_named_in_lower word place e less same = same ∙ sym (in_lower SUBCOMMANDS all_inner_in_lower_case place e less)

-- no command has a name if the command at its place has another
pub unknown_other : (word : List ℕ) (place : ℕ) (e : Command) → place ≡ place_of (map to_ascii_lowercase word) → place < 240 →
    (map to_ascii_lowercase word ≡ name_of (get_or COMMANDS place e) → ⊥) → IsUnknown word
unknown_other word place e is within other k d less named =
    let at : k ≡ place = sym (is ∙ at_named_place word k d less named) in
    let here : HasName (get_or COMMANDS k e) word =
    subst (λ command. HasName command word) (get_or_default COMMANDS k d e less) named in
    let there : HasName (get_or COMMANDS place e) word = subst (λ n. HasName (get_or COMMANDS n e) word) at here in
    other (there ∙ in_lower COMMANDS all_in_lower_case place e within)

-- a command has no subcommand with a name if the subcommand at its place is no such subcommand
pub no_subcommand_other : (command : Command) (word : List ℕ) (place : ℕ) (e : Command) →
    place ≡ inner_place_of command.container (map to_ascii_lowercase word) →
    (IsSubcommand command word (get_or SUBCOMMANDS place e) → ⊥) → LacksSubcommand command word
no_subcommand_other command word place e is other k d less named =
    let at : k ≡ place = sym (is ∙ at_named_inner_place command word k d less named) in
    let here : IsSubcommand command word (get_or SUBCOMMANDS k e) =
    subst (IsSubcommand command word) (get_or_default SUBCOMMANDS k d e less) named in
    other (subst (λ n. IsSubcommand command word (get_or SUBCOMMANDS n e)) at here)

pub no_subcommand_named : (command : Command) (word : List ℕ) (place : ℕ) (e : Command) →
    place ≡ inner_place_of command.container (map to_ascii_lowercase word) → place < 126 →
    (map to_ascii_lowercase word ≡ name_of (get_or SUBCOMMANDS place e) → ⊥) → LacksSubcommand command word
no_subcommand_named command word place e is within other =
    no_subcommand_other command word place e is (λ same. other (same.1 ∙ in_lower SUBCOMMANDS all_inner_in_lower_case place e within))

pub no_subcommand_container : (command : Command) (word : List ℕ) (place : ℕ) (e : Command) →
    place ≡ inner_place_of command.container (map to_ascii_lowercase word) →
    ((get_or SUBCOMMANDS place e).container ≡ command.container → ⊥) → LacksSubcommand command word
no_subcommand_container command word place e is other = no_subcommand_other command word place e is (λ same. other same.0)

-- each command with the name is this one
pub only_command : (command : Command) (word : List ℕ) (k : ℕ) (d : Command) → Contains COMMANDS command → HasName command word → k < 240 →
    HasName (get_or COMMANDS k d) word → get_or COMMANDS k d ≡ command
only_command command word k d (i, within, there) named less same =
    let here : HasName (get_or COMMANDS i command) word = subst (λ c. HasName c word) (sym there) named in
    let at : k ≡ i = sym (at_named_place word k d less same) ∙ at_named_place word i command within here in
    get_or_default COMMANDS k d command less ∙ ap (λ n. get_or COMMANDS n command) at ∙ there

pub no_class : (command : Command) (word : List ℕ) (arguments : List (List ℕ)) (found : Option Class) → Contains COMMANDS command →
    HasName command word → IfNone found (LacksArgument command arguments) → IfNone found (HasNoClass word arguments)
no_class command word arguments (Some class) among named lacks = tt
no_class command word arguments None among named lacks =
    λ k d less same. subst (λ c. LacksArgument c arguments) (sym (only_command command word k d among named less same)) lacks

-- the command at the place of a name
pub named_at : (word : List ℕ) (place k : ℕ) (d : Command) → k ≡ place → IsAt place word → HasName (get_or COMMANDS k d) word
named_at word place k d same at =
    subst (λ n. HasName (get_or COMMANDS n d) word) (sym same)
    (subst (λ c. HasName c word) (sym (get_or_default COMMANDS place d at.command at.within ∙ at.there)) at.named)

-- the class of a command, or that it has none
pub listed : (command : Command) (word : List ℕ) (arguments : List (List ℕ)) (found : Option Class) → Contains COMMANDS command →
    HasName command word → IfSome found (IsClassOf command arguments) → IfNone found (LacksArgument command arguments) →
    MatchOption found (HasNoClass word arguments) (HasClass word arguments)
listed command word arguments (Some class) among named known lacks = record {
  command = command;
  found = among;
  named = named;
  by_arguments = known;
}
listed command word arguments None among named known lacks = no_class command word arguments None among named lacks

pub no_row : (command : Command) (word : List ℕ) (first : Option (Bor (List ℕ))) {X : Type 0} (found : Option X) → Contains COMMANDS command →
    HasName command word → IfNone found (LacksRow command first) → IfNone found (HasNoRow word first)
no_row command word first (Some row) among named lacks = tt
no_row command word first None among named lacks =
    λ k d less same. subst (λ c. LacksRow c first) (sym (only_command command word k d among named less same)) lacks

pub merged : (name : List ℕ) (parts : Split) (replies : Merge) →
    ((d : Command) → ((get_or COMMANDS (place_of (map to_ascii_lowercase name)) d).split ≡ parts) ×
    ((get_or COMMANDS (place_of (map to_ascii_lowercase name)) d).merge ≡ replies)) → IsMerged name parts replies
merged name parts replies here k d less same =
    subst (λ n. ((get_or COMMANDS n d).split ≡ parts) × ((get_or COMMANDS n d).merge ≡ replies)) (at_named_place name k d less same) (here d)

pub distinct : NamesAreDistinct
distinct i j d less within same =
    let at : i ≡ j =
    sym (at_its_place i d (omega arith)) ∙ ap (λ name. place_of (map to_ascii_lowercase name)) same ∙ at_its_place j d within in
    absurd (omega arith)

pub subcommands_distinct : SubcommandsAreDistinct
subcommands_distinct i j d less within container same =
    let at : i ≡ j =
    sym (at_its_inner_place i d (omega arith)) ∙
    ap (λ c. inner_place_of c (map to_ascii_lowercase (name_of (get_or SUBCOMMANDS i d)))) container ∙
    ap (λ name. inner_place_of (get_or SUBCOMMANDS j d).container (map to_ascii_lowercase name)) same ∙
    at_its_inner_place j d within in
    absurd (omega arith)

pub in_lower_case : NamesAreInLowerCase
in_lower_case = (in_lower COMMANDS all_in_lower_case, in_lower SUBCOMMANDS all_inner_in_lower_case)
