-- Values that are no commands.
use Rattle.std.specs.Prelude.{IfNone}
use Rattle.std.proofs.Common.{Option, None, Some, ◌≡◌, ◌∙◌, List, ℕ, [], ◌∷◌, sym}
use Rattle.std.proofs.lemmas.List.{append-nil}
use Rattle.resp_value.specs.Bounds.{Bounds}
use Rattle.resp_value.specs.Laws.{NoSpellingBeginsAnother}
use Rattle.resp_value.specs.Rules.{rules_under}
use Rattle.resp_value.specs.Words.{command_of}
use Rattle.resp_value.specs.declared.version.Version.TheVariants.{Two}
use Rattle.resp_scan.specs.Whole.{BeginsWith}
use Rattle.resp_frames.specs.Commands.{IsCommand}

-- no command begins the text, so it is no command
pub no_command : (limits : Bounds) (text : List ℕ) →
    ((name : List ℕ) (arguments : List (List ℕ)) (rest : List ℕ) → BeginsWith limits text (command_of (name ∷ arguments)) rest → ⊥) → IsCommand limits text → ⊥
no_command limits text none c = none c.name c.arguments [] (record { written = text; spelled = c.spelled; whole = sym (append-nil text) })

-- nothing follows the command that is the whole text
pub no_rest : NoSpellingBeginsAnother → (limits : Bounds) (text name : List ℕ) (arguments : List (List ℕ)) (rest : List ℕ) →
    BeginsWith limits text (command_of (name ∷ arguments)) rest → IsCommand limits text → rest ≡ []
no_rest law limits text name arguments rest b c =
    (law (rules_under Two limits) (rules_under Two limits) (command_of (name ∷ arguments)) (command_of (c.name ∷ c.arguments)) b.written text rest [] b.spelled
    c.spelled (sym b.whole ∙ sym (append-nil text))).2

-- a fact that holds, if there is no value
pub on_none : {X : Type 0} (found : Option X) (P : Type 0) → P → IfNone found P
on_none None P holds = holds
on_none (Some x) P holds = tt
