-- Names that are admitted.
use Rattle.std.proofs.Common.{◌≡◌, ◌∙◌, ℕ, zero, suc, ◌+◌, ◌<◌, ◌≤◌, Global, Vec, List, [], ◌∷◌, length, map, get_or, drop, add-one, ap, append-nil, arith, refl, subst, sym}
use Rattle.std.proofs.Math.Seq.{drop-cons}
use Rattle.std.proofs.lemmas.List.Elements.{All-contains}
use Rattle.std.specs.Char.{to_ascii_lowercase}
use Rattle.std.specs.Prelude.{Contains, slice_index_or}
use Rattle.resp_commands.specs.declared.command.Command.{Command}
use Rattle.resp_commands.specs.declared.table.TheConstants.{COMMANDS}
use Rattle.resp_commands.specs.Names.{HasName, IsUnknown}
use Rattle.resp_frames.proofs.SameWords.{name_same, same_words}
use Rattle.resp_proxy.specs.Terms.{IsAmong}
use Rattle.resp_scan.specs.Whole.{BeginsWith}
use Rattle.resp_value.specs.Bounds.{Bounds}
use Rattle.resp_value.specs.Laws.{NoSpellingBeginsAnother}
use Rattle.resp_value.specs.Rules.{rules_under}
use Rattle.resp_value.specs.Words.{command_of, texts_of}
use Rattle.resp_value.specs.declared.version.Version.TheVariants.{Two}

among-at : (x : List ℕ) (xs : List (List ℕ)) (name other : List ℕ) (k : ℕ) → k < length (x ∷ xs) → slice_index_or (x ∷ xs) k other ≡ other →
    map to_ascii_lowercase other ≡ map to_ascii_lowercase name → (map to_ascii_lowercase x ≡ map to_ascii_lowercase name → ⊥) → IsAmong xs name
among-at x xs name other zero within at same differs = absurd (differs (ap (map to_ascii_lowercase) at ∙ same))
among-at x xs name other (suc k) within at same differs = record { other = other; there = (k, omega arith, at); same = same }

-- the name is among the rest of the names, since it is not the first
pub among-rest : (names : List (Vec ℕ Global)) (name : List ℕ) (i : ℕ) (d : Vec ℕ Global) → i < length names →
    (map to_ascii_lowercase (get_or names i d).items ≡ map to_ascii_lowercase name → ⊥) → IsAmong (texts_of (drop i names)) name →
    IsAmong (texts_of (drop (i + 1) names)) name
among-rest names name i d within differs among =
    let cut : drop i names ≡ get_or names i d ∷ drop (suc i) names = drop-cons names i d within in
    let a = subst (λ ns. IsAmong (texts_of ns) name) cut among in
    subst (λ n. IsAmong (texts_of (drop n names)) name) (sym (add-one i))
    (among-at (get_or names i d).items (texts_of (drop (suc i) names)) name a.other a.there.0 a.there.1 a.there.2 a.same differs)

-- no name is among none
among-none : (name : List ℕ) → IsAmong [] name → ⊥
among-none name among = absurd (omega (arith, among.there.1))

drop-past : (names : List (Vec ℕ Global)) (n : ℕ) → length names ≤ n → drop n names ≡ []
drop-past [] zero past = refl
drop-past [] (suc n) past = refl
drop-past (x ∷ names) zero past = absurd (omega arith)
drop-past (x ∷ names) (suc n) past = drop-past names n (omega arith)

-- no name is among the names after the last
pub among-past : (names : List (Vec ℕ Global)) (name : List ℕ) (n : ℕ) → length names ≤ n → IsAmong (texts_of (drop n names)) name → ⊥
among-past names name n past among = among-none name (subst (λ ns. IsAmong (texts_of ns) name) (drop-past names n past) among)

-- a text begins with the words of one command
pub one-command : NoSpellingBeginsAnother → (limits : Bounds) (text name other : List ℕ) (words others : List (List ℕ)) (rest more : List ℕ) →
    BeginsWith limits text (command_of (name ∷ words)) rest → BeginsWith limits text (command_of (other ∷ others)) more → name ≡ other
one-command law limits text name other words others rest more b c =
    let rules = rules_under Two limits in
    let both = law rules rules (command_of (name ∷ words)) (command_of (other ∷ others)) b.written c.written rest more b.spelled c.spelled (sym b.whole ∙ c.whole) in
    name_same name other words others
    (same_words law limits b.written (name ∷ words) (other ∷ others) []
    (record { written = b.written; spelled = b.spelled; whole = sym (append-nil b.written) })
    (record { written = c.written; spelled = c.spelled; whole = both.1 ∙ sym (append-nil c.written) }))

-- the table has no command of a name that is unknown
pub not-unknown : (command : Command) (name other : List ℕ) → name ≡ other → Contains COMMANDS command → HasName command name → IsUnknown other → ⊥
not-unknown command name other same found named unknown =
    All-contains (λ (c : Command). ¬ HasName c other) COMMANDS command unknown found (subst (HasName command) same named)
