-- The words of a spelling of a command.
use Rattle.std.proofs.Common.{◌≡◌, ◌∙◌, ℕ, Option, None, Some, List, [], ◌∷◌, drop, map, get_or, ap, refl, sym}
use Rattle.std.proofs.lemmas.List.{append-nil}
use Rattle.std.specs.Borrow.{Bor}
use Rattle.std.specs.Map.Iter.{TakesFirst, deref}
use Rattle.resp_value.specs.Bounds.{Bounds}
use Rattle.resp_value.specs.Data.{Datum, Data, scalar, aggregate, none, more, data_of_list}
use Rattle.resp_value.specs.Data as d
use Rattle.resp_value.specs.Laws.{NoSpellingBeginsAnother}
use Rattle.resp_value.specs.Rules.{rules_under}
use Rattle.resp_value.specs.Words.{command_of, word_datum}
use Rattle.resp_value.specs.declared.version.Version.TheVariants.{Two}
use Rattle.std.specs.Prelude.{IfNone, IfSome}
use Rattle.resp_scan.specs.Whole.{BeginsWith}
use Rattle.resp_scan.specs.declared.whole.WholeCommand.{WholeCommand}
use Rattle.resp_frames.specs.Keys.{IsFirst, Spells}

content_in : Datum → List ℕ
content_in (scalar (d.Bulk content)) = content
content_in _ = []

contents_among : Data → List (List ℕ)
contents_among none = []
contents_among (more x xs) = content_in x ∷ contents_among xs

contents_in : Datum → List (List ℕ)
contents_in (scalar s) = []
contents_in (aggregate k xs) = contents_among xs

words_back : (words : List (List ℕ)) → contents_among (data_of_list (map word_datum words)) ≡ words
unfolding contents_among content_in
words_back [] = refl
words_back (word ∷ words) = ap (λ ws. word ∷ ws) (words_back words)

-- a text has the words of one command
pub same_words : NoSpellingBeginsAnother → (limits : Bounds) (text : List ℕ) (words others : List (List ℕ)) (rest : List ℕ) →
    BeginsWith limits text (command_of words) rest → BeginsWith limits text (command_of others) [] → words ≡ others
unfolding contents_in contents_among
same_words law limits text words others rest b c =
    sym (words_back words) ∙
    ap contents_in (law (rules_under Two limits) (rules_under Two limits) (command_of words) (command_of others) b.written c.written rest [] b.spelled
    c.spelled (sym b.whole ∙ c.whole)).0 ∙ words_back others

-- a spelling of a command begins with it
pub whole_text : (limits : Bounds) (text name : List ℕ) (arguments : List (List ℕ)) → Spells limits text name arguments →
    BeginsWith limits text (command_of (name ∷ arguments)) []
whole_text limits text name arguments spelled = record { written = text; spelled = spelled; whole = sym (append-nil text) }

pub name_same : (v w : List ℕ) (vs ws : List (List ℕ)) → v ∷ vs ≡ w ∷ ws → v ≡ w
name_same v w vs ws same = ap (λ xs. get_or xs 0 []) same

pub rest_same : (v w : List ℕ) (vs ws : List (List ℕ)) → v ∷ vs ≡ w ∷ ws → vs ≡ ws
rest_same v w vs ws same = ap (drop 1) same

pub first_of : (words next : List (List ℕ)) (first : Option (Bor (List ℕ))) → TakesFirst deref words first next → IsFirst words first
first_of words next None (empty, ended) = empty
first_of words next (Some word) first = (next, first)

pub words_found : NoSpellingBeginsAnother → (limits : Bounds) (text : List ℕ) (found : Option WholeCommand) →
    IfSome found (λ c. BeginsWith limits text (command_of (c.name.now ∷ c.arguments)) c.rest.now) → (name : List ℕ) (arguments : List (List ℕ)) →
    Spells limits text name arguments → IfSome found (λ c. (c.name.now ≡ name) × (c.arguments ≡ arguments))
words_found law limits text None begins name arguments spelled = tt
words_found law limits text (Some c) begins name arguments spelled =
    let same : c.name.now ∷ c.arguments ≡ name ∷ arguments =
    same_words law limits text (c.name.now ∷ c.arguments) (name ∷ arguments) c.rest.now begins (whole_text limits text name arguments spelled) in
    (name_same _ _ _ _ same, rest_same _ _ _ _ same)

pub is_found : (limits : Bounds) (text : List ℕ) (found : Option WholeCommand) →
    IfNone found ((name : List ℕ) (arguments : List (List ℕ)) (rest : List ℕ) → BeginsWith limits text (command_of (name ∷ arguments)) rest → ⊥) →
    (name : List ℕ) (arguments : List (List ℕ)) → Spells limits text name arguments → IfNone found ⊥
is_found limits text None none_begins name arguments spelled = none_begins name arguments [] (whole_text limits text name arguments spelled)
is_found limits text (Some c) none_begins name arguments spelled = tt
