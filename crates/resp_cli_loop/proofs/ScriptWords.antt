-- The words of a line of a script.
use Rattle.std.proofs.Common.{◌≡◌, ℕ, ◌+◌, ◌<◌, ◌≤◌, List, [], ◌∷◌, ◌++◌, length, map, take, drop, append_assoc, get_or, Bor, true, false, eqb, decimal, ◌^◌, refl, sym, ap, subst, ◌∙◌, arith, Option, None, Some}
use Rattle.std.specs.Prelude.{All}
use Rattle.std.specs.List.{slice_split}
use Rattle.std.proofs.lemmas.Bool.{eqb-true}
use Rattle.std.proofs.lemmas.Fmt.{decimal_nonempty}
use Rattle.std.proofs.lemmas.List.{get_or-map, length-map, take-append-drop, take_more}
use Rattle.std.proofs.lemmas.List.Elements.{All-get_or, All-head, All-tail, All-weaker}
use Rattle.std.proofs.lemmas.List.Splits.{join_with_byte-slice_split, length-slice_split, slice_split_at, slice_split_none}
use Rattle.resp_cli_loop.specs.ScriptSteps.{AreWords, IsSeen, IsWord, IsStepInRange, clients_words, joined_words, step_words}
use Rattle.resp_wire.specs.declared.event.Event.{Event}
use Rattle.resp_cli_loop.specs.Reasons.{HaveFirstUnfit, IsReason, IsUnfit, WhereBad}
use Rattle.resp_cli_loop.specs.declared.script.reasons.BadLine.TheVariants as reasons
use Rattle.resp_cli_loop.specs.Scripts.{SaysSomething}
use Rattle.resp_cli_loop.specs.declared.script.reasons.BadLine.{BadLine}
use Rattle.resp_cli_loop.specs.declared.script.words.LineFault.{LineFault}
use Rattle.resp_cli_loop.specs.declared.script.words.LineFault.TheVariants.{Bad, Memory}

-- one word
pub one_word : (words : List (Bor (List ℕ))) (d : Bor (List ℕ)) (text : List ℕ) → 1 ≤ length words → length words < 2 →
    (get_or words 0 d).now ≡ text → map (λ (word : Bor (List ℕ)). word.now) words ≡ text ∷ []
one_word [] d text some few is = absurd (omega (arith, some))
one_word (word ∷ []) d text some few is = ap (λ z. z ∷ []) is
one_word (word ∷ other ∷ words) d text some few is = absurd (omega (arith, few))

-- two words
pub two_words : (words : List (Bor (List ℕ))) (d : Bor (List ℕ)) (first second : List ℕ) → 2 ≤ length words → length words < 3 →
    (get_or words 0 d).now ≡ first → (get_or words 1 d).now ≡ second →
    map (λ (word : Bor (List ℕ)). word.now) words ≡ first ∷ second ∷ []
two_words [] d first second some few is is' = absurd (omega (arith, some))
two_words (word ∷ []) d first second some few is is' = absurd (omega (arith, some))
two_words (word ∷ next ∷ []) d first second some few is is' = ap (λ z. z ∷ next.now ∷ []) is ∙ ap (λ z. first ∷ z ∷ []) is'
two_words (word ∷ next ∷ other ∷ words) d first second some few is is' = absurd (omega (arith, few))

-- a byte that is seen is no space
seen_is_no_space : (b : ℕ) → IsSeen b → eqb b 32 ≡ false
seen_is_no_space b seen =
    elim (eqb b 32) as (λ t. eqb b 32 ≡ t → t ≡ false) [ true ↦ λ e. absurd (omega (arith, eqb-true _ _ e, seen.0)) | false ↦ λ e. refl ] refl

no_space : (word : List ℕ) → All IsSeen word → All (λ b. eqb b 32 ≡ false) word
no_space word seen = All-weaker IsSeen (λ b. eqb b 32 ≡ false) seen_is_no_space word seen

-- words are the parts of their line
pub split_joined : (words : List (List ℕ)) → All IsWord words → 1 ≤ length words → slice_split (λ b. eqb b 32) (joined_words words) ≡ words
split_joined [] all some = absurd (omega (arith, some))
split_joined (word ∷ []) all some = slice_split_none (λ b. eqb b 32) word (no_space word (All-head IsWord word [] all).1)
split_joined (word ∷ next ∷ words) all some =
    slice_split_at (λ b. eqb b 32) word 32 (joined_words (next ∷ words)) (no_space word (All-head IsWord word (next ∷ words) all).1) refl
    ∙ ap (λ z. word ∷ z) (split_joined (next ∷ words) (All-tail IsWord word (next ∷ words) all) (omega arith))

-- the parts of a line are its words, where each is a word
pub are_parts : (line : List ℕ) (parts : List (List ℕ)) → parts ≡ slice_split (λ b. eqb b 32) line → All IsWord parts → length parts ≤ 64 →
    AreWords line parts
are_parts line parts split all few = record {
  text = sym (join_with_byte-slice_split 32 line) ∙ ap joined_words (sym split);
  are_words = all;
  some = omega (arith, ap length split, length-slice_split (λ b. eqb b 32) line);
  few = few;
}

-- the words of a line are its parts
pub parts_of : (line : List ℕ) (words : List (List ℕ)) → AreWords line words → words ≡ slice_split (λ b. eqb b 32) line
parts_of line words are = sym (split_joined words are.are_words are.some) ∙ ap (slice_split (λ b. eqb b 32)) (sym are.text)

-- a line is of one list of words
pub one_reading : (line : List ℕ) (words words' : List (List ℕ)) → AreWords line words → AreWords line words' → words ≡ words'
one_reading line words words' are are' = parts_of line words are ∙ sym (parts_of line words' are')

-- a line without words says nothing
pub says_nothing : (named : Option ℕ) (line : List ℕ) → ((words : List (List ℕ)) → AreWords line words → ⊥) → SaysSomething named line → ⊥
says_nothing None line none (clients, says) = none _ says.words
says_nothing (Some clients) line none (step, says) = none _ says.words

-- one word more
pub taken_more : (words : List (Bor (List ℕ))) (i : ℕ) (d : Bor (List ℕ)) → i < length words →
    take (i + 1) (map (λ (word : Bor (List ℕ)). word.now) words) ≡ take i (map (λ (word : Bor (List ℕ)). word.now) words) ++ (get_or words i d).now ∷ []
taken_more words i d within =
    let texts = map (λ (word : Bor (List ℕ)). word.now) words in
    let long : i < length texts = omega (arith, length-map words (λ (word : Bor (List ℕ)). word.now)) in
    take_more texts i d.now long ∙ ap (λ z. take i texts ++ z ∷ []) (get_or-map (λ (word : Bor (List ℕ)). word.now) words i d d.now within)

-- what holds of each word holds of this one
pub each_word : (P : List ℕ → Type 0) (words : List (Bor (List ℕ))) (i : ℕ) → i < length words → All P (map (λ (word : Bor (List ℕ)). word.now) words) →
    (d : Bor (List ℕ)) → P (get_or words i d).now
each_word P words i within all d =
    let texts = map (λ (word : Bor (List ℕ)). word.now) words in
    let long : i < length texts = omega (arith, length-map words (λ (word : Bor (List ℕ)). word.now)) in
    subst P (get_or-map (λ (word : Bor (List ℕ)). word.now) words i d [] within) (All-get_or P texts i [] long all)

-- the first of some words
pub first_of : (words rest : List (Bor (List ℕ))) (first : Bor (List ℕ)) (text : List ℕ) → words ≡ first ∷ rest → first.now ≡ text →
    get_or (map (λ (word : Bor (List ℕ)). word.now) words) 0 [] ≡ text
first_of words rest first text is named = ap (λ z. get_or (map (λ (word : Bor (List ℕ)). word.now) z) 0 []) is ∙ named

-- where there is one word, no second one is a number
pub no_second : (words rest : List (Bor (List ℕ))) (first : Bor (List ℕ)) (number : ℕ) → words ≡ first ∷ rest → length rest ≡ 0 → number < 2 ^ 64 →
    get_or (map (λ (word : Bor (List ℕ)). word.now) words) 1 [] ≡ decimal number → ⊥
no_second words [] first number is none small named =
    let empty : [] ≡ decimal number = sym (ap (λ z. get_or (map (λ (word : Bor (List ℕ)). word.now) z) 1 []) is) ∙ named in
    omega (arith, ap length empty, decimal_nonempty number small)
no_second words (second ∷ rest) first number is none small named = absurd (omega (arith, none))

pub true_is_not_false : true ≡ false → ⊥
true_is_not_false e = cc

-- words that name no number of clients, so that their line names none
pub no_clients : (line : List ℕ) (items words : List (Bor (List ℕ))) → words ≡ items → AreWords line (map (λ (word : Bor (List ℕ)). word.now) items) →
    ((clients : ℕ) → map (λ (word : Bor (List ℕ)). word.now) words ≡ clients_words clients → 1 ≤ clients → clients ≤ 16 → ⊥) → SaysSomething None line → ⊥
no_clients line items words same are none (clients, says) =
    none clients (ap (map (λ (word : Bor (List ℕ)). word.now)) same ∙ one_reading line _ _ are says.words) says.range.0 says.range.1

-- words that say no step, so that their line says none
pub no_step : (clients : ℕ) (line : List ℕ) (items words : List (Bor (List ℕ))) →
    words ≡ items → AreWords line (map (λ (word : Bor (List ℕ)). word.now) items) →
    ((step : Option Event) → map (λ (word : Bor (List ℕ)). word.now) words ≡ step_words step → IsStepInRange clients step → ⊥) →
    SaysSomething (Some clients) line → ⊥
no_step clients line items words same are none (step, says) =
    none step (ap (map (λ (word : Bor (List ℕ)). word.now)) same ∙ one_reading line _ _ are says.words) says.range

-- what holds of the reason holds of what follows from it
pub where_bad : {P : BadLine → Type 0} (Q : BadLine → Type 0) → ((reason : BadLine) → P reason → Q reason) → (fault : LineFault) → WhereBad P fault →
    WhereBad Q fault
where_bad Q next (Bad reason) bad = next reason bad
where_bad Q next Memory bad = bad

-- ---- reasons

-- the first part that is not a word, after words
pub first_unfit : (words : List (Bor (List ℕ))) (i : ℕ) (d : Bor (List ℕ)) → i < length words →
    All IsWord (take i (map (λ (word : Bor (List ℕ)). word.now) words)) →
    HaveFirstUnfit (map (λ (word : Bor (List ℕ)). word.now) words) (get_or words i d).now
first_unfit words i d within all =
    let texts = map (λ (word : Bor (List ℕ)). word.now) words in
    record {
      before = take i texts;
      beyond = drop (i + 1) texts;
      whole = sym (take-append-drop (i + 1) texts) ∙ ap (λ z. z ++ drop (i + 1) texts) (taken_more words i d within) ∙
          append_assoc (take i texts) ((get_or words i d).now ∷ []) (drop (i + 1) texts);
      are_words = all;
    }

pub nothing : (text : List ℕ) → length text ≡ 0 → text ≡ []
nothing [] none = refl
nothing (b ∷ text) none = absurd (omega (arith, none))

pub unfit_reason : (named : Option ℕ) (parts : List (List ℕ)) (reason : BadLine) → length parts ≤ 64 → IsUnfit parts reason → IsReason named parts reason
unfit_reason named parts reasons.Spaces few unfit = (few, unfit)
unfit_reason named parts reasons.UnseenByte few unfit = (few, unfit)
unfit_reason named parts _ few unfit = absurd unfit
