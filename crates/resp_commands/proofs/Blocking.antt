-- Whether words have the option BLOCK.
use Rattle.std.proofs.Common.{◌≡◌, ◌∙◌, ℕ, zero, suc, ◌+◌, Bool, true, false, Option, None, Some, List, [], ◌∷◌, ◌++◌, length, drop, take, get_or, ap, refl, sym, arith, true≢false}
use Rattle.std.proofs.Math.Seq.{drop-append_seam}
use Rattle.std.proofs.lemmas.List.{take-append-drop, append_assoc, drop-drop}
use Rattle.std.specs.Prelude.{codes, unwrap_or}
use Rattle.std.specs.Map.Iter.{TakesFirst}
use Rattle.std.specs.Str.{str_eq_ignore_ascii_case}
use Rattle.resp_commands.specs.Options.{AreOptions, Blocks, argument_count, joined}

abbrev is_block : List ℕ → Bool
is_block word = str_eq_ignore_ascii_case word (codes "block")

-- BLOCK is the first word
pub block_first : (word : List ℕ) (words : List (List ℕ)) → is_block word ≡ true → Blocks (word ∷ words)
block_first word words named =
    record { options = []; valid = tt; block = word; named = named; rest = words; whole = refl }

no_words : (options : List (List (List ℕ))) (block : List ℕ) (rest : List (List ℕ)) → AreOptions options →
    [] ≡ joined options ++ block ∷ rest → ⊥
no_words [] block rest valid whole = absurd (omega (arith, ap length whole))
no_words ([] ∷ options) block rest valid whole = valid.0
no_words ((word ∷ words) ∷ options) block rest valid whole = absurd (omega (arith, ap length whole))

-- there are no words
pub none_blocks : Blocks [] → ⊥
none_blocks b = no_words b.options b.block b.rest b.valid b.whole

some_same : (m n : ℕ) → Some m ≡ Some n → m ≡ n
some_same m n same = ap (λ o. unwrap_or o 0) same

first_same : (v w : List ℕ) (vs ws : List (List ℕ)) → v ∷ vs ≡ w ∷ ws → v ≡ w
first_same v w vs ws same = ap (λ xs. get_or xs 0 []) same

rest_same : (v w : List ℕ) (vs ws : List (List ℕ)) → v ∷ vs ≡ w ∷ ws → vs ≡ ws
rest_same v w vs ws same = ap (drop 1) same

after : (word : List ℕ) (left : List (List ℕ)) (n : ℕ) (options : List (List (List ℕ))) (block : List ℕ) (rest : List (List ℕ)) →
    argument_count word ≡ Some n → is_block word ≡ false → AreOptions options → is_block block ≡ true →
    word ∷ left ≡ joined options ++ block ∷ rest → Blocks (drop n left)
after word left n [] block rest counted other valid named whole =
    absurd (true≢false (sym named ∙ ap is_block (sym (first_same word block left rest whole)) ∙ other))
after word left n ([] ∷ options) block rest counted other valid named whole = absurd (valid.0)
after word left n ((first ∷ words) ∷ options) block rest counted other valid named whole =
    let count : n ≡ length words =
    some_same n (length words) (sym counted ∙ ap argument_count (first_same word first left _ whole) ∙ valid.0) in
    let tail : left ≡ words ++ (joined options ++ block ∷ rest) =
    rest_same word first left _ whole ∙ append_assoc words (joined options) (block ∷ rest) in
    record {
      options = options;
      valid = valid.1;
      block = block;
      named = named;
      rest = rest;
      whole = ap (λ k. drop k left) count ∙ ap (drop (length words)) tail ∙ drop-append_seam words (joined options ++ block ∷ rest);
    }

-- BLOCK is after an option
pub blocks_after : (word : List ℕ) (left : List (List ℕ)) (n : ℕ) → argument_count word ≡ Some n → is_block word ≡ false →
    Blocks (word ∷ left) → Blocks (drop n left)
blocks_after word left n counted other b = after word left n b.options b.block b.rest counted other b.valid b.named b.whole

has_words : (n : ℕ) (left : List (List ℕ)) → Blocks (drop n left) → length (take n left) ≡ n
has_words zero left b = refl
has_words (suc n) [] b = absurd (none_blocks b)
has_words (suc n) (word ∷ left) b = ap suc (has_words n left b)

-- BLOCK after an option is BLOCK among the words
pub blocks_before : (word : List ℕ) (left : List (List ℕ)) (n : ℕ) → argument_count word ≡ Some n → Blocks (drop n left) →
    Blocks (word ∷ left)
blocks_before word left n counted b = record {
  options = (word ∷ take n left) ∷ b.options;
  valid = (counted ∙ ap Some (sym (has_words n left b)), b.valid);
  block = b.block;
  named = b.named;
  rest = b.rest;
  whole = ap (λ ws. word ∷ ws) (sym (take-append-drop n left) ∙ ap (λ ws. take n left ++ ws) b.whole ∙
      sym (append_assoc (take n left) (joined b.options) (b.block ∷ b.rest)));
}

not_first : (word : List ℕ) (left : List (List ℕ)) (options : List (List (List ℕ))) (block : List ℕ) (rest : List (List ℕ)) →
    argument_count word ≡ None → is_block word ≡ false → AreOptions options → is_block block ≡ true →
    word ∷ left ≡ joined options ++ block ∷ rest → ⊥
not_first word left [] block rest none other valid named whole =
    true≢false (sym named ∙ ap is_block (sym (first_same word block left rest whole)) ∙ other)
not_first word left ([] ∷ options) block rest none other valid named whole = valid.0
not_first word left ((first ∷ words) ∷ options) block rest none other valid named whole =
    let same : None ≡ Some (length words) = sym none ∙ ap argument_count (first_same word first left _ whole) ∙ valid.0 in
    absurd (omega (arith, ap (λ o. unwrap_or o (suc (length words))) same))

-- the first word is no option
pub other_word : (word : List ℕ) (left : List (List ℕ)) → argument_count word ≡ None → is_block word ≡ false → Blocks (word ∷ left) → ⊥
other_word word left none other b = not_first word left b.options b.block b.rest none other b.valid b.named b.whole

-- one more word is left out
pub dropped_more : {A : Type 0} (shows : A → List ℕ) (all words next : List (List ℕ)) (r : Option A) (k : ℕ) → words ≡ drop k all →
    TakesFirst shows words r next → next ≡ drop (k + 1) all
dropped_more shows all words next None k dropped (empty, none) =
    none ∙ sym (ap (drop 1) (sym dropped ∙ empty)) ∙ drop-drop 1 k all
dropped_more shows all words next (Some word) k dropped first = ap (drop 1) (sym first ∙ dropped) ∙ drop-drop 1 k all
