-- Words one after another at the beginning of a text.
use Rattle.std.proofs.Common.{◌≡◌, ℕ, zero, suc, ◌+◌, ◌-◌, ◌<◌, ◌≤◌, List, [], ◌∷◌, ◌++◌, length, take, drop, refl, sym, ap, subst, ◌∙◌, arith, length-append}
use Rattle.resp_value.specs.Bytes.{IsLine, crlf}
use Rattle.std.proofs.Math.Seq.{drop-append-add, take-append_seam}
use Rattle.std.proofs.lemmas.Bool.{ne_eqb}
use Rattle.resp_value.specs.Numbers.{number}
use Rattle.resp_value.proofs.Splitting.{line_from_digits, plain_above}
use Rattle.resp_scan.specs.Whole.{BeginsWithWord, BeginsWithWords, HasWords, after_head, before_return, head_number, words_in}
use Rattle.resp_scan.proofs.Wholes.WordFronts.{one_word}

-- this many words were read, and the rest is left
pub record HasReadWords (most : ℕ) (text : List ℕ) (n : ℕ) (rest : List ℕ) : Type 0 where
  pub words : List (List ℕ)
  pub as_many : length words ≡ n
  pub begins : BeginsWithWords most text words rest

-- a word more
words_and_word : (most : ℕ) (text : List ℕ) (words : List (List ℕ)) (middle word rest : List ℕ) → BeginsWithWords most text words middle →
    BeginsWithWord most middle word rest → BeginsWithWords most text (words ++ word ∷ []) rest
words_and_word most text [] middle word rest a b = (rest, subst (λ t. BeginsWithWord most t word rest) (sym a) b, refl)
words_and_word most text (w ∷ words) middle word rest (next, first, more) b = (next, first, words_and_word most next words middle word rest more b)

pub one_word_more : (most : ℕ) (text : List ℕ) (n : ℕ) (middle word rest : List ℕ) → HasReadWords most text n middle →
    BeginsWithWord most middle word rest → HasReadWords most text (n + 1) rest
one_word_more most text n middle word rest read b = record {
  words = read.words ++ word ∷ [];
  as_many = length-append read.words (word ∷ []) ∙ ap (λ k. k + 1) read.as_many;
  begins = words_and_word most text read.words middle word rest read.begins b;
}

-- after the words read comes the next of the words that the text begins with
pub next_word : (most : ℕ) (text : List ℕ) (read words : List (List ℕ)) (middle rest : List ℕ) → BeginsWithWords most text read middle →
    BeginsWithWords most text words rest → length read < length words → (word : List ℕ) × (next : List ℕ) × BeginsWithWord most middle word next
next_word most text [] [] middle rest a b less = absurd (omega (arith, less))
next_word most text (r ∷ read) [] middle rest a b less = absurd (omega (arith, less))
next_word most text [] (w ∷ words) middle rest a (next, first, more) less = (w, next, subst (λ t. BeginsWithWord most t w next) a first)
next_word most text (r ∷ read) (w ∷ words) middle rest (next, first, more) (next', first', more') less =
    let same = (one_word most text r next w next' first first').1 in
    next_word most next read words middle rest more (subst (λ t. BeginsWithWords most t words rest) (sym same) more') (omega (arith, less))

-- a text begins with one list of this many words
pub same_words : (most : ℕ) (text : List ℕ) (words words' : List (List ℕ)) (rest rest' : List ℕ) → length words ≡ length words' →
    BeginsWithWords most text words rest → BeginsWithWords most text words' rest' → (words ≡ words') × (rest ≡ rest')
same_words most text [] [] rest rest' n a b = (refl, sym a ∙ b)
same_words most text [] (w ∷ ws) rest rest' n a b = absurd (omega (arith, n))
same_words most text (w ∷ ws) [] rest rest' n a b = absurd (omega (arith, n))
same_words most text (w ∷ words) (w' ∷ words') rest rest' n (next, first, more) (next', first', more') =
    let one = one_word most text w next w' next' first first' in
    let m : length words ≡ length words' = omega (arith, n) in
    let both = same_words most next words words' rest rest' m more (subst (λ t. BeginsWithWords most t words' rest') (sym one.1) more') in
    let h : w ≡ w' = one.0 in
    let k : words ≡ words' = both.0 in
    (cc, both.1)

-- the bytes before the CR of a line
line_before : (line more : List ℕ) → IsLine line → before_return (line ++ 13 ∷ more) ≡ line
line_before [] more h = refl
line_before (b ∷ line) more h = rw (ne_eqb b 13 h.0.0) (ap (λ l. b ∷ l) (line_before line more h.1))

-- a bulk string by its parts
word_parts : (most : ℕ) (text word rest : List ℕ) → BeginsWithWord most text word rest →
    (take (head_number text) (after_head text) ≡ word) × (drop (head_number text + 2) (after_head text) ≡ rest)
word_parts most text word rest b =
    let line : before_return text ≡ 36 ∷ b.digits =
    ap before_return b.whole ∙ line_before (36 ∷ b.digits) (10 ∷ (word ++ crlf rest)) (plain_above 36 (omega arith), line_from_digits b.digits b.counted.0) in
    let counted : head_number text ≡ length word = ap (λ l. number (drop 1 l)) line ∙ b.counted.1 in
    let after : after_head text ≡ word ++ crlf rest =
    ap (λ l. drop (length l + 2) text) line ∙ ap (drop (length (36 ∷ b.digits) + 2)) b.whole ∙ drop-append-add (36 ∷ b.digits) (crlf (word ++ crlf rest)) 2 in (
      ap (λ n. take n (after_head text)) counted ∙ ap (take (length word)) after ∙ take-append_seam word (crlf rest),
      ap (λ n. drop (n + 2) (after_head text)) counted ∙ ap (drop (length word + 2)) after ∙ drop-append-add word (crlf rest) 2,
    )

-- the words that a text begins with are the words in it
pub words_are_in : (most : ℕ) (text : List ℕ) (words : List (List ℕ)) (rest : List ℕ) → BeginsWithWords most text words rest →
    words_in (length words) text ≡ words
words_are_in most text [] rest b = refl
words_are_in most text (word ∷ words) rest (next, first, more) =
    let parts = word_parts most text word next first in
    ap (λ w. w ∷ words_in (length words) (drop (head_number text + 2) (after_head text))) parts.0 ∙
    ap (λ t. word ∷ words_in (length words) t) parts.1 ∙ ap (λ ws. word ∷ ws) (words_are_in most next words rest more)

-- the number of the words in a text
pub words_length : (n : ℕ) (text : List ℕ) → length (words_in n text) ≡ n
words_length zero text = refl
words_length (suc n) text = let h = words_length n (drop (head_number text + 2) (after_head text)) in omega (arith, h)

-- the first of the words in a text, and the others
pub first_in : (most n : ℕ) (text : List ℕ) → (n ≡ 0 → ⊥) → HasWords most n text → (word : List ℕ) × (next : List ℕ) ×
    BeginsWithWord most text word next × (words_in n text ≡ word ∷ words_in (n - 1) next) × HasWords most (n - 1) next
first_in most zero text some has = absurd (some refl)
first_in most (suc n) text some (rest, (next, first, more)) =
    let word = take (head_number text) (after_head text) in
    let after : drop (head_number text + 2) (after_head text) ≡ next = (word_parts most text word next first).1 in
    let one_less : suc n - 1 ≡ n = omega arith in (
      word,
      next,
      first,
      ap (λ t. word ∷ words_in n t) after ∙ ap (λ k. word ∷ words_in k next) (sym one_less),
      subst (λ k. HasWords most k next) (sym one_less) (rest, subst (λ t. BeginsWithWords most next (words_in n t) rest) after more),
    )

-- what is read of the words in a text is the first of them
pub first_read : (most n : ℕ) (text word rest : List ℕ) → (n ≡ 0 → ⊥) → HasWords most n text → BeginsWithWord most text word rest →
    (words_in n text ≡ word ∷ words_in (n - 1) rest) × HasWords most (n - 1) rest
first_read most n text word rest some has b =
    let (word', next, first, is, left) = first_in most n text some has in
    let same = one_word most text word' next word rest first b in (
      is ∙ ap (λ w. w ∷ words_in (n - 1) next) same.0 ∙ ap (λ t. word ∷ words_in (n - 1) t) same.1,
      subst (HasWords most (n - 1)) same.1 left,
    )

-- words that a text begins with are the words in it, and the text has them
pub has_words : (most n : ℕ) (text : List ℕ) (words : List (List ℕ)) (rest : List ℕ) → length words ≡ n → BeginsWithWords most text words rest →
    (words_in n text ≡ words) × BeginsWithWords most text (words_in n text) rest
has_words most n text words rest as_many b =
    let are : words_in n text ≡ words = ap (λ k. words_in k text) (sym as_many) ∙ words_are_in most text words rest b in
    (are, subst (λ ws. BeginsWithWords most text ws rest) (sym are) b)

-- words of at most this many bytes have at most more bytes
pub words_within_more : (most more : ℕ) (text : List ℕ) (words : List (List ℕ)) (rest : List ℕ) → most ≤ more → BeginsWithWords most text words rest →
    BeginsWithWords more text words rest
words_within_more most more text [] rest less b = b
words_within_more most more text (word ∷ words) rest less (next, first, others) = (
  next,
  record { digits = first.digits; counted = first.counted; short = let short = first.short in omega (arith, short, less); whole = first.whole },
  words_within_more most more next words rest less others,
)
