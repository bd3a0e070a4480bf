-- Words at the beginning of a text.
use Rattle.std.proofs.Common.{◌≡◌, ℕ, ◌+◌, ◌<◌, ◌≤◌, List, ◌∷◌, ◌++◌, length, take, drop, sym, ap, ◌∙◌, arith, length-append}
use Rattle.std.proofs.lemmas.List.{take-append-drop}
use Rattle.resp_value.specs.Bytes.{crlf}
use Rattle.resp_value.specs.Numbers.{number}
use Rattle.resp_value.proofs.Splitting.{line_split, length_split, line_from_digits, plain_above}
use Rattle.resp_scan.specs.Whole.{BeginsWithHead, BeginsWithWord}

-- a head and the content that it counts are a bulk string
pub word_found : (most n : ℕ) (text head_rest content after rest : List ℕ) → BeginsWithHead text 36 n head_rest → n ≤ most →
    head_rest ≡ content ++ after → length content ≡ n → after ≡ crlf rest → BeginsWithWord most text content rest
word_found most n text head_rest content after rest b few split size ends = record {
  digits = b.digits;
  counted = (b.counted.0, b.counted.1 ∙ sym size);
  short = omega (arith, size, few);
  whole = b.whole ∙ ap (λ l. (36 ∷ b.digits) ++ crlf l) (split ∙ ap (λ l. content ++ l) ends);
}

-- the head of a bulk string
pub head_of_word : (most : ℕ) (text word rest : List ℕ) → BeginsWithWord most text word rest → BeginsWithHead text 36 (length word) (word ++ crlf rest)
head_of_word most text word rest b = record { digits = b.digits; counted = b.counted; whole = b.whole }

-- a text begins with one head
pub one_head : (text : List ℕ) (kind n m : ℕ) (rest rest' : List ℕ) → 13 < kind → BeginsWithHead text kind n rest → BeginsWithHead text kind m rest' →
    (n ≡ m) × (rest ≡ rest')
one_head text kind n m rest rest' above a b =
    let split = line_split (kind ∷ a.digits) (kind ∷ b.digits) rest rest' (plain_above kind above, line_from_digits a.digits a.counted.0)
    (plain_above kind above, line_from_digits b.digits b.counted.0) (sym a.whole ∙ b.whole) in
    let h : kind ∷ a.digits ≡ kind ∷ b.digits = split.0 in
    let k : a.digits ≡ b.digits = cc in
    (sym a.counted.1 ∙ ap number k ∙ b.counted.1, split.1)

-- the rest after the head of a bulk string is long enough for its content
pub word_is_there : (most n : ℕ) (text head_rest word rest : List ℕ) → BeginsWithHead text 36 n head_rest → BeginsWithWord most text word rest →
    (n ≡ length word) × (head_rest ≡ word ++ crlf rest)
word_is_there most n text head_rest word rest h b = one_head text 36 n (length word) head_rest (word ++ crlf rest) (omega arith) h (head_of_word most text word rest b)

-- the bytes after a content of this length
pub after_content : (most n : ℕ) (text head_rest content after word rest : List ℕ) → BeginsWithHead text 36 n head_rest → head_rest ≡ content ++ after →
    length content ≡ n → BeginsWithWord most text word rest → (content ≡ word) × (after ≡ crlf rest)
after_content most n text head_rest content after word rest h split size b =
    let (same, whole) = word_is_there most n text head_rest word rest h b in
    length_split content word after (crlf rest) (size ∙ same) (sym split ∙ whole)

-- a text begins with one bulk string
pub one_word : (most : ℕ) (text word rest word' rest' : List ℕ) → BeginsWithWord most text word rest → BeginsWithWord most text word' rest' →
    (word ≡ word') × (rest ≡ rest')
one_word most text word rest word' rest' a b =
    let (same, whole) = word_is_there most (length word) text (word ++ crlf rest) word' rest' (head_of_word most text word rest a) b in
    let both = length_split word word' (crlf rest) (crlf rest') same whole in
    let ends : crlf rest ≡ crlf rest' = both.1 in
    (both.0, cc)

-- the content of a bulk string and its CR LF are no longer than the bytes after the head
pub word_fits : (most n : ℕ) (text head_rest word rest : List ℕ) → BeginsWithHead text 36 n head_rest → BeginsWithWord most text word rest →
    length head_rest < n → ⊥
word_fits most n text head_rest word rest h b less =
    let (same, whole) = word_is_there most n text head_rest word rest h b in
    let size : length head_rest ≡ length word + length (crlf rest) = ap length whole ∙ length-append word (crlf rest) in
    omega (arith, size, same, less)

-- a list is its first items and the others
pub split_whole : (n : ℕ) (xs front back : List ℕ) → front ≡ take n xs → back ≡ drop n xs → xs ≡ front ++ back
split_whole n xs front back f b = sym (take-append-drop n xs) ∙ ap (λ l. l ++ drop n xs) (sym f) ∙ ap (λ l. front ++ l) (sym b)
