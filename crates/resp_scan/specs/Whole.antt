-- What lies completely at the beginning of a text.
use Rattle.std.specs.Prelude.{◌≡◌, ℕ, zero, suc, ◌+◌, ◌≤◌, cond, eqb, List, [], ◌∷◌, ◌++◌, length, take, drop}
use Rattle.std.specs.Str.{byte}
use Rattle.resp_value.specs.Bounds.{Bounds}
use Rattle.resp_value.specs.Bytes.{crlf}
use Rattle.resp_value.specs.Data.{Datum}
use Rattle.resp_value.specs.Numbers.{IsNumber, number}
use Rattle.resp_value.specs.Rules.{rules_under}
use Rattle.resp_value.specs.Spellings.{IsSpelling}
use Rattle.resp_value.specs.declared.version.Version.TheVariants.{Two}

-- the text begins with a spelling of the value in version 2, and then has this rest
pub record BeginsWith (limits : Bounds) (text : List ℕ) (x : Datum) (rest : List ℕ) : Type 0 where
  pub written : List ℕ
  pub spelled : IsSpelling (rules_under Two limits) x written
  pub whole : text ≡ written ++ rest

-- the text begins with a head of this type byte and number, and then has this rest
pub record BeginsWithHead (text : List ℕ) (kind n : ℕ) (rest : List ℕ) : Type 0 where
  pub digits : List ℕ
  pub counted : IsNumber n digits
  pub whole : text ≡ (kind ∷ digits) ++ crlf rest

-- the text begins with a bulk string of this word, which has at most this many bytes, and then has this rest
pub record BeginsWithWord (most : ℕ) (text word rest : List ℕ) : Type 0 where
  pub digits : List ℕ
  pub counted : IsNumber (length word) digits
  pub short : length word ≤ most
  pub whole : text ≡ (byte "$" ∷ digits) ++ crlf (word ++ crlf rest)

-- the text begins with bulk strings of these words, one after another, and then has this rest
abbrev pub BeginsWithWords : ℕ → List ℕ → List (List ℕ) → List ℕ → Type 0
BeginsWithWords most text [] rest = text ≡ rest
BeginsWithWords most text (word ∷ words) rest = (next : List ℕ) × BeginsWithWord most text word next ×
    BeginsWithWords most next words rest

-- the bytes before the first CR
abbrev pub before_return : List ℕ → List ℕ
before_return [] = []
before_return (b ∷ bs) = cond (eqb b (byte "\r")) [] (b ∷ before_return bs)

-- the bytes after the head of the bulk string at the beginning of a text
abbrev pub after_head : List ℕ → List ℕ
after_head text = drop (length (before_return text) + 2) text

-- the number in the head of the bulk string at the beginning of a text
abbrev pub head_number : List ℕ → ℕ
head_number text = number (drop 1 (before_return text))

-- the words of this many bulk strings at the beginning of a text
abbrev pub words_in : ℕ → List ℕ → List (List ℕ)
words_in zero text = []
words_in (suc n) text =
    take (head_number text) (after_head text) ∷ words_in n (drop (head_number text + 2) (after_head text))

-- the text begins with this many bulk strings
abbrev pub HasWords : ℕ → ℕ → List ℕ → Type 0
HasWords most n text = (rest : List ℕ) × BeginsWithWords most text (words_in n text) rest
