-- The words of a line, with the quoting of redis-cli.
use Rattle.std.specs.Prelude.{◌≡◌, ◌≢◌, ◌⊎◌, ◌+◌, ◌*◌, ◌-◌, ℕ, Bool, true, false, not, ◌==◌, ◌&&◌, ◌||◌, nat_le, if◌then◌else◌, List, [], ◌∷◌, ◌++◌, Option, None, Some}
use Rattle.std.specs.List.{AllByRecursion}
use Rattle.resp_line.specs.declared.line.Quote.{Quote}
use Rattle.resp_line.specs.declared.line.Quote.TheVariants.{Double, Single}
use Rattle.resp_line.specs.declared.line.WordEnd.{WordEnd}
use Rattle.resp_line.specs.declared.line.WordEnd.TheVariants.{Ended}

-- a byte that ends a word without quotes: a space, a tab or a CR
abbrev pub is_space : ℕ → Bool
is_space b = b == 32 || (b == 9 || b == 13)

-- a byte that may be before a word and after a closing quote: a space, a tab, a CR, a vertical tab or a form feed
abbrev pub is_blank : ℕ → Bool
is_blank b = is_space b || (b == 11 || b == 12)

-- a byte that stands for itself outside quotes: no space and no quote
abbrev pub is_bare : ℕ → Bool
is_bare b = not (is_space b) && (not (b == 34) && not (b == 39))

-- the value of a hexadecimal digit
abbrev pub hex_value : ℕ → Option ℕ
hex_value b = if nat_le 48 b && nat_le b 57 then Some (b - 48) else
    if nat_le 97 b && nat_le b 102 then Some (b - 97 + 10) else
    if nat_le 65 b && nat_le b 70 then Some (b - 65 + 10) else None

-- the text begins with `xHH`, which are the digits of this byte
abbrev pub IsHexPair : List ℕ → ℕ → Type 0
IsHexPair (x ∷ h ∷ l ∷ rest) byte = (high : ℕ) × (low : ℕ) × (x ≡ 120) × (hex_value h ≡ Some high) ×
    (hex_value l ≡ Some low) × (byte ≡ high * 16 + low)
IsHexPair _ byte = ⊥

-- the byte for a backslash and this byte
abbrev pub escaped : ℕ → ℕ
escaped b = if b == 110 then 10 else if b == 114 then 13 else if b == 116 then 9 else if b == 98 then 8 else
    if b == 97 then 7 else b

-- the byte of a quote
abbrev pub quote_byte : Quote → ℕ
quote_byte Double = 34
quote_byte Single = 39

-- In quotes the text begins with this byte, and the rest follows. In double quotes it is the byte itself, `\xHH`, or a
-- backslash and another byte. In single quotes it is the byte itself, or `\'`.
abbrev pub ReadsByte : Quote → ℕ → List ℕ → List ℕ → Type 0
ReadsByte Double b text rest = ((text ≡ b ∷ rest) × (b ≢ 34) × (b ≢ 92))
    ⊎ ((x : ℕ) × (h : ℕ) × (l : ℕ) × (text ≡ 92 ∷ x ∷ h ∷ l ∷ rest) × IsHexPair (x ∷ h ∷ l ∷ rest) b)
    ⊎ ((c : ℕ) × (text ≡ 92 ∷ c ∷ rest) × ((byte : ℕ) → IsHexPair (c ∷ rest) byte → ⊥) × (b ≡ escaped c))
ReadsByte Single b text rest = ((text ≡ 92 ∷ 39 ∷ rest) × (b ≡ 39))
    ⊎ ((text ≡ b ∷ rest) × (b ≢ 39) × ((beyond : List ℕ) → text ≡ 92 ∷ 39 ∷ beyond → ⊥))

-- the text is this content up to the closing quote, and the rest follows
abbrev pub ReadsUpTo : Quote → List ℕ → List ℕ → List ℕ → Type 0
ReadsUpTo quote [] text rest = text ≡ quote_byte quote ∷ rest
ReadsUpTo quote (b ∷ content) text rest =
    (mid : List ℕ) × ReadsByte quote b text mid × ReadsUpTo quote content mid rest

-- the text is a quoted text with this content, and the rest follows
abbrev pub ReadsQuoted : List ℕ → List ℕ → List ℕ → Type 0
ReadsQuoted content text rest =
    (quote : Quote) × (inside : List ℕ) × (text ≡ quote_byte quote ∷ inside) × ReadsUpTo quote content inside rest

-- a word without quotes ends before this rest: it is empty or begins with a space
abbrev pub EndsWord : List ℕ → Type 0
EndsWord [] = Unit {0}
EndsWord (b ∷ rest) = is_space b ≡ true

-- a word in quotes ends before this rest: it is empty or begins with a blank
abbrev pub EndsQuote : List ℕ → Type 0
EndsQuote [] = Unit {0}
EndsQuote (b ∷ rest) = is_blank b ≡ true

-- the text begins with a byte that is no blank
abbrev pub StartsWord : List ℕ → Type 0
StartsWord [] = ⊥
StartsWord (b ∷ rest) = is_blank b ≡ false

-- the text is empty or begins with a byte that does not stand for itself outside quotes
abbrev pub EndsBare : List ℕ → Type 0
EndsBare [] = Unit {0}
EndsBare (b ∷ rest) = is_bare b ≡ false

-- the rest follows blanks at the beginning of the text
abbrev pub FollowsBlanks : List ℕ → List ℕ → Type 0
FollowsBlanks text rest = (blanks : List ℕ) × (text ≡ blanks ++ rest) × AllByRecursion (λ b. is_blank b ≡ true) blanks

-- The text begins with this word, and with no blank. The word is bytes that stand for themselves, up to a space or the
-- end; or a quoted text, which may follow such bytes, up to a blank or the end.
pub record IsWord (word text rest : List ℕ) : Type 0 where
  pub bare : List ℕ
  pub quoted : List ℕ
  pub mid : List ℕ
  pub starts : StartsWord text
  pub parts : word ≡ bare ++ quoted
  pub are_bare : AllByRecursion (λ b. is_bare b ≡ true) bare
  pub begins : text ≡ bare ++ mid
  pub read : ((quoted ≡ []) × (rest ≡ mid) × EndsWord rest) ⊎ (ReadsQuoted quoted mid rest × EndsQuote rest)

-- the line is these words, between blanks
abbrev pub AreWords : List (List ℕ) → List ℕ → Type 0
AreWords [] text = AllByRecursion (λ b. is_blank b ≡ true) text
AreWords (word ∷ words) text = (blanks : List ℕ) × (mid : List ℕ) × (rest : List ℕ) × (text ≡ blanks ++ mid) ×
    AllByRecursion (λ b. is_blank b ≡ true) blanks × IsWord word mid rest × AreWords words rest

-- if a word is complete, this holds of the bytes after it
abbrev pub IfEnded : (List ℕ → Type 0) → WordEnd → Type 0
IfEnded P (Ended rest) = P rest.now
IfEnded P _ = Unit {0}

-- unless a word is complete, this holds
abbrev pub UnlessEnded : Type 0 → WordEnd → Type 0
UnlessEnded P (Ended rest) = Unit {0}
UnlessEnded P _ = P
