-- Texts of lines, such as the reply to INFO, which are printed as they are.
use Rattle.std.specs.Prelude.{◌≡◌, ℕ, Bool, true, false, List, [], ◌∷◌, ◌++◌, Option, None, Some, cond, nat_le, ◌==◌, ◌&&◌, ◌⊎◌, ◌↔◌}
use Rattle.std.specs.List.{AllByRecursion, concat}
use Rattle.resp_value.specs.Data.{Datum, scalar, Bulk, Verbatim}
use Rattle.resp_print.specs.Shown.{lines_on}

-- whether it is LF
abbrev pub is_end : ℕ → Bool
is_end byte = byte == 10

-- whether a text begins with LF
abbrev pub begins_with_end : List ℕ → Bool
begins_with_end [] = false
begins_with_end (x ∷ xs) = is_end x

-- whether a byte before these bytes is a printable character of ASCII, a tab or LF, or CR before LF
abbrev pub is_in_line : ℕ → List ℕ → Bool
is_in_line byte beyond = cond (nat_le 32 byte && nat_le byte 126) true
    (cond (byte == 9) true (cond (byte == 10) true (cond (byte == 13) (begins_with_end beyond) false)))

-- whether these bytes are such bytes and end with LF, or are no bytes after LF
abbrev pub lines_after : Bool → List ℕ → Bool
lines_after ends [] = ends
lines_after ends (x ∷ xs) = cond (is_in_line x xs) (lines_after (is_end x) xs) false

-- whether these bytes are lines, of which each ends
abbrev pub are_lines : List ℕ → Bool
are_lines = lines_after false

-- a printable character of ASCII or a tab
abbrev pub is_plain : ℕ → Bool
is_plain byte = cond (nat_le 32 byte && nat_le byte 126) true (byte == 9)

-- printable characters and tabs, and LF or CR LF after them
pub record IsLine (bytes : List ℕ) : Type 0 where
  pub content : List ℕ
  pub plain : AllByRecursion (λ byte. is_plain byte ≡ true) content
  pub ended : (bytes ≡ content ++ (10 ∷ [])) ⊎ (bytes ≡ content ++ (13 ∷ 10 ∷ []))

-- lines, one after another, at least one
pub record AreLines (bytes : List ℕ) : Type 0 where
  pub first : List ℕ
  pub others : List (List ℕ)
  pub one : IsLine first
  pub each : AllByRecursion IsLine others
  pub whole : bytes ≡ first ++ concat others

-- a text is lines by its bytes just if it is one line after another
abbrev pub TellsLines : Type 0
TellsLines = (bytes : List ℕ) → (are_lines bytes ≡ true) ↔ AreLines bytes

abbrev pub lines_of : List ℕ → Option (List ℕ)
lines_of bytes = cond (are_lines bytes) (Some bytes) None

-- the text of a bulk or a verbatim string that consists of lines
abbrev pub text_in : Datum → Option (List ℕ)
text_in (scalar (Bulk bytes)) = lines_of bytes
text_in (scalar (Verbatim format bytes)) = lines_of bytes
text_in _ = None

abbrev pub text_or_lines : Option (List ℕ) → Datum → List ℕ
text_or_lines None x = lines_on 0 x
text_or_lines (Some text) x = text

-- the text for a reply that is printed as it is if it is a text of lines
abbrev pub lined_text : Datum → List ℕ
lined_text x = text_or_lines (text_in x) x
