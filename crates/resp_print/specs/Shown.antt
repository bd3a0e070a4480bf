-- The text that `show` prints for a value, indented by two spaces for each level.
use Rattle.std.specs.Prelude.{ℕ, suc, ◌+◌, ◌*◌, ◌/◌, ◌%◌, Bool, true, false, ◌==◌, ◌&&◌, nat_le, nat_lt, cond, if◌then◌else◌, Option, None, Some, List, [], ◌∷◌, ◌++◌, length, take, codes, decimal, replicate}
use Rattle.std.specs.Fmt.{signed_decimal}
use Rattle.std.specs.List.{flat_map}
use Rattle.resp_value.specs.Data.{Kind, Array, Set, Map, Attr, Push, Scalar, Null, Int, Simple, Error, Double, Bulk, BulkError, Verbatim, Big, Datum, Data, scalar, aggregate, none, more, count, items_of}
use Rattle.resp_value.specs.Data as d
use Rattle.resp_value.specs.Numbers.{sign_text}
use Rattle.resp_value.specs.Canonical.{sign_of}

-- a byte that is printed unchanged inside quotes: printable, and neither a quote nor a backslash
abbrev pub is_plain : ℕ → Bool
is_plain byte = nat_le 32 byte && nat_le byte 126 && cond (byte == 34) false (cond (byte == 92) false true)

-- a hexadecimal digit
abbrev pub hex_digit : ℕ → ℕ
hex_digit n = cond (nat_lt n 10) (n + 48) (n + 87)

-- a byte that is escaped inside quotes: a quote, a backslash, CR, LF, a tab, or any other byte with two digits
abbrev pub escape_of : ℕ → List ℕ
escape_of byte =
    cond (byte == 34) (codes "\\\"")
    (cond (byte == 92) (codes "\\\\")
    (cond (byte == 13) (codes "\\r")
    (cond (byte == 10) (codes "\\n")
    (cond (byte == 9) (codes "\\t")
    (codes "\\x" ++ hex_digit (byte / 16) ∷ hex_digit (byte % 16) ∷ [])))))

-- a byte inside quotes
abbrev pub quoted_byte : ℕ → List ℕ
quoted_byte byte = cond (is_plain byte) (byte ∷ []) (escape_of byte)

-- a text inside quotes
abbrev pub quoted_text : List ℕ → List ℕ
quoted_text text = flat_map quoted_byte text

-- the part of a text that is printed: its first bytes, if there is a most of them
abbrev pub shown_part : Option ℕ → List ℕ → List ℕ
shown_part None text = text
shown_part (Some most) text = take most text

-- whether a text of this many bytes is not printed whole
abbrev pub is_cut : Option ℕ → ℕ → Bool
is_cut None count = false
is_cut (Some most) count = nat_lt most count

-- the number of a text's bytes, after two dots if not all of them are printed
abbrev pub count_text : Option ℕ → ℕ → List ℕ
count_text most count = if is_cut most count then codes ".. " ++ decimal count else decimal count

-- a word, the part of the text that is printed, in quotes, and the number of the text's bytes
abbrev pub string_line : Option ℕ → List ℕ → List ℕ → List ℕ
string_line most word text = word ++ codes " \"" ++ quoted_text (shown_part most text) ++ codes "\" " ++ count_text most (length text) ++ codes "\n"

abbrev pub truth_word : Bool → List ℕ
truth_word true = codes "true"
truth_word false = codes "false"

-- the line of a value without members
abbrev pub scalar_line_within : Option ℕ → Scalar → List ℕ
scalar_line_within most Null = codes "null\n"
scalar_line_within most (d.Bool b) = truth_word b ++ codes "\n"
scalar_line_within most (Int i) = codes "int " ++ signed_decimal i ++ codes "\n"
scalar_line_within most (Simple text) = string_line most (codes "simple") text
scalar_line_within most (Error text) = string_line most (codes "error") text
scalar_line_within most (Double text) = string_line most (codes "double") text
scalar_line_within most (Bulk text) = string_line most (codes "bulk") text
scalar_line_within most (BulkError text) = string_line most (codes "bulkerror") text
scalar_line_within most (Verbatim format text) = codes "verbatim \"" ++ quoted_text format ++ codes "\" \"" ++
    quoted_text (shown_part most text) ++ codes "\" " ++ count_text most (length text) ++ codes "\n"
scalar_line_within most (Big negative digits) = codes "big " ++ sign_text (sign_of negative) ++ digits ++ codes "\n"

abbrev pub kind_word : Kind → List ℕ
kind_word Array = codes "array"
kind_word Set = codes "set"
kind_word Map = codes "map"
kind_word Attr = codes "attr"
kind_word Push = codes "push"

-- two spaces for each level
abbrev pub indentation : ℕ → List ℕ
indentation level = replicate (2 * level) 32

-- the lines of a value on a level, with at most so many bytes of each text
abbrev mutual
  pub lines_within : Option ℕ → ℕ → Datum → List ℕ
  lines_within most level (scalar s) = indentation level ++ scalar_line_within most s
  lines_within most level (aggregate Attr xs) = indentation level ++ codes "attr\n" ++ annotating_lines_within most level xs ++
      indentation level ++ codes "end " ++ decimal (items_of Attr (count xs)) ++ codes "\n"
  lines_within most level (aggregate k xs) = indentation level ++ kind_word k ++ codes "\n" ++ member_lines_within most (suc level) xs ++
      indentation level ++ codes "end " ++ decimal (items_of k (count xs)) ++ codes "\n"

  -- the lines of members, one after another
  pub member_lines_within : Option ℕ → ℕ → Data → List ℕ
  member_lines_within most level none = []
  member_lines_within most level (more x xs) = lines_within most level x ++ member_lines_within most level xs

  -- the lines of an attribute's keys and values, the word `of`, and the lines of the annotated value, which comes last
  pub annotating_lines_within : Option ℕ → ℕ → Data → List ℕ
  annotating_lines_within most level none = []
  annotating_lines_within most level (more x none) = indentation level ++ codes "of\n" ++ lines_within most (suc level) x
  annotating_lines_within most level (more x (more y ys)) =
      lines_within most (suc level) x ++ annotating_lines_within most level (more y ys)

-- the line of a value without members, with all its bytes
abbrev pub scalar_line : Scalar → List ℕ
scalar_line s = scalar_line_within None s

-- the lines of a value on a level, with all its bytes
abbrev pub lines_on : ℕ → Datum → List ℕ
lines_on level x = lines_within None level x

-- the lines of members, with all their bytes
abbrev pub member_lines : ℕ → Data → List ℕ
member_lines level xs = member_lines_within None level xs

-- the lines of an attribute's members, with all their bytes
abbrev pub annotating_lines : ℕ → Data → List ℕ
annotating_lines level xs = annotating_lines_within None level xs

-- the text of a value
abbrev pub shown_text : Datum → List ℕ
shown_text x = lines_on 0 x
