-- The text of events as they arrive: each event adds a piece, which depends on it and on the events before it.
use Rattle.std.specs.Prelude.{ℕ, ◌+◌, ◌==◌, Bool, true, false, cond, List, [], ◌∷◌, ◌++◌, drop, length, codes, decimal, Option, None, Some}
use Rattle.std.specs.Fmt.{signed_decimal}
use Rattle.resp_value.specs.Data.{Kind, Attr, items_of}
use Rattle.resp_value.specs.Numbers.{sign_text}
use Rattle.resp_value.specs.Canonical.{sign_of}
use Rattle.resp_fronts.specs.Events.{Event, TextKind}
use Rattle.resp_fronts.specs.Events as e
use Rattle.resp_cli_stream.specs.declared.lines.OpenText.{OpenText}
use Rattle.resp_print.specs.Shown.{indentation, kind_word, quoted_byte, quoted_text, truth_word}

-- an aggregate whose first line was written and whose last was not: its kind, the number in its head, and the number of
-- its members that were written
pub record OpenLine : Type 0 where
  pub kind : Kind
  pub count : Option ℕ
  pub members : ℕ

-- the open parts of the lines so far: the aggregates, the innermost first, and the text that was begun
pub record Page : Type 0 where
  pub open_lines : List OpenLine
  pub text : Option OpenText

-- the state before the first event
abbrev pub blank : Page
blank = record { open_lines = []; text = None }

-- an attribute has all its pairs, so that the value that it belongs to comes next
abbrev pub has_all_pairs : Kind → Option ℕ → ℕ → Bool
has_all_pairs Attr (Some pairs) members = members == pairs + pairs
has_all_pairs _ _ _ = false

-- the line `of` before the value that an attribute belongs to
abbrev pub of_line : List OpenLine → List ℕ
of_line [] = []
of_line (line ∷ lines) =
    cond (has_all_pairs line.kind line.count line.members) (indentation (length lines) ++ codes "of\n") []

-- the beginning of a value's line, after the line `of`
abbrev pub beginning : Page → List ℕ
beginning p = of_line p.open_lines ++ indentation (length p.open_lines)

-- the words before a text's content
abbrev pub text_words : TextKind → List ℕ
text_words e.Simple = codes "simple \""
text_words e.Error = codes "error \""
text_words e.Double = codes "double \""
text_words e.Bulk = codes "bulk \""
text_words e.BulkError = codes "bulkerror \""
text_words (e.Verbatim format) = codes "verbatim \"" ++ quoted_text format ++ codes "\" \""
text_words (e.Big negative) = codes "big " ++ sign_text (sign_of negative)

abbrev pub is_big : TextKind → Bool
is_big (e.Big negative) = true
is_big _ = false

-- the end of a text's line: the digit of a big number that is zero, otherwise the number of the text's bytes
abbrev pub end_of_text : Option OpenText → List ℕ
end_of_text None = []
end_of_text (Some text) = cond text.is_big (cond (text.size == 0) (codes "0\n") (codes "\n"))
    (codes "\" " ++ decimal text.size ++ codes "\n")

-- the line of a complete text, after the indentation
abbrev pub text_line : TextKind → List ℕ → List ℕ
text_line kind s = text_words kind ++ (quoted_text s ++ end_of_text (Some (record {
  is_big = is_big kind;
  size = length s;
})))

-- the last line of the innermost aggregate
abbrev pub last_line : List OpenLine → List ℕ
last_line [] = []
last_line (line ∷ lines) =
    indentation (length lines) ++ (codes "end " ++ decimal (items_of line.kind line.members) ++ codes "\n")

-- the piece that an event adds
abbrev pub piece_of : Event → Page → List ℕ
piece_of e.Null p = beginning p ++ codes "null\n"
piece_of (e.Bool truth) p = beginning p ++ (truth_word truth ++ codes "\n")
piece_of (e.Int number) p = beginning p ++ (codes "int " ++ signed_decimal number ++ codes "\n")
piece_of (e.Text kind) p = beginning p ++ text_words kind
piece_of (e.Byte byte) p = quoted_byte byte
piece_of e.TextEnd p = end_of_text p.text
piece_of (e.Open kind count) p = beginning p ++ (kind_word kind ++ codes "\n")
piece_of e.Close p = last_line p.open_lines
piece_of e.Done p = []

-- one more member of the innermost aggregate was written
abbrev pub with_member : List OpenLine → List OpenLine
with_member [] = []
with_member (line ∷ lines) = record line { members = line.members + 1 } ∷ lines

-- this many more bytes of the text were written
abbrev pub with_bytes : ℕ → Option OpenText → Option OpenText
with_bytes n None = None
with_bytes n (Some text) = Some (record text { size = text.size + n })

-- a value was written completely
abbrev pub with_value : Page → Page
with_value p = record p { open_lines = with_member p.open_lines }

-- the state after an event
abbrev pub page_after_event : Event → Page → Page
page_after_event e.Null p = with_value p
page_after_event (e.Bool truth) p = with_value p
page_after_event (e.Int number) p = with_value p
page_after_event (e.Text kind) p = record p { text = Some (record { is_big = is_big kind; size = 0 }) }
page_after_event (e.Byte byte) p = record p { text = with_bytes 1 p.text }
page_after_event e.TextEnd p = record { open_lines = with_member p.open_lines; text = None }
page_after_event (e.Open kind count) p = record p {
  open_lines = record { kind = kind; count = count; members = 0 } ∷ p.open_lines;
}
page_after_event e.Close p = record p { open_lines = with_member (drop 1 p.open_lines) }
page_after_event e.Done p = p

-- the state after some events
abbrev pub page_after : List Event → Page → Page
page_after [] p = p
page_after (event ∷ es) p = page_after es (page_after_event event p)

-- the text of events, after other events that have led to this state
abbrev pub shown_on : Page → List Event → List ℕ
shown_on p [] = []
shown_on p (event ∷ es) = piece_of event p ++ shown_on (page_after_event event p) es

-- the text of the events of a value, as far as they have arrived
abbrev pub shown : List Event → List ℕ
shown es = shown_on blank es

-- the end of an incomplete line
abbrev pub end_of_line : Option OpenText → List ℕ
end_of_line None = []
end_of_line (Some text) = codes "\n"

-- the text of the events of an incomplete value, with the end of its last line
abbrev pub left_text : List Event → List ℕ
left_text es = shown es ++ end_of_line (page_after es blank).text
