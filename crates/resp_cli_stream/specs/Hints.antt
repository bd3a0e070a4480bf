-- Likely reasons for a byte that the grammar does not allow, and their sentences. `before` are the bytes of the value
-- before the refused byte, `from` are the bytes from it on.
use Rattle.std.specs.Prelude.{◌≡◌, ◌⊎◌, ◌<◌, ◌==◌, ℕ, Bool, true, List, [], ◌∷◌, ◌++◌, if◌then◌else◌, length, codes, decimal, Option, Some, None}
use Rattle.std.specs.Char.{is_ascii_alphabetic}
use Rattle.std.specs.List.{AllByRecursion, Contains, list_any}
use Rattle.std.specs.Str.{byte}
use Rattle.resp_cli_stream.specs.declared.hint.Clue.{Clue}
use Rattle.resp_cli_stream.specs.declared.hint.Clue.TheVariants as clue
use Rattle.resp_cli_stream.specs.declared.hint.Hint.{Hint}
use Rattle.resp_cli_stream.specs.declared.hint.Hint.TheVariants as hint

-- the bytes begin with this text
abbrev pub Begins : List ℕ → List ℕ → Type 0
Begins text from = (rest : List ℕ) × (from ≡ text ++ rest)

-- the bytes end with this text
abbrev pub Ends : List ℕ → List ℕ → Type 0
Ends text before = (front : List ℕ) × (before ≡ front ++ text)

-- the first byte is a letter
abbrev pub BeginsWithLetter : List ℕ → Type 0
BeginsWithLetter [] = ⊥
BeginsWithLetter (b ∷ rest) = is_ascii_alphabetic b ≡ true

-- the byte is one of these
abbrev pub is_one_of : List ℕ → ℕ → Bool
is_one_of bytes byte = list_any (λ b. b == byte) bytes

-- the bytes end with one of these marks
pub record EndsWithMark (marks before : List ℕ) : Type 0 where
  pub front : List ℕ
  pub mark : ℕ
  pub is_mark : is_one_of marks mark ≡ true
  pub whole : before ≡ front ++ mark ∷ []

-- the bytes end with one of these marks, and after it any number of bytes that are some of these digits
pub record EndsWithAny (digits marks before : List ℕ) : Type 0 where
  pub front : List ℕ
  pub has_mark : EndsWithMark marks front
  pub last : List ℕ
  pub are_digits : AllByRecursion (λ b. is_one_of digits b ≡ true) last
  pub whole : before ≡ front ++ last

-- the bytes end with one of these bytes and digits after it
abbrev pub EndsWithNumber : List ℕ → List ℕ → Type 0
EndsWithNumber marks before = EndsWithAny (codes "0123456789") marks before

-- the type bytes of strings whose length is counted, and of a chunk
abbrev pub length_marks : List ℕ
length_marks = codes "$!=;"

-- which bytes show a clue; the first eleven clues are formats of an input that is no RESP
abbrev pub Shows : Clue → List ℕ → List ℕ → Type 0
Shows clue.Tls before from = (before ≡ []) × Begins (22 ∷ 3 ∷ []) from
Shows clue.Gzip before from = (before ≡ []) × Begins (31 ∷ 139 ∷ []) from
Shows clue.Elf before from = (before ≡ []) × Begins (127 ∷ codes "ELF") from
Shows clue.Rdb before from = (before ≡ []) × Begins (codes "REDIS0") from
Shows clue.HttpRequest before from =
    (before ≡ []) × (Begins (codes "GET /") from ⊎ Begins (codes "POST /") from ⊎ Begins (codes "HEAD /") from)
Shows clue.HttpResponse before from = (before ≡ []) × Begins (codes "HTTP/") from
Shows clue.Utf8Mark before from = (before ≡ []) × Begins (239 ∷ 187 ∷ 191 ∷ []) from
Shows clue.Utf16 before from = (before ≡ []) × Begins (255 ∷ 254 ∷ []) from
Shows clue.Json before from = (before ≡ []) × (Begins (codes "{") from ⊎ Begins (codes "[") from)
Shows clue.Cli before from = (before ≡ []) × (Begins (codes "\"") from ⊎ Begins (codes "1) ") from)
Shows clue.Inline before from = (before ≡ []) × BeginsWithLetter from
Shows clue.Escaped before from = Begins (codes "\\r") from ⊎ Ends (codes "\\r\\n") before × Begins (10 ∷ []) from
Shows clue.EmptyLine before from =
    ((before ≡ []) ⊎ Ends (10 ∷ []) before) × Begins (13 ∷ []) from ⊎ (before ≡ []) × Begins (10 ∷ []) from
Shows clue.NoChunk before from = Ends (36 ∷ 63 ∷ 13 ∷ 10 ∷ []) before
Shows clue.End before from = ((before ≡ []) ⊎ Ends (10 ∷ []) before) × Begins (codes ".") from
Shows clue.ReturnAlone before from = Ends (13 ∷ []) before
Shows clue.FeedAlone before from = Begins (10 ∷ []) from
Shows clue.Negative before from = Ends (codes "$-") before ⊎ Ends (codes "*-") before
Shows clue.Null before from = Ends (codes "_") before
Shows clue.Boolean before from = Ends (codes "#") before
Shows clue.Integer before from = EndsWithNumber (codes ":") before
Shows clue.BigNumber before from = EndsWithNumber (codes "(") before
Shows clue.Length before from = EndsWithNumber length_marks before
Shows clue.Count before from = EndsWithNumber (codes "*%~>|") before

-- all clues, in the order of their precedence
abbrev pub clues : List Clue
clues =
    clue.Tls ∷ clue.Gzip ∷ clue.Elf ∷ clue.Rdb ∷ clue.HttpRequest ∷ clue.HttpResponse ∷ clue.Utf8Mark ∷ clue.Utf16 ∷
    clue.Json ∷ clue.Cli ∷ clue.Inline ∷ clue.Escaped ∷ clue.EmptyLine ∷ clue.NoChunk ∷ clue.End ∷ clue.ReturnAlone ∷
    clue.FeedAlone ∷ clue.Negative ∷ clue.Null ∷ clue.Boolean ∷ clue.Integer ∷ clue.BigNumber ∷ clue.Length ∷
    clue.Count ∷ []

-- the first one of these clues that the bytes show, or none of them is shown
abbrev pub IsFirstOf : List Clue → List ℕ → List ℕ → Option Clue → Type 0
IsFirstOf list before from (Some c) = (earlier later : List Clue) × (list ≡ earlier ++ c ∷ later) × Shows c before from
    × ((other : Clue) → Contains earlier other → Shows other before from → ⊥)
IsFirstOf list before from None = (other : Clue) → Contains list other → Shows other before from → ⊥

-- the bytes end with the type byte of a string, this length, which may have leading zeros, and CR LF
pub record EndsWithLength (size : ℕ) (head : List ℕ) : Type 0 where
  pub front : List ℕ
  pub has_mark : EndsWithAny (codes "0") length_marks front
  pub whole : head ≡ front ++ (decimal size ++ 13 ∷ 10 ∷ [])

-- the bytes end with the complete content of a string of this length, without the CR LF after it
pub record EndsWithContent (size : ℕ) (before : List ℕ) : Type 0 where
  pub head : List ℕ
  pub content : List ℕ
  pub whole : before ≡ head ++ content
  pub has_size : length content ≡ size
  pub has_length : EndsWithLength size head

-- The hint about a byte: it follows the content of a string, or the first clue that is shown. If the bytes end with the
-- content of several strings, the hint is about the longest one.
abbrev pub IsHint : List ℕ → List ℕ → Option Hint → Type 0
IsHint before from (Some (hint.Content size)) =
    EndsWithContent size before × ((other : ℕ) → size < other → EndsWithContent other before → ⊥)
IsHint before from (Some (hint.Clue c)) =
    ((size : ℕ) → EndsWithContent size before → ⊥) × IsFirstOf clues before from (Some c)
IsHint before from None = ((size : ℕ) → EndsWithContent size before → ⊥) × IsFirstOf clues before from None

-- the line about a clue
abbrev pub clue_line : Clue → List ℕ
clue_line clue.Tls = codes "  this looks like TLS\n"
clue_line clue.Gzip = codes "  this looks like gzip\n"
clue_line clue.Elf = codes "  this looks like an ELF file\n"
clue_line clue.Rdb = codes "  this looks like an RDB file\n"
clue_line clue.HttpRequest = codes "  this looks like an HTTP request\n"
clue_line clue.HttpResponse = codes "  this looks like an HTTP response\n"
clue_line clue.Utf8Mark = codes "  this looks like text with a byte order mark\n"
clue_line clue.Utf16 = codes "  this looks like text in UTF-16\n"
clue_line clue.Json = codes "  this looks like JSON\n"
clue_line clue.Cli = codes "  this looks like the output of redis-cli\n"
clue_line clue.Inline = codes "  this looks like an inline command; a command is an array of bulk strings here\n"
clue_line clue.Escaped = codes "  a backslash is a byte like any other; printf writes \\r\\n as CR LF\n"
clue_line clue.EmptyLine = codes "  an empty line; a value begins with the byte of its type\n"
clue_line clue.NoChunk = codes "  a streamed string consists of chunks, which begin with ;\n"
clue_line clue.End = codes "  a dot ends a streamed aggregate, and is not valid elsewhere\n"
clue_line clue.ReturnAlone = codes "  CR without LF; a line ends with CR LF\n"
clue_line clue.FeedAlone = codes "  LF without CR; a line ends with CR LF\n"
clue_line clue.Negative = codes "  the only negative length is -1\n"
clue_line clue.Null = codes "  a null is only _ and CR LF\n"
clue_line clue.Boolean = codes "  a boolean is #t or #f\n"
clue_line clue.Integer = codes "  an integer consists of an optional sign and digits\n"
clue_line clue.BigNumber = codes "  a big number consists of an optional sign and digits\n"
clue_line clue.Length = codes "  a length consists of digits\n"
clue_line clue.Count = codes "  a count consists of digits\n"

-- the line with a hint, if there is one
abbrev pub hint_line : Option Hint → List ℕ
hint_line (Some (hint.Content size)) =
    codes "  expected CR LF after " ++ decimal size ++ codes " bytes of content\n"
hint_line (Some (hint.Clue c)) = clue_line c
hint_line None = []

-- The sentence about a byte that version 2 does not have. It names a type of version 3 by its type byte, or a streamed
-- string or aggregate by its question mark.
abbrev pub version_text : ℕ → List ℕ
version_text b =
    if b == byte "_" then codes "RESP3 null in RESP2 input; use -3" else
    if b == byte "#" then codes "RESP3 boolean in RESP2 input; use -3" else
    if b == byte "," then codes "RESP3 double in RESP2 input; use -3" else
    if b == byte "(" then codes "RESP3 big number in RESP2 input; use -3" else
    if b == byte "!" then codes "RESP3 bulk error in RESP2 input; use -3" else
    if b == byte "=" then codes "RESP3 verbatim string in RESP2 input; use -3" else
    if b == byte "%" then codes "RESP3 map in RESP2 input; use -3" else
    if b == byte "~" then codes "RESP3 set in RESP2 input; use -3" else
    if b == byte "|" then codes "RESP3 attribute in RESP2 input; use -3" else
    if b == byte ">" then codes "RESP3 push in RESP2 input; use -3" else
    if b == byte "?" then codes "RESP3 streamed string or aggregate in RESP2 input; use -3" else
    codes "version 2 doesn't have this; use -3"
