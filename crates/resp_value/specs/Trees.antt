-- Trees: values together with the choices of their encoding. A tree records the form of a null, signs, leading zeros,
-- chunks, and whether an aggregate is counted or streamed. So its text is a function of the tree.
use Rattle.std.specs.Prelude.{◌≡◌, ℕ, ◌+◌, Bool, true, false, List, [], ◌∷◌, ◌++◌, length, codes}
use Rattle.std.specs.List.{AllByRecursion}
use Rattle.std.specs.Str.{byte}
use Rattle.resp_value.specs.Bytes.{IsText, IsLine, IsFull, crlf}
use Rattle.resp_value.specs.Numbers.{IsDigits, IsNumber, number, Sign, sign_text}
use Rattle.resp_value.specs.Doubles.{IsDouble}
use Rattle.resp_value.specs.Data.{Kind, Array, Set, Map, Attr, Push, members_of}

-- the kinds of text on one line: a simple string, an error or a double
pub data LineKind : Type 0 where
  Simple : LineKind
  Error : LineKind
  Double : LineKind

-- an integer, or a big number
pub data NumberKind : Type 0 where
  Int : NumberKind
  Big : NumberKind

-- `$-1`, `*-1` or `_`
pub data NullForm : Type 0 where
  BulkNull : NullForm
  ArrayNull : NullForm
  PlainNull : NullForm

-- a verbatim string with its format
pub data StringKind : Type 0 where
  Bulk : StringKind
  BulkError : StringKind
  Verbatim : List ℕ → StringKind

-- one chunk of a streamed string: the digits of its length, and its content
pub record Chunk : Type 0 where
  pub digits : List ℕ
  pub content : List ℕ

-- a value without members, with the choices of its encoding
pub data Leaf : Type 0 where
  line : LineKind → List ℕ → Leaf
  numeral : NumberKind → Sign → List ℕ → Leaf
  null : NullForm → Leaf
  truth : Bool → Leaf
  -- the digits of its length, and its content
  string : StringKind → List ℕ → List ℕ → Leaf
  -- a streamed string: its chunks, and the zeros in the line that ends it
  chunked : List Chunk → List ℕ → Leaf

-- counted, with these digits, or streamed
pub data Form : Type 0 where
  Counted : List ℕ → Form
  Streamed : Form

-- a leaf, or an aggregate of a kind and a form over its members
mutual
  pub data Tree : Type 0 where
    leaf : Leaf → Tree
    node : Kind → Form → Trees → Tree

  pub data Trees : Type 0 where
    none : Trees
    more : Tree → Trees → Trees

-- the type byte of a line
abbrev pub line_byte : LineKind → ℕ
line_byte Simple = byte "+"
line_byte Error = byte "-"
line_byte Double = byte ","

-- the type byte of a number
abbrev pub number_byte : NumberKind → ℕ
number_byte Int = byte ":"
number_byte Big = byte "("

-- the line of a null
abbrev pub null_line : NullForm → List ℕ
null_line BulkNull = codes "$-1"
null_line ArrayNull = codes "*-1"
null_line PlainNull = codes "_"

-- the line of a boolean
abbrev pub truth_line : Bool → List ℕ
truth_line true = codes "#t"
truth_line false = codes "#f"

-- the type byte of a string
abbrev pub string_byte : StringKind → ℕ
string_byte Bulk = byte "$"
string_byte BulkError = byte "!"
string_byte (Verbatim format) = byte "="

-- the bytes that the length of a string counts
abbrev pub payload : StringKind → List ℕ → List ℕ
payload (Verbatim format) s = format ++ (byte ":" ∷ s)
payload _ s = s

-- the type byte of an aggregate
abbrev pub kind_byte : Kind → ℕ
kind_byte Array = byte "*"
kind_byte Set = byte "~"
kind_byte Map = byte "%"
kind_byte Attr = byte "|"
kind_byte Push = byte ">"

-- the text after the type byte in the head of an aggregate
abbrev pub form_line : Form → List ℕ
form_line (Counted digits) = digits
form_line Streamed = codes "?"

-- the first line, without its CR LF
abbrev pub leaf_line : Leaf → List ℕ
leaf_line (line k s) = line_byte k ∷ s
leaf_line (numeral k sign digits) = number_byte k ∷ (sign_text sign ++ digits)
leaf_line (null form) = null_line form
leaf_line (truth b) = truth_line b
leaf_line (string k digits s) = string_byte k ∷ digits
leaf_line (chunked chunks zeros) = codes "$?"

-- the text of chunks, followed by more bytes
abbrev pub chunks_text : List Chunk → List ℕ → List ℕ
chunks_text [] rest = rest
chunks_text (c ∷ cs) rest = (byte ";" ∷ c.digits) ++ crlf (c.content ++ crlf (chunks_text cs rest))

-- the text after the first line
abbrev pub leaf_rest : Leaf → List ℕ
leaf_rest (string k digits s) = payload k s ++ crlf []
leaf_rest (chunked chunks zeros) = chunks_text chunks ((byte ";" ∷ zeros) ++ crlf [])
leaf_rest _ = []

-- the text of a leaf
abbrev pub leaf_text : Leaf → List ℕ
leaf_text l = leaf_line l ++ crlf (leaf_rest l)

-- the text that closes a streamed aggregate
abbrev pub close : Form → List ℕ
close (Counted digits) = []
close Streamed = byte "." ∷ crlf []

abbrev mutual
  -- the text of a tree
  pub text : Tree → List ℕ
  text (leaf l) = leaf_text l
  text (node k form ts) = (kind_byte k ∷ form_line form) ++ crlf (texts ts ++ close form)

  pub texts : Trees → List ℕ
  texts none = []
  texts (more t ts) = text t ++ texts ts

-- the number of trees in a list
abbrev pub count : Trees → ℕ
count none = 0
count (more t ts) = count ts + 1

-- the content of a streamed string
abbrev pub joined_content : List Chunk → List ℕ
joined_content [] = []
joined_content (c ∷ cs) = c.content ++ joined_content cs

-- a chunk is not empty, and its digits are its length
abbrev pub IsChunk : Chunk → Type 0
IsChunk c = IsNumber (length c.content) c.digits × IsFull c.content × IsText c.content

-- a format is any three bytes
abbrev pub HasFormat : StringKind → Type 0
HasFormat (Verbatim format) = (length format ≡ 3) × IsText format
HasFormat _ = Unit {0}

-- the text of a double is a number
abbrev pub IsNumberIn : LineKind → List ℕ → Type 0
IsNumberIn Double s = IsDouble s
IsNumberIn _ s = Unit {0}

-- the leaf is part of the grammar
abbrev pub IsLeaf : Leaf → Type 0
IsLeaf (line k s) = IsLine s × IsText s × IsNumberIn k s
IsLeaf (numeral k sign digits) = IsDigits digits
IsLeaf (string k digits s) = IsNumber (length (payload k s)) digits × HasFormat k × IsText s
IsLeaf (chunked chunks zeros) = AllByRecursion IsChunk chunks × IsNumber 0 zeros
IsLeaf _ = Unit {0}

-- attributes and pushes cannot be streamed, and a streamed map has whole pairs
abbrev pub CanStream : Kind → ℕ → Type 0
CanStream Map n = (pairs : ℕ) × (pairs + pairs ≡ n)
CanStream Attr n = ⊥
CanStream Push n = ⊥
CanStream _ n = Unit {0}

-- an aggregate of this form may have this number of members
abbrev pub HasMembers : Kind → Form → ℕ → Type 0
HasMembers k (Counted digits) n = IsDigits digits × (members_of k (number digits) ≡ n)
HasMembers k Streamed n = CanStream k n

-- the tree is part of the grammar
abbrev mutual
  pub IsTree : Tree → Type 0
  IsTree (leaf l) = IsLeaf l
  IsTree (node k form ts) = HasMembers k form (count ts) × AreTrees ts

  pub AreTrees : Trees → Type 0
  AreTrees none = Unit {0}
  AreTrees (more t ts) = IsTree t × AreTrees ts

-- the tree is part of the grammar, and this is its text
pub record Spells (tree : Tree) (written : List ℕ) : Type 0 where
  pub is_tree : IsTree tree
  pub spelled : text tree ≡ written
