-- Data: the content of a value, wherever it is stored in memory. Trees have data as their value.
use Rattle.std.specs.Prelude.{ℕ, ◌+◌, ◌/◌, ℤ, List, [], ◌∷◌, length, max}
use Rattle.std.specs.Prelude.{Bool as Truth}

-- the five kinds of aggregate
pub data Kind : Type 0 where
  Array : Kind
  Set : Kind
  Map : Kind
  Attr : Kind
  Push : Kind

-- a value without members
pub data Scalar : Type 0 where
  Null : Scalar
  Bool : Truth → Scalar
  Int : ℤ → Scalar
  Simple : List ℕ → Scalar
  Error : List ℕ → Scalar
  -- the text of a double
  Double : List ℕ → Scalar
  Bulk : List ℕ → Scalar
  BulkError : List ℕ → Scalar
  -- the format and the text
  Verbatim : List ℕ → List ℕ → Scalar
  -- whether it is negative, and its digits
  Big : Truth → List ℕ → Scalar

-- The members of a map are its keys and values in turn. The members of an attribute are its keys and values in turn,
-- and then the value that it annotates.
mutual
  pub data Datum : Type 0 where
    scalar : Scalar → Datum
    aggregate : Kind → Data → Datum

  pub data Data : Type 0 where
    none : Data
    more : Datum → Data → Data

-- the data of a list
abbrev pub data_of_list : List Datum → Data
data_of_list [] = none
data_of_list (x ∷ xs) = more x (data_of_list xs)

-- keys and values in turn
abbrev pub in_turn : List (Datum × Datum) → List Datum
in_turn [] = []
in_turn (pair ∷ pairs) = pair.0 ∷ pair.1 ∷ in_turn pairs

-- the number of data in a list
abbrev pub count : Data → ℕ
count none = 0
count (more x xs) = count xs + 1

-- the number of members of an aggregate with this number in its head: the head of a map or an attribute counts pairs
abbrev pub members_of : Kind → ℕ → ℕ
members_of Map n = n + n
members_of Attr n = n + n + 1
members_of _ n = n

-- the number in the head of an aggregate with this many members
abbrev pub items_of : Kind → ℕ → ℕ
items_of Map n = n / 2
items_of Attr n = n / 2
items_of _ n = n

-- the number of content bytes of a scalar: only strings, lines and big numbers have content
abbrev pub content_length : Scalar → ℕ
content_length (Simple s) = length s
content_length (Error s) = length s
content_length (Double s) = length s
content_length (Bulk s) = length s
content_length (BulkError s) = length s
content_length (Verbatim format s) = length s + 4
content_length (Big negative digits) = length digits
content_length _ = 0

-- the number of aggregates nested inside one another
abbrev mutual
  pub depth : Datum → ℕ
  depth (scalar s) = 0
  depth (aggregate k xs) = greatest_depth xs + 1

  pub greatest_depth : Data → ℕ
  greatest_depth none = 0
  greatest_depth (more x xs) = max (depth x) (greatest_depth xs)

-- the greatest content length
abbrev mutual
  pub longest : Datum → ℕ
  longest (scalar s) = content_length s
  longest (aggregate k xs) = longest_among xs

  pub longest_among : Data → ℕ
  longest_among none = 0
  longest_among (more x xs) = max (longest x) (longest_among xs)

-- the most members of one array, set or push, or pairs of one map or attribute
abbrev mutual
  pub most_items : Datum → ℕ
  most_items (scalar s) = 0
  most_items (aggregate k xs) = max (items_of k (count xs)) (most_items_among xs)

  pub most_items_among : Data → ℕ
  most_items_among none = 0
  most_items_among (more x xs) = max (most_items x) (most_items_among xs)

-- the value is a push
abbrev pub IsPush : Datum → Type 0
IsPush (aggregate Push xs) = Unit {0}
IsPush _ = ⊥
