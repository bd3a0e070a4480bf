-- Globs: the pieces of a glob, and which texts it matches.
use Rattle.std.specs.Prelude.{◌≡◌, ℕ, zero, suc, ◌+◌, ◌-◌, ◌==◌, Bool, true, false, not, ◌&&◌, ◌||◌, List, [], ◌∷◌, length, drop, slice_index, nat_lt, nat_le, if◌then◌else◌}
use Rattle.std.specs.List.{list_any}

-- The bytes from one to another. The greater byte may come first.
pub record Range : Type 0 where
  pub one : ℕ
  pub other : ℕ

abbrev pub single : ℕ → Range
single byte = record { one = byte; other = byte }

-- A piece of a glob: any number of bytes, or a byte in one of these ranges, or a byte in none of them.
pub data Piece : Type 0 where
  star : Piece
  among : List Range → Piece
  outside : List Range → Piece

-- ---- the members of a class

-- the number of bytes of the member at the beginning of some bytes: an escaped byte, a range as `a-z`, or a byte
abbrev pub member_length : List ℕ → ℕ
member_length text =
    if slice_index text 0 == 92 && nat_lt 1 (length text) then 2 else
    if slice_index text 1 == 45 && nat_lt 2 (length text) then 3 else 1

-- the bytes of this member
abbrev pub member_at : List ℕ → Range
member_at text =
    if slice_index text 0 == 92 && nat_lt 1 (length text) then single (slice_index text 1) else
    if slice_index text 1 == 45 && nat_lt 2 (length text) then record { one = slice_index text 0; other = slice_index text 2 }
    else single (slice_index text 0)

-- the members of a class before its `]` or the end, after this many bytes
unfoldable pub members_after : ℕ → List ℕ → List Range
members_after skipped [] = []
members_after (suc n) (byte ∷ rest) = members_after n rest
members_after zero (byte ∷ rest) =
    if byte == 93 then [] else member_at (byte ∷ rest) ∷ members_after (member_length (byte ∷ rest) - 1) rest

-- the number of bytes of the members and the `]`, after this many bytes
unfoldable pub class_length_after : ℕ → List ℕ → ℕ
class_length_after skipped [] = 0
class_length_after (suc n) (byte ∷ rest) = class_length_after n rest + 1
class_length_after zero (byte ∷ rest) =
    if byte == 93 then 1 else class_length_after (member_length (byte ∷ rest) - 1) rest + 1

-- ---- the pieces of a glob

-- whether a `[` is followed by `^`
abbrev pub is_negated : List ℕ → Bool
is_negated text = slice_index text 1 == 94

-- the bytes after `[` or `[^`
abbrev pub class_of : List ℕ → List ℕ
class_of text = drop (if is_negated text then 2 else 1) text

-- the number of bytes of the first piece of a glob
abbrev pub piece_length : List ℕ → ℕ
piece_length glob =
    if slice_index glob 0 == 91 then (if is_negated glob then 2 else 1) + class_length_after 0 (class_of glob) else
    if slice_index glob 0 == 92 && nat_lt 1 (length glob) then 2 else 1

-- the first piece of a glob
abbrev pub piece_at : List ℕ → Piece
piece_at glob =
    if slice_index glob 0 == 42 then star else
    if slice_index glob 0 == 63 then outside [] else
    if slice_index glob 0 == 91 then
    (if is_negated glob then outside (members_after 0 (class_of glob)) else among (members_after 0 (class_of glob))) else
    if slice_index glob 0 == 92 && nat_lt 1 (length glob) then among (single (slice_index glob 1) ∷ []) else
    among (single (slice_index glob 0) ∷ [])

-- the pieces of a glob after this many bytes
unfoldable pub pieces_after : ℕ → List ℕ → List Piece
pieces_after skipped [] = []
pieces_after (suc n) (byte ∷ rest) = pieces_after n rest
pieces_after zero (byte ∷ rest) = piece_at (byte ∷ rest) ∷ pieces_after (piece_length (byte ∷ rest) - 1) rest

abbrev pub pieces_of : List ℕ → List Piece
pieces_of glob = pieces_after 0 glob

-- ---- texts

abbrev pub is_within : ℕ → Range → Bool
is_within byte range =
    (nat_le range.one byte && nat_le byte range.other) || (nat_le range.other byte && nat_le byte range.one)

abbrev pub is_in_any : ℕ → List Range → Bool
is_in_any byte ranges = list_any (is_within byte) ranges

-- whether a byte fits a piece
abbrev pub fits : ℕ → Piece → Bool
fits byte star = false
fits byte (among ranges) = is_in_any byte ranges
fits byte (outside ranges) = not (is_in_any byte ranges)

-- The pieces match the whole text. A star matches any number of bytes.
unfoldable pub MatchesPieces : List Piece → List ℕ → Type 0
MatchesPieces [] text = text ≡ []
MatchesPieces (star ∷ pieces) text = (count : ℕ) × MatchesPieces pieces (drop count text)
MatchesPieces (among ranges ∷ pieces) [] = ⊥
MatchesPieces (among ranges ∷ pieces) (byte ∷ rest) = (is_in_any byte ranges ≡ true) × MatchesPieces pieces rest
MatchesPieces (outside ranges ∷ pieces) [] = ⊥
MatchesPieces (outside ranges ∷ pieces) (byte ∷ rest) = (is_in_any byte ranges ≡ false) × MatchesPieces pieces rest

-- the glob matches the whole text
abbrev pub Matches : List ℕ → List ℕ → Type 0
Matches glob text = MatchesPieces (pieces_of glob) text
