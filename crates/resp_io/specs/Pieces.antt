-- The bytes received, piece by piece. A reader is described by the bytes that are left, its reads, and its failed
-- reads.
use Rattle.std.specs.Prelude.{◌≡◌, ℕ, ◌<◌, ◌≤◌, Bool, true, false, List, [], ◌∷◌, length, Option}
use Rattle.resp_io.specs.Devices.{count_after}
use Rattle.resp_io.specs.Turns.{WereRead}

-- one read, which did not fail, returned this piece of at most so many bytes
pub record GivesPiece {R : Type 0} (most : ℕ) (remaining : R → Option (List ℕ)) (calls failures : R → ℕ) (before after : R)
    (piece : List ℕ) : Type 0 where
  pub some : 0 < length piece
  pub short : length piece ≤ most
  pub read : WereRead (remaining before) (remaining after) piece
  pub once : calls after ≡ count_after 1 (calls before)
  pub none_failed : failures after ≡ failures before

-- these pieces were returned in order, each by one read
abbrev pub GivesPieces : {R : Type 0} → ℕ → (R → Option (List ℕ)) → (R → ℕ) → (R → ℕ) → R → R → List (List ℕ) → Type 0
GivesPieces most remaining calls failures before after [] = after ≡ before
GivesPieces {R} most remaining calls failures before after (piece ∷ pieces) = (between : R) ×
    GivesPiece most remaining calls failures before between piece ×
    GivesPieces most remaining calls failures between after pieces

-- one read was made that returned nothing, or no read was made
abbrev pub ReadsNothing : {R : Type 0} → (R → Option (List ℕ)) → (R → ℕ) → R → R → Bool → Type 0
ReadsNothing remaining calls before after true =
    WereRead (remaining before) (remaining after) [] × (calls after ≡ count_after 1 (calls before))
ReadsNothing remaining calls before after false = after ≡ before

-- The bytes read are these pieces of at most so many bytes, in order, each from one read, and then a read returned nothing or no further read
-- was made.
pub record ReadsPieces {R : Type 0} (most : ℕ) (remaining : R → Option (List ℕ)) (calls failures : R → ℕ) (before after : R)
    (pieces : List (List ℕ)) (is_over : Bool) : Type 0 where
  pub between : R
  pub given : GivesPieces most remaining calls failures before between pieces
  pub over : ReadsNothing remaining calls between after is_over
