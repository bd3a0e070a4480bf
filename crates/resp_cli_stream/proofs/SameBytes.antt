-- Texts of which the code has seen that they don't differ.
use Rattle.std.proofs.Common.{◌≡◌, ℕ, Bool, true, false, not, List, refl}
use Rattle.std.specs.Str.{bytes_eq}
use Rattle.std.proofs.lemmas.Slice.Eq.{bytes_eq-Decides}

pub same_bytes : (a b : List ℕ) → not (bytes_eq a b) ≡ false → a ≡ b
same_bytes a b e = go (bytes_eq a b) refl e
  where
    go : (t : Bool) → bytes_eq a b ≡ t → not t ≡ false → a ≡ b
    go true is e = (bytes_eq-Decides a b).0 is
    go false is e = cc
