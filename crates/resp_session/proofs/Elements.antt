-- What holds of each element of a list.
use Rattle.std.proofs.Common.{ℕ, zero, suc, List, [], ◌∷◌, ◌++◌, take, drop}
use Rattle.std.specs.List.{AllByRecursion}

-- of one element more
pub all_and_last : {X : Type 0} (P : X → Type 0) (xs : List X) (x : X) → AllByRecursion P xs → P x → AllByRecursion P (xs ++ x ∷ [])
all_and_last P [] x h p = (p, tt)
all_and_last P (y ∷ ys) x h p = (h.0, all_and_last P ys x h.1 p)

-- of all elements but the last, and of that
pub all_but_last : {X : Type 0} (P : X → Type 0) (xs : List X) (x : X) → AllByRecursion P (xs ++ x ∷ []) → AllByRecursion P xs × P x
all_but_last P [] x h = (tt, h.0)
all_but_last P (y ∷ ys) x h = let (p, q) = all_but_last P ys x h.1 in ((h.0, p), q)

-- of the first elements
pub all_taken : {X : Type 0} (P : X → Type 0) (n : ℕ) (xs : List X) → AllByRecursion P xs → AllByRecursion P (take n xs)
all_taken P zero xs h = tt
all_taken P (suc n) [] h = tt
all_taken P (suc n) (x ∷ xs) h = (h.0, all_taken P n xs h.1)

-- of the elements after these
pub all_dropped : {X : Type 0} (P : X → Type 0) (n : ℕ) (xs : List X) → AllByRecursion P xs → AllByRecursion P (drop n xs)
all_dropped P zero xs h = h
all_dropped P (suc n) [] h = tt
all_dropped P (suc n) (x ∷ xs) h = all_dropped P n xs h.1
