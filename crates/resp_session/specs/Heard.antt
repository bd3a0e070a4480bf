-- The replies and pushes that a client receives: replies with their numbers, and pushes separately.
use Rattle.std.specs.Prelude.{ℕ, ◌+◌, Bool, true, false, not, List, [], ◌∷◌, filter}
use Rattle.resp_value.specs.Data.{Datum, aggregate, Push}

-- whether a value is a push
abbrev pub is_push : Datum → Bool
is_push (aggregate Push xs) = true
is_push _ = false

-- the values that are not pushes
abbrev pub replies_of : List Datum → List Datum
replies_of xs = filter (λ x. not (is_push x)) xs

-- the values that are pushes
abbrev pub pushes_of : List Datum → List Datum
pushes_of xs = filter is_push xs

-- these values, numbered one by one from the first number on
abbrev pub numbered_from : ℕ → List Datum → List (ℕ × Datum)
numbered_from first [] = []
numbered_from first (x ∷ xs) = (first, x) ∷ numbered_from (first + 1) xs

-- the replies among these values, with their numbers
abbrev pub numbered_replies : ℕ → List Datum → List (ℕ × Datum)
numbered_replies first xs = numbered_from first (replies_of xs)
