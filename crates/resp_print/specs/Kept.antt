-- Values of which the first bytes of each text were kept, beside the lengths of the longer texts.
use Rattle.std.specs.Prelude.{◌≡◌, ◌⊎◌, ℕ, Option, Some, List, [], ◌++◌, length}
use Rattle.resp_value.specs.Data.{Scalar, Datum, Data}
use Rattle.resp_value.specs.Cuts.{cut, cut_each, cut_lengths, cut_scalar, kept_part, lengths_of_each, longer, scalar_lengths}

-- What is kept stands for a whole: it is the whole, and there are no lengths; or it is the whole, cut by the number of
-- bytes that are printed, and the lengths begin with those of the whole. Then these lengths remain.
abbrev pub StandsFor : {A : Type 0} → (ℕ → A → A) → (ℕ → A → List ℕ) → Option ℕ → List ℕ → A → A → List ℕ → Type 0
StandsFor cut_of lengths_of most lengths kept whole rest =
    ((lengths ≡ []) × (rest ≡ []) × (kept ≡ whole)) ⊎
    ((shown : ℕ) × (most ≡ Some shown) × (kept ≡ cut_of shown whole) × (lengths ≡ lengths_of shown whole ++ rest))

-- a text
abbrev pub TextFor : Option ℕ → List ℕ → List ℕ → List ℕ → List ℕ → Type 0
TextFor most lengths kept whole rest =
    StandsFor kept_part (λ shown text. longer shown (length text)) most lengths kept whole rest

-- a value without members
abbrev pub ScalarFor : Option ℕ → List ℕ → Scalar → Scalar → List ℕ → Type 0
ScalarFor most lengths kept whole rest = StandsFor cut_scalar scalar_lengths most lengths kept whole rest

-- a value
abbrev pub ValueFor : Option ℕ → List ℕ → Datum → Datum → List ℕ → Type 0
ValueFor most lengths kept whole rest = StandsFor cut cut_lengths most lengths kept whole rest

-- the members of an aggregate
abbrev pub MembersFor : Option ℕ → List ℕ → Data → Data → List ℕ → Type 0
MembersFor most lengths kept whole rest = StandsFor cut_each lengths_of_each most lengths kept whole rest
