-- Places, which are numbers, in lists.
use Rattle.std.specs.Prelude.{ℕ, ◌==◌, not, List}
use Rattle.std.specs.List.{count_by, filter}

-- how often a place is in a list
abbrev pub times : ℕ → List ℕ → ℕ
times place places = count_by (λ other. other == place) places

-- a list without a place
abbrev pub without : ℕ → List ℕ → List ℕ
without place places = filter (λ other. not (other == place)) places
