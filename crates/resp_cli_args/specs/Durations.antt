-- The times of the command line.
use Rattle.std.specs.Prelude.{◌≡◌, ◌⊎◌, ◌≤◌, ℕ, codes}
use Rattle.clap.specs.Words.{Text}
use Rattle.resp_cli_args.specs.Units.{HasUnit}

-- the text is a number with a unit, which is this many microseconds
abbrev pub HasTimeUnit : Text → ℕ → Type 0
HasTimeUnit text micros = HasUnit (codes "us") 1 text micros ⊎ HasUnit (codes "ms") 1000 text micros ⊎
    HasUnit (codes "s") 1000000 text micros ⊎ HasUnit (codes "m") 60000000 text micros ⊎
    HasUnit (codes "h") 3600000000 text micros

-- the text is `0`, which needs no unit
abbrev pub IsNothing : Text → ℕ → Type 0
IsNothing text micros = (text ≡ codes "0") × (micros ≡ 0)

-- the text is a time of this many microseconds
abbrev pub IsDuration : Text → ℕ → Type 0
IsDuration text micros = IsNothing text micros ⊎ HasTimeUnit text micros

-- the text is a time with a unit of this many microseconds, which is in this range
abbrev pub IsTime : Text → ℕ → ℕ → ℕ → Type 0
IsTime text least most micros = HasTimeUnit text micros × (least ≤ micros) × (micros ≤ most)

-- the text is a time of this many microseconds, which is in this range, or it is `0`
abbrev pub IsPause : Text → ℕ → ℕ → ℕ → Type 0
IsPause text least most micros = IsNothing text micros ⊎ IsTime text least most micros
