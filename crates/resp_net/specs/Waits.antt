-- How long a loop waits.
use Rattle.std.specs.Prelude.{◌≡◌, Option, IsSomeAnd}
use Rattle.std.specs.Duration.{as_nanos}
use Rattle.std.specs.declared.time.Duration.{Duration}

-- the wait ends at once
abbrev pub IsNoWait : Option Duration → Type 0
IsNoWait longest = IsSomeAnd longest (λ time. as_nanos time ≡ 0)
