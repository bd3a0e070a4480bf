-- The results of reads and writes, of which each is a turn.
use Rattle.std.specs.Prelude.{◌≡◌, ℕ, ◌+◌, ◌<◌, Bool, true, false, List, [], ◌++◌, Option, None, Some, Result, Ok, Err}
use Rattle.resp_io.specs.Devices.{HasRisen, count_after}
use Rattle.resp_io.specs.declared.halt.Halt.{Halt}
use Rattle.resp_io.specs.declared.halt.Halt.TheVariants.{Failed, NoTurn}

-- Bytes were read: if the device describes its bytes, they are the first of the bytes that were left.
abbrev pub WereRead : Option (List ℕ) → Option (List ℕ) → List ℕ → Type 0
WereRead None after came = Unit {0}
WereRead (Some left) after came = (rest : List ℕ) × (left ≡ came ++ rest) × (after ≡ Some rest)

-- A count of calls has risen by `count`, and so many of the remaining turns were used.
pub record Spends (calls calls' turns turns' : ℕ) : Type 0 where
  pub count : ℕ
  pub none : count ≡ 0 → calls' ≡ calls
  pub some : 0 < count → calls' ≡ count_after count calls
  pub spent : turns ≡ turns' + count

-- why no byte is moved: the device's count of failures has risen, or no turn is left
abbrev pub Halts : ℕ → ℕ → ℕ → Halt → Type 0
Halts failures failures' left Failed = HasRisen failures failures'
Halts failures failures' left NoTurn = left ≡ 0

-- whether the device failed
abbrev pub has_failed : Halt → Bool
has_failed Failed = true
has_failed NoTurn = false

-- whether a call stopped with an error that passes this test
abbrev pub stopped_by : {T E : Type 0} → (E → Bool) → Result T E → Bool
stopped_by test (Ok x) = false
stopped_by test (Err error) = test error

-- a device that described its bytes states that no byte is left
abbrev pub TellsEnd : Option (List ℕ) → Option (List ℕ) → Type 0
TellsEnd None after = Unit {0}
TellsEnd (Some left) after = after ≡ Some []

-- writes and reads were made, and these turns are left
pub record SpendsTurns (writes writes' reads reads' turns left : ℕ) : Type 0 where
  pub between : ℕ
  pub written : Spends writes writes' turns between
  pub read : Spends reads reads' between left

-- At most this many writes and reads were made. If the call is out of turns, no turn is left.
abbrev pub SpendsAtMost : ℕ → ℕ → ℕ → ℕ → ℕ → Type 0 → Type 0
SpendsAtMost writes writes' reads reads' turns IsOutOfTurns =
    (left : ℕ) × SpendsTurns writes writes' reads reads' turns left × (IsOutOfTurns → left ≡ 0)
