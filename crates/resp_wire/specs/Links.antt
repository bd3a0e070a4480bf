-- The errors of links.
use Rattle.std.specs.Prelude.{◌≡◌, ◌⊎◌, ℕ, List, ◌++◌, Bool, true, false, Option, None, Some, Result, Ok, Err}
use Rattle.resp_io.specs.Devices.{HasRisen}
use Rattle.resp_value.specs.declared.cause.Cause.{Cause}
use Rattle.resp_value.specs.declared.cause.Cause.TheVariants.{Read, Write, TooManyTurns}
use Rattle.resp_io.specs.Turns.{TellsEnd}
use Rattle.resp_wire.specs.declared.link.Direction.{Direction}
use Rattle.resp_wire.specs.declared.link.Direction.TheVariants.{ToServer, ToClient}
use Rattle.resp_wire.specs.declared.link.LinkFault.{LinkFault}

-- the bytes that a link has carried in each direction
pub record Traffic : Type 0 where
  pub to_server : List ℕ
  pub to_client : List ℕ

-- the same after more bytes in this direction
abbrev pub with_carried : Direction → List ℕ → Traffic → Traffic
with_carried ToServer bytes t = record t { to_server = t.to_server ++ bytes }
with_carried ToClient bytes t = record t { to_client = t.to_client ++ bytes }

-- The bytes were carried in this direction, and no others: if the link describes its bytes, they were added.
abbrev pub Carries : Direction → List ℕ → Option Traffic → Option Traffic → Type 0
Carries way bytes None after = Unit {0}
Carries way bytes (Some t) after = after ≡ Some (with_carried way bytes t)

-- Why a piece is not received: a read failed, the input ended, or no turn is left. The numbers are counts of failed
-- reads.
abbrev pub StopsReceiving : ℕ → ℕ → Option (List ℕ) → Option (List ℕ) → ℕ → Cause → Type 0
StopsReceiving failures failures' left left' turns Read = HasRisen failures failures' ⊎ TellsEnd left left'
StopsReceiving failures failures' left left' turns TooManyTurns = turns ≡ 0
StopsReceiving failures failures' left left' turns _ = ⊥

-- Why a piece is not passed along: a write failed, a read failed, the input ended, or no turn is left. The numbers are
-- counts of failed writes, and of failed reads.
abbrev pub StopsPassing : ℕ → ℕ → ℕ → ℕ → Option (List ℕ) → Option (List ℕ) → Cause → Type 0
StopsPassing writes writes' reads reads' left left' Write = HasRisen writes writes'
StopsPassing writes writes' reads reads' left left' Read = HasRisen reads reads' ⊎ TellsEnd left left'
StopsPassing writes writes' reads reads' left left' TooManyTurns = Unit {0}
StopsPassing writes writes' reads reads' left left' _ = ⊥

-- whether a carry was out of turns
abbrev pub IsOutOfTurns : Result (Unit {0}) LinkFault → Type 0
IsOutOfTurns (Ok done) = ⊥
IsOutOfTurns (Err fault) = fault.cause ≡ TooManyTurns

-- whether a cause is one that a link may have: a read or a write failed, or no more of them were allowed
abbrev pub is_of_link : Cause → Bool
is_of_link Read = true
is_of_link Write = true
is_of_link TooManyTurns = true
is_of_link _ = false
