-- Sinks that hold bytes until they are flushed, and sources that record what was sent before each read.
use Rattle.std.specs.Prelude.{◌≡◌, ℕ, Bool, true, false, List, [], ◌∷◌, ◌++◌, Option, None, Some, Result, Ok, Err}
use Rattle.resp_io.specs.declared.device.DeviceFault.{DeviceFault}

-- the state at a read: the remaining input, and the bytes that a sink has sent
pub record Look : Type 0 where
  pub left : Option (List ℕ)
  pub sent : Option (List ℕ)

-- one more read was recorded, if the source keeps a record
abbrev pub Records : Option (List Look) → Option (List Look) → Look → Type 0
Records None after look = Unit {0}
Records (Some looks) after look = after ≡ Some (looks ++ look ∷ [])

-- whether a flush failed
abbrev pub flush_fails : Result (Unit {0}) DeviceFault → Bool
flush_fails (Ok x) = false
flush_fails (Err fault) = true

-- the bytes written to a device, followed by the bytes that wait to be written
abbrev pub joined : Option (List ℕ) → List ℕ → Option (List ℕ)
joined None waits = None
joined (Some held) waits = Some (held ++ waits)

-- a sink that collects bytes for another
pub record GatheringState (W : Type 0) : Type 0 where
  -- the other sink
  pub inner : W
  -- the collected bytes that were not sent
  pub waits : List ℕ
  -- the number of writes
  pub calls : ℕ
