-- The bytes of an incomplete command and of an incomplete value.
use Rattle.std.specs.Prelude.{◌≡◌, ℕ}
use Rattle.resp_tap.specs.declared.seen.Seen.{Seen}
use Rattle.resp_tap.specs.declared.seen.Seen.TheVariants as seen
use Rattle.resp_tap.specs.declared.taken.Taken.{Taken}
use Rattle.resp_tap.specs.declared.watch.Side.{Side}
use Rattle.resp_tap.specs.declared.watch.Side.TheVariants.{Client, Server}

-- the bytes that were read of a side's incomplete command or value
abbrev pub taken_of : Side → Taken → ℕ
taken_of Client t = t.sent
taken_of Server t = t.received

-- the bytes of an incomplete command or value after a result for this many bytes
abbrev pub left_of : Seen → ℕ → ℕ
left_of seen.Nothing bytes = bytes
left_of what bytes = 0

-- the bytes that were read of the other side's incomplete command or value stay the same
abbrev pub KeepsTaken : Side → Taken → Taken → Type 0
KeepsTaken Client old new = new.received ≡ old.received
KeepsTaken Server old new = new.sent ≡ old.sent
