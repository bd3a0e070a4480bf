-- The tap of a connection: how it begins, and the results that it reports.
use Rattle.std.specs.Prelude.{◌≡◌, ℕ, ◌+◌, Bool, true, List, [], Option, min}
use Rattle.resp_value.specs.Bounds.{Bounds}
use Rattle.resp_tap.specs.ClientNames.{named_after, naming_of}
use Rattle.resp_tap.specs.Lined.{SeesLined}
use Rattle.resp_tap.specs.Taken.{KeepsTaken, left_of, taken_of}
use Rattle.resp_tap.specs.Taps.{new_tap, tap_state}
use Rattle.resp_tap.specs.Watching.{HasTakenRequest, HasTakenValue}
use Rattle.resp_tap.specs.declared.connection.ConnectionTap.{ConnectionTap}
use Rattle.resp_tap.specs.declared.moment.Moment.{Moment}
use Rattle.resp_tap.specs.declared.seen.Seen.{Seen}
use Rattle.resp_tap.specs.declared.watch.Side.{Side}

-- No byte of the connection was read. The lines of its client are commands, and it has no name.
pub record IsNewConnection (limits : Bounds) (shown kept : Option ℕ) (c : ConnectionTap) : Type 0 where
  pub nothing_passed : tap_state c.tap ≡ new_tap limits shown kept
  pub nothing_requested : HasTakenRequest c.tap []
  pub nothing_answered : HasTakenValue c.tap []
  pub reads_lines : c.lines.are_read ≡ true
  pub nothing_held : c.lines.held.items ≡ []
  pub no_name : (naming_of c.name).name ≡ []
  pub no_bytes : (c.taken.sent ≡ 0) × (c.taken.received ≡ 0)

-- The first result in a piece, and whether it is that of a line. By it the connection may get a name. Its size is the
-- number of the bytes of this piece and of earlier ones that belong to it.
pub record SeesNext (now : Option Moment) (side : Side) (old new : ConnectionTap) (piece : List ℕ) (used : ℕ) (what : Seen)
    (is_line : Bool) (size : ℕ) : Type 0 where
  pub seen : SeesLined now side old.lines new.lines old.tap new.tap piece used what is_line
  pub name : naming_of new.name ≡ named_after what (naming_of old.name)
  pub bytes : size ≡ min (taken_of side old.taken + used) 18446744073709551615
  pub left : taken_of side new.taken ≡ left_of what size
  pub same_taken : KeepsTaken side old.taken new.taken
