use Rattle.std.proofs.Common.{◌-◌, ◌≤◌, take}
use Rattle.resp_board.specs.Runs.{clients_on}
use Rattle.resp_proxy.specs.Telling.{Covers, NotesSome}
use Rattle.resp_proxy.proofs.told.note_first.Given as goal

abbrev pub invariant-loop-before : goal.invariant-loop-before
invariant-loop-before l =
    NotesSome (clients_on l.board l.line.place) l.initial.queued.items l.queued.items ×
    Covers (take l.before (clients_on l.board l.line.place)) l.queued.items × (l.before ≤ l.count)

abbrev pub decreases-loop-before : goal.decreases-loop-before
decreases-loop-before l = l.count - l.before
