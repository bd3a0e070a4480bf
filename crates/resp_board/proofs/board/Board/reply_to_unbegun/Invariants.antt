use Rattle.std.proofs.Common.{◌≡◌, length}
use Rattle.resp_board.specs.Runs.{HasAnswered, HasFailedSome, KeepsOpen, begun_on, waiting_on}
use Rattle.resp_board.proofs.board.Board.reply_to_unbegun.Given as goal

abbrev pub invariant-loop-line : goal.invariant-loop-line
invariant-loop-line l =
    HasFailedSome l.initial.line.place l.initial.text l.initial.self l.self × (begun_on l.self l.initial.line.place ≡ 0) × KeepsOpen l.initial.self l.self ×
    HasAnswered l.initial.line.place (length (waiting_on l.initial.self l.initial.line.place)) l.initial.self l.self

abbrev pub decreases-loop-line : goal.decreases-loop-line
decreases-loop-line l = length (waiting_on l.self l.initial.line.place)
