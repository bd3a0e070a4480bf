use Rattle.resp_board.specs.Runs.{HasAnsweredSome, KeepsOpen, begun_on}
use Rattle.resp_board.proofs.Answered.{Begun}
use Rattle.resp_board.proofs.board.Board.reply_to_begun.Given as goal

abbrev pub invariant-loop-line : goal.invariant-loop-line
invariant-loop-line l =
    HasAnsweredSome l.initial.line.place l.initial.text l.initial.self l.self × KeepsOpen l.initial.self l.self ×
    Begun l.initial.line.place l.initial.self l.self

abbrev pub decreases-loop-line : goal.decreases-loop-line
decreases-loop-line l = begun_on l.self l.initial.line.place
