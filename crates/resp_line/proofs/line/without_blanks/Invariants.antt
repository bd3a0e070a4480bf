use Rattle.std.proofs.Common.{length}
use Rattle.resp_line.specs.Lines.{FollowsBlanks}
use Rattle.resp_line.proofs.line.without_blanks.Given as goal

abbrev pub invariant-loop-byte : goal.invariant-loop-byte
invariant-loop-byte l = record { follows : FollowsBlanks l.text l.rest }

abbrev pub decreases-loop-byte : goal.decreases-loop-byte
decreases-loop-byte l = length l.rest
