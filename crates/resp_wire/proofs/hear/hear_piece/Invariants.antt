use Rattle.std.proofs.Common.{length}
use Rattle.resp_client.specs.Clients.{state_of}
use Rattle.resp_client.specs.Hearing.{WhereTaken}
use Rattle.resp_wire.proofs.Listening.{HearsUpTo}
use Rattle.resp_wire.proofs.hear.hear_piece.Given as goal

abbrev pub invariant-loop-rest : goal.invariant-loop-rest
invariant-loop-rest l = WhereTaken l.fn.client (λ front. HearsUpTo (state_of l.fn.client) l.client l.fn.heard l.heard front l.fn.piece l.rest)

abbrev pub decreases-loop-rest : goal.decreases-loop-rest
decreases-loop-rest l = length l.rest
