-- Clients whose commands go to another line from now on.
use Rattle.std.proofs.Common.{ℕ, List}
use Rattle.resp_board.specs.Boards.{Own}
use Rattle.resp_board.specs.Runs.{KeepsOpen, Runs}
use Rattle.resp_board.specs.declared.board.Board.{Board}
use Rattle.resp_board.specs.declared.ticket.ClientId.{ClientId}
use Rattle.resp_proxy.proofs.Others.{own-others}
use Rattle.resp_proxy.specs.Moving.{IsGivenReply}

-- a client that was given an answer of the proxy's own
pub is-given-reply : (old new : Board) (who : ClientId) (answer : List ℕ) → Runs (Own who answer) old new → KeepsOpen old new →
    IsGivenReply old new who answer
is-given-reply old new who answer owed clients = record {
  run = owed;
  others = λ p passed other differs. own-others who other answer old new p differs clients passed (owed p passed);
}
