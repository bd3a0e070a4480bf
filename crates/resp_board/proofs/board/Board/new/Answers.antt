use Rattle.resp_board.specs.Histories.{nothing_happened}
use Rattle.resp_board.proofs.Running.{began}
use Rattle.resp_board.proofs.board.Board.new.Goals as goal

pub invariant_of-result : goal.invariant_of-result
invariant_of-result c = record { run = ∣ (nothing_happened, began c.new.result.slots c.new-2.result.items c.new.ensures.empty c.new-2.ensures.items) ∣₁ }
