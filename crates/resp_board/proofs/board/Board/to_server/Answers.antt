use Rattle.std.proofs.Common.{◌++◌, ◌∙◌, ap, slice_get}
use Rattle.resp_board.specs.Histories.{board_of}
use Rattle.resp_board.proofs.Running.{in-order}
use Rattle.resp_board.proofs.board.Board.to_server.Goals as goal

pub returns-clause-in_order : goal.returns-clause-in_order
returns-clause-in_order c h j =
    let i = c.args.self.now in
    let b = board_of h in
    let line = c.args.line.place in
    ap (λ text. h.sent line ++ text) c.unsent.ensures ∙
    in-order (slice_get i.lines.items line) b.entries (b.waiting line) (b.commands line) (h.sent line) (j.carried line)
