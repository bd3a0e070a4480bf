use Rattle.resp_proxy.proofs.Takings.{array-taken}
use Rattle.resp_proxy.specs.Unfinished.{terms_of}
use Rattle.resp_proxy.proofs.commands.take_one.Goals as goal

pub returns-else-is_line-clause-taken : goal.returns-else-is_line-clause-taken
returns-else-is_line-clause-taken c ready front begun =
    let terms = terms_of c.args.intake.now in
    let array = c.is_line.ensures.array terms.rules front begun c.if-is_line.false in
    array-taken terms c.args.route front c.args.piece.now (record c.args.unfinished.now { begun = c.take_array.new.begun }) c.take_array.result c.args.board.now
    c.take_array.new.board array.no_line (c.take_array.ensures.taken ready front array.begun)
