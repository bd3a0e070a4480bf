use Rattle.std.proofs.Common.{rules}
use Rattle.resp_tap.proofs.LineReading.{inside_array, line_begins}
use Rattle.resp_tap.proofs.PieceLemmas.{no_bytes}
use Rattle.resp_tap.proofs.lines.Lines.have.Goals as goal

pub returns-then-is_between : goal.returns-then-is_between
returns-then-is_between c =
    line_begins c.args.self.now c.args.tap.now c.args.piece.now c.begins_line.result (search rules) (search rules)
    (no_bytes c.args.self.now.held.items (search rules)) (c.is_between.ensures.between c.if-is_between.true) c.begins_line.ensures

pub returns-else-is_between : goal.returns-else-is_between
returns-else-is_between c =
    inside_array c.args.self.now c.args.tap.now c.args.piece.now c.is_between.result c.if-is_between.false
    (no_bytes c.args.self.now.held.items (search rules)) (c.is_between.ensures.inside c.if-is_between.false)
