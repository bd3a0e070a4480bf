use Rattle.std.proofs.Common.{arith}
use Rattle.resp_board.proofs.Running.{begun-within}
use Rattle.resp_board.proofs.rows.pop.Goals as goal

pub returns-in_default-clause-answered : goal.returns-in_default-clause-answered
returns-in_default-clause-answered c = let there = begun-within c.args.lines.now.items c.args.line c.requires in absurd (grind arith)

pub returns-in_default-clause-fewer : goal.returns-in_default-clause-fewer
returns-in_default-clause-fewer c = let there = begun-within c.args.lines.now.items c.args.line c.requires in absurd (grind arith)
