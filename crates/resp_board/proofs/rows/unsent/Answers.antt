use Rattle.std.proofs.Common.{ap, arith, sym}
use Rattle.std.proofs.lemmas.Grind.{common_steps}
use Rattle.std.proofs.lemmas.Option.{slice_get_past}
use Rattle.resp_board.specs.Rows.{unsent_in}
use Rattle.resp_board.proofs.rows.unsent.Goals as goal

pub returns-in-None : goal.returns-in-None
returns-in-None c = ap unsent_in (sym (slice_get_past c.args.lines.now.items c.args.line (grind (arith, common_steps))))
