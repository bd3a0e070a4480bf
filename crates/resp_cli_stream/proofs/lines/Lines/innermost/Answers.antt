use Rattle.std.proofs.Common.{arith}
use Rattle.std.proofs.lemmas.Grind.{common_steps}
use Rattle.resp_cli_stream.proofs.lines.Lines.innermost.Goals as goal

pub returns : goal.returns
returns c = grind (arith, common_steps)
