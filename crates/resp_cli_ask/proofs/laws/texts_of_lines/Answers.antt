use Rattle.resp_cli_ask.proofs.Lining.{told}
use Rattle.resp_cli_ask.proofs.laws.texts_of_lines.Goals as goal

pub returns : goal.returns
returns c = told
