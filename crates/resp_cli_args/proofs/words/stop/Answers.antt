use Rattle.resp_cli_args.proofs.Tried.{tries_text}
use Rattle.resp_cli_args.proofs.words.stop.Goals as goal

pub returns-clause-told : goal.returns-clause-told
returns-clause-told g c = tries_text c.line.result _ _ _ _ _ c.line.ensures
