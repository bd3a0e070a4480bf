use Rattle.std.proofs.Common.{codes}
use Rattle.resp_cli_args.proofs.Tried.{tries_line}
use Rattle.resp_cli_args.proofs.words.refuse_connection.Goals as goal

pub returns-clause-told : goal.returns-clause-told
returns-clause-told g c = tries_line c.write_reason.result _ _ _ _ (codes "cannot connect to ") _ _ _ _ c.as_bytes.ensures.value c.as_bytes-2.ensures.value c.write_reason.ensures
