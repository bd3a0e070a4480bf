use Rattle.resp_c.proofs.Runs.{calls_read}
use Rattle.resp_c.proofs.laws.calls_read_as_a_client.Goals as goal

pub returns : goal.returns
returns c = calls_read
