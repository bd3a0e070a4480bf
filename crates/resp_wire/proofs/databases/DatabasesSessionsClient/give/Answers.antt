use Rattle.std.proofs.Common.{take}
use Rattle.resp_wire.proofs.DatabasesVisits.{client_lacks, client_takes}
use Rattle.resp_wire.proofs.databases.DatabasesSessionsClient.give.Goals as goal

pub returns-in-Ok-clause-served : goal.returns-in-Ok-clause-served
returns-in-Ok-clause-served g c =
    client_takes c.args.held c.args.self.now c.take.new.self c.args.client.now c.take.new.client (take c.in-Ok.used c.args.piece.now) c.requires.is_open
    c.take.ensures.same_server c.in-Ok.ensures.taken

pub returns-in-Err-clause-cut_short : goal.returns-in-Err-clause-cut_short
returns-in-Err-clause-cut_short g c =
    client_lacks c.args.held c.args.self.now c.take.new.self c.args.client.now c.take.new.client c.args.piece.now c.requires.is_open
    c.take.ensures.same_server c.in-Err.ensures.failed
