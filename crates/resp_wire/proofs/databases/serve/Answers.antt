use Rattle.resp_wire.proofs.DatabasesVisits.{same_visit}
use Rattle.resp_wire.proofs.databases.serve.Goals as goal

pub returns-clause-same_server : goal.returns-clause-same_server
returns-clause-same_server g c =
    let v = c.serve_client in
    same_visit c.args.databases.now v.new.sessions c.args.client.now v.new.client v.result.end v.ensures.served.given v.ensures.served.text
    v.ensures.served.served
