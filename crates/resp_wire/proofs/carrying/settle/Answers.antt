use Rattle.resp_wire.proofs.Showing.{settles}
use Rattle.resp_wire.proofs.carrying.settle.Goals as goal

pub returns-clause-taken : goal.returns-clause-taken
returns-clause-taken c front taken = settles c.args.client.now c.feed.new.self front c.in-Ok.heard.used c.in-Ok.heard.what taken
    (c.in-Ok.ensures.heard front taken) c.in-Ok.ensures.only_replies_answer
