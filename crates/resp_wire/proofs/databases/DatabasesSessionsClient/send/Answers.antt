use Rattle.resp_wire.proofs.DatabasesVisits.{client_writes}
use Rattle.resp_wire.proofs.databases.DatabasesSessionsClient.send.Goals as goal

pub returns-in-Ok-clause-sent : goal.returns-in-Ok-clause-sent
returns-in-Ok-clause-sent g c =
    let w = c.write_text-written in
    client_writes c.args.self.now c.args.client.now c.sent.new.self (g.W.Sink.written c.args.writer.now) (g.W.Sink.written w.new.writer) c.out.result.now
    w.result.count c.out.ensures w.ensures.appended c.sent.ensures.sent c.sent.ensures.same_standing c.sent.ensures.same_begun

pub returns-in-Err-clause-sent : goal.returns-in-Err-clause-sent
returns-in-Err-clause-sent g c =
    let w = c.write_text-written in
    client_writes c.args.self.now c.args.client.now c.sent.new.self (g.W.Sink.written c.args.writer.now) (g.W.Sink.written w.new.writer) c.out.result.now
    w.result.count c.out.ensures w.ensures.appended c.sent.ensures.sent c.sent.ensures.same_standing c.sent.ensures.same_begun
