use Rattle.resp_proxy.proofs.Gives.{some-sent}
use Rattle.resp_proxy.proofs.Readings.{none-sent}
use Rattle.resp_proxy.proofs.giving.send.Goals as goal

pub returns-clause-sends : goal.returns-clause-sends
returns-clause-sends g c =
    some-sent c.args.line.place (g.W.Sink.written c.args.writer.now) (g.W.Sink.written c.write.new.self) c.to_server-bytes.result.now c.in-Ok.count c.args.board.now
    c.sent.new.self c.to_server-bytes.ensures.waiting c.in-Ok.ensures.bytes c.sent.ensures.run

pub returns-then-is_empty-clause-sends : goal.returns-then-is_empty-clause-sends
returns-then-is_empty-clause-sends g c = none-sent c.args.line.place (g.W.Sink.written c.args.writer.now) c.args.board.now
