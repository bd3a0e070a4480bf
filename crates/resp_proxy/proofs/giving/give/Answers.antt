use Rattle.resp_proxy.proofs.Gives.{appends-none, none-given, some-given}
use Rattle.resp_proxy.proofs.giving.give.Goals as goal

pub returns-in_default-clause-gives : goal.returns-in_default-clause-gives
returns-in_default-clause-gives g c =
    let out = g.W.Sink.written c.args.writer.now in
    none-given c.to_client.result out out c.args.who c.args.board.now c.to_client.ensures.waiting c.to_client.ensures.due (appends-none out)

pub returns-then-is_empty-clause-gives : goal.returns-then-is_empty-clause-gives
returns-then-is_empty-clause-gives g c =
    let out = g.W.Sink.written c.args.writer.now in
    none-given c.to_client.result out out c.args.who c.args.board.now c.to_client.ensures.waiting c.to_client.ensures.due (appends-none out)

pub returns-clause-gives : goal.returns-clause-gives
returns-clause-gives g c =
    some-given (g.W.Sink.written c.args.writer.now) (g.W.Sink.written c.write.new.self) c.args.who c.in-Some.text.now c.in-Ok.count c.args.board.now
    c.given.new.self c.in-Some.ensures.waiting c.in-Some.ensures.due c.in-Ok.ensures.bytes c.given.ensures.run
