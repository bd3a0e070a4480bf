use Rattle.resp_proxy.specs.Proxies.{board_in}
use Rattle.resp_proxy.specs.ServerLines.{line_of}
use Rattle.resp_proxy.proofs.Readings.{none-sent}
use Rattle.resp_proxy.proofs.proxy.Proxy.send.Goals as goal

pub returns-then-not-line-clause-sends : goal.returns-then-not-line-clause-sends
returns-then-not-line-clause-sends g c =
    none-sent (line_of c.args.line.now) (g.W.Sink.written c.args.writer.now) (board_in c.args.self.now)
