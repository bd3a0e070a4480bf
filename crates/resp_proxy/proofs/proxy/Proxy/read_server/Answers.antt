use Rattle.std.proofs.Common.{arith, length-take, take}
use Rattle.std.proofs.lemmas.Grind.{common_steps}
use Rattle.resp_proxy.specs.Proxies.{board_in}
use Rattle.resp_proxy.specs.ServerLines.{line_of, reply_rules_of, server_begun}
use Rattle.resp_proxy.proofs.Readings.{no-reply-came, read-bytes, read-nothing}
use Rattle.resp_proxy.proofs.proxy.Proxy.read_server.Goals as goal

pub returns-in-Ok-clause-reads : goal.returns-in-Ok-clause-reads
returns-in-Ok-clause-reads g c front h = record {
  came = take c.in-Ok.count c.read.new.into;
  come = read-bytes (g.R.Source.remaining c.args.reader.now) (g.R.Source.remaining c.read.new.self) c.read.new.into c.in-Ok.count c.in-Ok.ensures.bytes;
  counted = grind (arith, common_steps, length-take);
  takes = c.from_server.ensures.taken front h;
}

pub returns-in-Err-clause-reads : goal.returns-in-Err-clause-reads
returns-in-Err-clause-reads g c front h =
    let left = g.R.Source.remaining c.args.reader.now in
    let left' = g.R.Source.remaining c.read.new.self in
    no-reply-came (reply_rules_of c.args.line.now) (line_of c.args.line.now) left left' front (server_begun c.args.line.now) (board_in c.args.self.now)
    (read-nothing left left' c.read.new.into c.in-Err.field-0 c.in-Err.ensures.bytes) h
