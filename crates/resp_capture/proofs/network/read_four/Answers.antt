use Rattle.std.proofs.Common.{rules}
use Rattle.resp_capture.proofs.HeaderLemmas.{from_head}
use Rattle.resp_capture.specs.Headers.{end_four, head_four}
use Rattle.resp_capture.proofs.network.read_four.Goals as goal

pub returns-clause-some : goal.returns-clause-some
returns-clause-some c =
    let head = c.in_ok-head.ensures.some in
    let end = c.end_four.ensures.end in
    record {
      four = head.1;
      whole = search rules;
      protocol = search rules;
      from_is = search rules;
      to_is = search rules;
      bytes_are = rw (head.0, end) (from_head c.args.packet.now (head_four c.args.packet.now) (end_four c.args.packet.now) head.1.whole);
    }
