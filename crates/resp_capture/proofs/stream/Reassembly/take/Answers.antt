use Rattle.resp_capture.proofs.StreamLemmas.{takes_by_waiting}
use Rattle.resp_capture.proofs.stream.Reassembly.take.Goals as goal

pub returns-clause-taken : goal.returns-clause-taken
returns-clause-taken c =
    let (part, at, bytes, held) = c.in_ok-hold.ensures.held in
    takes_by_waiting c.args.self.now c.hold.new.self c.args.at c.args.bytes.now part c.hold.ensures.first c.hold.ensures.next at bytes held
