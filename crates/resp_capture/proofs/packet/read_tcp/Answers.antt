use Rattle.resp_capture.proofs.HeaderLemmas.{no_tcp, six_one}
use Rattle.resp_capture.proofs.packet.read_tcp.Goals as goal

pub returns-in_default-read_six-clause-none : goal.returns-in_default-read_six-clause-none
returns-in_default-read_six-clause-none c = no_tcp c.args.packet.now c.in_default.ensures.none
    (λ bytes carries. c.in_default-read_six.ensures.none 6 bytes carries)

pub returns-then-protocol-ne-TCP-clause-none : goal.returns-then-protocol-ne-TCP-clause-none
returns-then-protocol-ne-TCP-clause-none c = no_tcp c.args.packet.now c.in_default.ensures.none
    (λ bytes carries. c.if-protocol-ne-TCP.true (six_one c.args.packet.now _ _ _ _ c.in-Some-read_six.ensures.some carries).0)
