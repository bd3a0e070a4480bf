use Rattle.resp_capture.proofs.HeaderLemmas.{fragment_iff}
use Rattle.resp_capture.proofs.network.is_fragment_six.Goals as goal

pub returns : goal.returns
returns c = fragment_iff c.args.packet.now _ _ c.in-Some.ensures.some

pub returns-in_default : goal.returns-in_default
returns-in_default c = (λ is. cc, λ fragment. absurd (c.in_default.ensures.none 44 fragment.0 fragment.1))
