use Rattle.resp_scan.specs.Kinds.{content_events}
use Rattle.resp_decode.proofs.Taking.{hears_events, content_wants_memory}
use Rattle.resp_decode.proofs.held.HeldPartsListener.part.Goals as goal

pub returns : goal.returns
returns c = hears_events c.args.self.now c.extend_text.new.self (content_events c.args.part.now) c.extend_text.result c.extend_text.ensures
    (content_wants_memory c.args.part.now c.requires)
