use Rattle.resp_scan.specs.Listening.{whole_text_events}
use Rattle.resp_decode.proofs.Taking.{hears_events}
use Rattle.resp_decode.proofs.held.HeldPartsListener.whole_text.Goals as goal

pub returns : goal.returns
returns c = hears_events c.args.self.now c.take_text.new.self (whole_text_events c.args.kind c.args.bytes.now) c.take_text.result c.take_text.ensures
    (λ brief. brief.0)
