use Rattle.std.proofs.Common.{[], ◌∷◌, true}
use Rattle.resp_fronts.specs.Events as e
use Rattle.resp_scan.specs.Kinds.{text_kind_of}
use Rattle.resp_decode.proofs.Taking.{hears_events}
use Rattle.resp_decode.proofs.held.HeldPartsListener.text.Goals as goal

pub returns : goal.returns
returns c = hears_events c.args.self.now c.begin_text.new.self (e.Text (text_kind_of c.args.kind) ∷ []) true c.begin_text.ensures (λ brief. brief.0)
