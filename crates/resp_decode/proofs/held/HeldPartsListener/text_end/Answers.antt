use Rattle.std.proofs.Common.{[], ◌∷◌}
use Rattle.resp_fronts.specs.Events as e
use Rattle.resp_decode.proofs.Taking.{hears_events}
use Rattle.resp_decode.proofs.held.HeldPartsListener.text_end.Goals as goal

pub returns : goal.returns
returns c = hears_events c.args.self.now c.end_text.new.self (e.TextEnd ∷ []) c.end_text.result c.end_text.ensures (λ brief. brief.0)
