use Rattle.std.proofs.Common.{[], ◌∷◌}
use Rattle.resp_fronts.specs.Events as e
use Rattle.resp_decode.proofs.Taking.{hears_events}
use Rattle.resp_decode.proofs.held.HeldPartsListener.close.Goals as goal

pub returns : goal.returns
returns c = hears_events c.args.self.now c.close_group.new.self (e.Close ∷ []) c.close_group.result c.close_group.ensures (λ brief. brief.0)
