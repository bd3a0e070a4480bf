use Rattle.std.proofs.Common.{[], ◌∷◌}
use Rattle.resp_fronts.specs.Events as e
use Rattle.resp_value.specs.Kinds.{kind_of}
use Rattle.resp_decode.proofs.Taking.{hears_events}
use Rattle.resp_decode.proofs.held.HeldPartsListener.open.Goals as goal

pub returns : goal.returns
returns c = hears_events c.args.self.now c.open_group.new.self (e.Open (kind_of c.args.kind) c.args.count ∷ []) c.open_group.result c.open_group.ensures
    (λ brief. brief.0)
