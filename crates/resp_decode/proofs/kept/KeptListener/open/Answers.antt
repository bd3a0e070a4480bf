use Rattle.resp_fronts.specs.Events as e
use Rattle.resp_value.specs.Kinds.{kind_of}
use Rattle.resp_decode.proofs.Keeps.{kept_hears_event}
use Rattle.resp_decode.proofs.kept.KeptListener.open.Goals as goal

pub returns : goal.returns
returns c =
    kept_hears_event c.args.self.now c.open_group.new.self (e.Open (kind_of c.args.kind) c.args.count) c.open_group.result tt c.open_group.ensures
    (λ b may. may.0) (λ brief. brief.0)
