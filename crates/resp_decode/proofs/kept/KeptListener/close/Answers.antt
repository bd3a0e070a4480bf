use Rattle.resp_fronts.specs.Events as e
use Rattle.resp_decode.proofs.Keeps.{kept_hears_event}
use Rattle.resp_decode.proofs.kept.KeptListener.close.Goals as goal

pub returns : goal.returns
returns c =
    kept_hears_event c.args.self.now c.close_group.new.self e.Close c.close_group.result tt c.close_group.ensures (λ b may. may.0.0) (λ brief. brief.0)
