use Rattle.std.proofs.Common.{refl}
use Rattle.resp_fronts.specs.Events as e
use Rattle.resp_value.specs.Data.{scalar}
use Rattle.resp_value.specs.Data as d
use Rattle.resp_cli_stream.proofs.Drafting.{hears_scalar}
use Rattle.resp_cli_stream.proofs.draft.DraftListener.truth.Goals as goal

pub returns : goal.returns
returns c =
    let old = c.args.self.now in
    hears_scalar old (record old { text = c.boolean-written.new.out }) c.end_value.new.self (e.Bool c.args.truth) (scalar (d.Bool c.args.truth)) c.boolean-written.result c.end_value.result
    (λ b. refl) (λ b may. may.0) refl (c.boolean-written.ensures old.version).appended c.end_value.ensures.same c.end_value.ensures.written c.end_value.ensures.counted
