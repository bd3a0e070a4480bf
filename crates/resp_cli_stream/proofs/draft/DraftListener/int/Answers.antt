use mir.Syntax.{w64}
use mir.Val.{of_z, to_z}
use Rattle.std.proofs.Common.{rules, ◌≡◌, refl}
use Rattle.resp_fronts.specs.Events as e
use Rattle.resp_value.specs.Data.{scalar}
use Rattle.resp_value.specs.Data as d
use Rattle.resp_cli_stream.proofs.Drafting.{hears_scalar}
use Rattle.resp_cli_stream.proofs.draft.DraftListener.int.Goals as goal

pub returns : goal.returns
returns c =
    let old = c.args.self.now in
    let number : to_z w64 (of_z w64 c.args.number) ≡ c.args.number = search rules in
    hears_scalar old (record old { text = c.int-written.new.out }) c.end_value.new.self (e.Int c.args.number) (scalar (d.Int c.args.number))
    c.int-written.result c.end_value.result (λ b. refl) (λ b may. may.0) refl (rw number at (c.int-written.ensures old.version).appended)
    c.end_value.ensures.same c.end_value.ensures.written c.end_value.ensures.counted
