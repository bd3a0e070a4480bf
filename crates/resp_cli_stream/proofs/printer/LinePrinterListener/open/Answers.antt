use Rattle.std.proofs.Common.{refl, [], ◌∷◌}
use Rattle.resp_fronts.specs.Events as e
use Rattle.resp_value.specs.Kinds.{kind_of}
use Rattle.resp_cli_stream.proofs.Showing.{opened_deep, prints}
use Rattle.resp_cli_stream.proofs.printer.LinePrinterListener.open.Goals as goal

pub returns : goal.returns
returns g c call given had may =
    rw c.is_ok.ensures.value (prints c.open.result call _ _ c.args.self.now.lines.now c.open.new.self _ _ _ _ given
    (e.Open (kind_of c.args.kind) c.args.count ∷ []) had may
    (opened_deep given (kind_of c.args.kind) c.args.count) (λ some. refl) c.open.ensures.0 c.open.ensures.1)
