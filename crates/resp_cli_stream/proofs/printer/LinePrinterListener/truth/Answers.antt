use Rattle.std.proofs.Common.{refl, [], ◌∷◌}
use Rattle.resp_fronts.specs.Events as e
use Rattle.resp_cli_stream.proofs.Showing.{level_deep, prints}
use Rattle.resp_cli_stream.proofs.printer.LinePrinterListener.truth.Goals as goal

pub returns : goal.returns
returns g c call given had may =
    rw c.is_ok.ensures.value (prints c.truth.result call _ _ c.args.self.now.lines.now c.truth.new.self _ _ _ _ given (e.Bool c.args.truth ∷ []) had may
    (level_deep given (e.Bool c.args.truth ∷ []) (record { opens = refl; closes = refl })) (λ some. refl) c.truth.ensures.0 c.truth.ensures.1)
