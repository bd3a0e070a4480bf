use Rattle.std.proofs.Common.{refl, [], ◌∷◌}
use Rattle.resp_fronts.specs.Events as e
use Rattle.resp_cli_stream.proofs.Showing.{level_deep, prints}
use Rattle.resp_cli_stream.proofs.printer.LinePrinterListener.null.Goals as goal

pub returns : goal.returns
returns g c call given had may =
    rw c.is_ok.ensures.value (prints c.null.result call _ _ c.args.self.now.lines.now c.null.new.self _ _ _ _ given (e.Null ∷ []) had may
    (level_deep given (e.Null ∷ []) (record { opens = refl; closes = refl })) (λ some. refl) c.null.ensures.0 c.null.ensures.1)
