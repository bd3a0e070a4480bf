use Rattle.std.proofs.Common.{refl, [], ◌∷◌}
use Rattle.resp_fronts.specs.Events as e
use Rattle.resp_cli_stream.proofs.Showing.{level_deep, prints}
use Rattle.resp_cli_stream.proofs.printer.LinePrinterListener.text_end.Goals as goal

pub returns : goal.returns
returns g c call given had may =
    rw c.is_ok.ensures.value (prints c.text_end.result call _ _ c.args.self.now.lines.now c.text_end.new.self _ _ _ _ given (e.TextEnd ∷ []) had may
    (level_deep given (e.TextEnd ∷ []) (record { opens = refl; closes = refl })) (λ some. refl) c.text_end.ensures.0 c.text_end.ensures.1)
