use Rattle.std.proofs.Common.{refl, [], ◌∷◌}
use Rattle.resp_fronts.specs.Events as e
use Rattle.resp_scan.specs.Kinds.{text_kind_of}
use Rattle.resp_cli_stream.proofs.Showing.{level_deep, prints}
use Rattle.resp_cli_stream.proofs.printer.LinePrinterListener.text.Goals as goal

pub returns : goal.returns
returns g c call given had may =
    rw c.is_ok.ensures.value (prints c.text.result call _ _ c.args.self.now.lines.now c.text.new.self _ _ _ _ given
    (e.Text (text_kind_of c.args.kind) ∷ []) had may
    (level_deep given (e.Text (text_kind_of c.args.kind) ∷ []) (record { opens = refl; closes = refl })) (λ some. refl) c.text.ensures.0
    c.text.ensures.1)
