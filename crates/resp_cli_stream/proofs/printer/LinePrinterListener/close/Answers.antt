use Rattle.std.proofs.Common.{[], ◌∷◌, arith}
use Rattle.resp_fronts.specs.Events as e
use Rattle.resp_cli_stream.proofs.Showing.{closed_deep, prints}
use Rattle.resp_cli_stream.proofs.printer.LinePrinterListener.close.Goals as goal

pub returns : goal.returns
returns g c call given had may =
    rw c.is_ok.ensures.value (prints c.close.result call _ _ c.args.self.now.lines.now c.close.new.self _ _ _ _ given (e.Close ∷ []) had may
    (closed_deep given may) (λ some. absurd (omega (arith, some))) c.close.ensures.0 c.close.ensures.1)
