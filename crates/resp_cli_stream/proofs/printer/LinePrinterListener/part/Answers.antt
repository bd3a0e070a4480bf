use Rattle.resp_scan.specs.Kinds.{content_events}
use Rattle.resp_cli_stream.proofs.Showing.{content_level, level_deep, prints}
use Rattle.resp_cli_stream.proofs.printer.LinePrinterListener.part.Goals as goal

pub returns : goal.returns
returns g c call given had may =
    rw c.is_ok.ensures.value (prints c.part.result call _ _ c.args.self.now.lines.now c.part.new.self _ _ _ _ given (content_events c.args.part.now) had may
    (level_deep given (content_events c.args.part.now) (content_level c.args.part.now)) (λ some. (content_level c.args.part.now).closes) c.part.ensures.0
    c.part.ensures.1)
