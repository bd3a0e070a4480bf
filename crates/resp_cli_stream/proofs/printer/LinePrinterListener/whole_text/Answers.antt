use Rattle.resp_scan.specs.Listening.{whole_text_events}
use Rattle.resp_cli_stream.proofs.Showing.{level_deep, prints, whole_level}
use Rattle.resp_cli_stream.proofs.printer.LinePrinterListener.whole_text.Goals as goal

pub returns : goal.returns
returns g c call given had may =
    let level = whole_level c.args.kind c.args.bytes.now in
    rw c.is_ok.ensures.value (prints c.whole_text.result call _ _ c.args.self.now.lines.now c.whole_text.new.self _ _ _ _ given
    (whole_text_events c.args.kind c.args.bytes.now) had may (level_deep given (whole_text_events c.args.kind c.args.bytes.now) level)
    (λ some. level.closes) c.whole_text.ensures.0 c.whole_text.ensures.1)
