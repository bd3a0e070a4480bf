use Rattle.std.proofs.Common.{refl}
use Rattle.resp_scan.specs.Kinds.{rules_of}
use Rattle.resp_cli_stream.specs.Printing.{Call}
use Rattle.resp_cli_stream.proofs.Showing.{left_broken, left_printed, scans_to}
use Rattle.resp_cli_stream.proofs.printer.print_piece.Goals as goal

pub returns-clause-printed : goal.returns-clause-printed
returns-clause-printed g c since front given w had =
    let call : Call = record { lines_name = c.printer-1.given; writer_name = c.printer-2-1.given; start = since } in
    scans_to _ _ _ _ (rules_of c.args.scanner.now) c.scan.new.self front c.args.piece.now c.scan.result
    (left_printed g.W.Sink.written g.W.Sink.failures call _ _ _ _ _ _ c.lines-1.given.1 c.writer-1.given.1)
    (left_broken g.W.Sink.written g.W.Sink.failures call _ _ _ _ c.writer-1.given.1)
    (c.scan.ensures.value_whole call front given w (record { lines = refl; writer = refl }, had))
    (c.scan.ensures.used_up call front given w (record { lines = refl; writer = refl }, had))
    (c.scan.ensures.refusal call front given w (record { lines = refl; writer = refl }, had))
    (c.scan.ensures.stopped call front given w (record { lines = refl; writer = refl }, had))
