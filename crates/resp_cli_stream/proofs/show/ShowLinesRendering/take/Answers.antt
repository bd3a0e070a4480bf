use Rattle.std.proofs.Common.{rules, ◌≡◌, List, ℕ, subst, ◌∙◌}
use Rattle.resp_io.specs.Devices.{count_after}
use Rattle.resp_scan.specs.Kinds.{rules_of}
use Rattle.resp_scan.specs.Listening.{HearsRefusal, StopsAfter}
use Rattle.resp_scan.specs.declared.event.ScanError.TheVariants as stop
use Rattle.resp_cli_stream.specs.Printing.{HasBroken, HasPrinted}
use Rattle.resp_cli_stream.specs.Scans.{HasShown}
use Rattle.resp_cli_stream.proofs.Showing.{none_failed, printed_before, shows_broken, shows_end_part, shows_on, shows_refused}
use Rattle.resp_cli_stream.proofs.show.ShowLinesRendering.take.Given.{Over}
use Rattle.resp_cli_stream.proofs.show.ShowLinesRendering.take.Goals as goal
use Rattle.resp_cli_stream.proofs.show.ShowLinesRendering.take.Goals.{In-Err-Fault, In-Err-Stopped}

-- a refused byte, after what was printed
refused : (g : Over) (c : In-Err-Fault g) (front so_far : List ℕ) → HasShown c.args.self.now.scanner c.args.self.now.lines front so_far →
    HearsRefusal (rules_of c.args.self.now.scanner) (HasPrinted (record {
      held = g.W.Sink.written c.args.writer.now;
      failures = g.W.Sink.failures c.args.writer.now;
      so_far = so_far;
    }) c.print_piece.new.lines (g.W.Sink.written c.print_piece.new.writer) (g.W.Sink.failures c.print_piece.new.writer)) front c.args.piece.now
    c.in-Err-Fault.fault
refused g c front so_far h =
    let is : c.in-Err-Fault.field-0 ≡ stop.Fault c.in-Err-Fault.fault = search rules in
    rw is at (c.in-Err-Fault.ensures.printed _ front h.given h.scanned.reads
    (printed_before (g.W.Sink.written c.args.writer.now) (g.W.Sink.failures c.args.writer.now) h))

-- a failed write, after a part of what was to be printed
broken : (g : Over) (c : In-Err-Stopped g) (front so_far : List ℕ) → HasShown c.args.self.now.scanner c.args.self.now.lines front so_far →
    StopsAfter (rules_of c.args.self.now.scanner) (HasBroken (record {
      held = g.W.Sink.written c.args.writer.now;
      failures = g.W.Sink.failures c.args.writer.now;
      so_far = so_far;
    }) (g.W.Sink.written c.print_piece.new.writer) (g.W.Sink.failures c.print_piece.new.writer)) front c.args.piece.now c.in-Err-Stopped.field-0-0
broken g c front so_far h =
    let is : c.in-Err-Stopped.field-0 ≡ stop.Stopped c.in-Err-Stopped.field-0-0 = search rules in
    rw is at (c.in-Err-Stopped.ensures.printed _ front h.given h.scanned.reads
    (printed_before (g.W.Sink.written c.args.writer.now) (g.W.Sink.failures c.args.writer.now) h))

pub returns-in-Ok-clause-takes : goal.returns-in-Ok-clause-takes
returns-in-Ok-clause-takes g c = λ front so_far h.
    let before = printed_before (g.W.Sink.written c.args.writer.now) (g.W.Sink.failures c.args.writer.now) h in
    shows_on (rules_of c.args.self.now.scanner) _ front c.args.piece.now (g.W.Sink.written c.print_piece.new.writer)
    (g.W.Sink.failures c.print_piece.new.writer) c.print_piece.new.scanner c.print_piece.new.lines c.in-Ok.scanned h.scanned.no_value
    c.in-Ok.ensures.same_rules (c.in-Ok.ensures.printed _ front h.given h.scanned.reads before) c.in-Ok.ensures.whole_piece

pub returns-in-Ok-clause-write_failures : goal.returns-in-Ok-clause-write_failures
returns-in-Ok-clause-write_failures g c =
    let (front, so_far, h) = c.requires in
    let before = printed_before (g.W.Sink.written c.args.writer.now) (g.W.Sink.failures c.args.writer.now) h in
    none_failed (rules_of c.args.self.now.scanner) _ front c.args.piece.now (g.W.Sink.written c.print_piece.new.writer)
    (g.W.Sink.failures c.print_piece.new.writer) c.print_piece.new.scanner c.print_piece.new.lines c.in-Ok.scanned
    (c.in-Ok.ensures.printed _ front h.given h.scanned.reads before)

pub returns-in-Ok-end_line-clause-takes : goal.returns-in-Ok-end_line-clause-takes
returns-in-Ok-end_line-clause-takes g c = λ front so_far h.
    shows_refused (refused g (goal.at.returns-in-Ok-end_line-clause-takes g c).In-Err-Fault front so_far h) c.in-Ok-end_line.ensures.0

pub returns-in-Ok-end_line-clause-write_failures : goal.returns-in-Ok-end_line-clause-write_failures
returns-in-Ok-end_line-clause-write_failures g c =
    let (front, so_far, h) = c.requires in
    let r = refused g (goal.at.returns-in-Ok-end_line-clause-write_failures g c).In-Err-Fault front so_far h in
    c.in-Ok-end_line.ensures.1 ∙ r.has_heard.none_failed

pub returns-in-Err-clause-takes : goal.returns-in-Err-clause-takes
returns-in-Err-clause-takes g c = λ front so_far h.
    shows_end_part (refused g (goal.at.returns-in-Err-clause-takes g c).In-Err-Fault front so_far h) c.in-Err.ensures.0

pub returns-in-Err-clause-write_failures : goal.returns-in-Err-clause-write_failures
returns-in-Err-clause-write_failures g c =
    let (front, so_far, h) = c.requires in
    let r = refused g (goal.at.returns-in-Err-clause-write_failures g c).In-Err-Fault front so_far h in
    subst (λ n. g.W.Sink.failures c.end_line.new.writer ≡ count_after 1 n) r.has_heard.none_failed c.in-Err.ensures.1

pub returns-in-Err-Stopped-clause-takes : goal.returns-in-Err-Stopped-clause-takes
returns-in-Err-Stopped-clause-takes g c = λ front so_far h.
    shows_broken (broken g (goal.at.returns-in-Err-Stopped-clause-takes g c).In-Err-Stopped front so_far h)

pub returns-in-Err-Stopped-clause-write_failures : goal.returns-in-Err-Stopped-clause-write_failures
returns-in-Err-Stopped-clause-write_failures g c =
    let (front, so_far, h) = c.requires in
    let b = broken g (goal.at.returns-in-Err-Stopped-clause-write_failures g c).In-Err-Stopped front so_far h in
    b.has_stopped.failed
