use Rattle.std.proofs.Common.{inl, refl}
use Rattle.resp_scan.specs.Kinds.{rules_of}
use Rattle.resp_cli_stream.proofs.Scanned.{ends_between}
use Rattle.resp_cli_stream.proofs.Showing.{shown_between, shown_end_part, shown_truncated}
use Rattle.resp_print.proofs.WrittenLemmas.{Appends-none}
use Rattle.resp_cli_stream.proofs.show.ShowLinesRendering.finish.Goals as goal

pub returns-in-Ok-clause-ends : goal.returns-in-Ok-clause-ends
returns-in-Ok-clause-ends g c = λ front so_far w.
    let none = ends_between (rules_of c.args.self.now.scanner) front w.scanned.no_value ((c.in-Ok.ensures.may_end front w.given w.scanned.reads).0 refl) in
    (none, shown_between c.args.self.now.scanner c.args.self.now.lines front so_far none w, Appends-none (g.W.Sink.written c.args.writer.now))

pub returns-in-Ok-end_line-clause-ends : goal.returns-in-Ok-end_line-clause-ends
returns-in-Ok-end_line-clause-ends g c = λ front so_far w.
    let truncated = c.in-Err.ensures.truncated_inside_a_value front w.given w.scanned.reads in
    shown_truncated (rules_of c.args.self.now.scanner) c.args.self.now.scanner c.args.self.now.lines front so_far (g.W.Sink.written c.args.writer.now)
    (g.W.Sink.written c.end_line.new.writer) c.in-Err.fault.cause c.in-Err.fault.at (c.taken-viable.ensures.viable front w.given w.scanned.reads)
    truncated.0 truncated.1 (λ none. let wrong = (c.in-Err.ensures.may_end front w.given w.scanned.reads).1 (inl none) in absurd (cc)) w
    c.in-Ok-end_line.ensures.0

pub returns-in-Err-end_line-clause-ends : goal.returns-in-Err-end_line-clause-ends
returns-in-Err-end_line-clause-ends g c = λ front so_far w.
    shown_end_part (rules_of c.args.self.now.scanner) c.args.self.now.scanner c.args.self.now.lines front so_far (g.W.Sink.written c.args.writer.now)
    (g.W.Sink.written c.end_line.new.writer) (c.taken-viable.ensures.viable front w.given w.scanned.reads) w c.in-Err-end_line.ensures.0
