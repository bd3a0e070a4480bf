use Rattle.resp_scan.specs.Kinds.{rules_of}
use Rattle.resp_cli_stream.proofs.Scanned.{no_spelling_without_value}
use Rattle.resp_cli_stream.proofs.Showing.{shown_stands}
use Rattle.resp_cli_stream.proofs.show.ShowLinesRendering.part_stands.Goals as goal

pub returns-clause-begun : goal.returns-clause-begun
returns-clause-begun c = λ front so_far w. shown_stands (rules_of c.args.self.now.scanner) c.args.self.now.scanner c.args.self.now.lines front so_far
    c.taken-taken.ensures.viable w

pub returns-clause-not_whole : goal.returns-clause-not_whole
returns-clause-not_whole c = λ front so_far w. no_spelling_without_value (rules_of c.args.self.now.scanner) front w.scanned.no_value

pub returns-clause-due : goal.returns-clause-due
returns-clause-due c = λ front so_far w. record { given = w.given; all_due = w.scanned.all_due; is_text = w.written }
