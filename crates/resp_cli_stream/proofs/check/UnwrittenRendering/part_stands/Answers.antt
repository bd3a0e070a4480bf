use Rattle.resp_scan.specs.Kinds.{rules_of}
use Rattle.resp_cli_stream.proofs.Scanned.{no_spelling_without_value}
use Rattle.resp_cli_stream.proofs.check.UnwrittenRendering.part_stands.Goals as goal

pub returns-clause-not_whole : goal.returns-clause-not_whole
returns-clause-not_whole c = λ front so_far w. no_spelling_without_value (rules_of c.args.self.now.scanner) front w.0.1.no_value
