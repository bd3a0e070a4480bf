use Rattle.resp_value.specs.Rules.{rules_under}
use Rattle.resp_cli_stream.proofs.Scanned.{no_spelling_without_value}
use Rattle.resp_cli_stream.proofs.canon.CanonicalRendering.part_stands.Goals as goal

pub returns-clause-not_whole : goal.returns-clause-not_whole
returns-clause-not_whole c = λ front so_far w.
    no_spelling_without_value (rules_under c.args.self.now.version c.args.self.now.limits.now) front w.scanned.no_value
