use Rattle.resp_value.specs.Canonical.{canonical_text}
use Rattle.resp_value.specs.Rules.{rules_under}
use Rattle.resp_cli_stream.proofs.Scanned.{looks_ended}
use Rattle.resp_cli_stream.proofs.canon.CanonicalRendering.finish.Goals as goal

pub returns-clause-ends : goal.returns-clause-ends
returns-clause-ends g c = λ front so_far w.
    let r = rules_under c.args.self.now.version c.args.self.now.limits.now in
    looks_ended r (canonical_text r.version) front so_far (g.W.Sink.written c.args._writer.now) c.finish.result c.map_err.result
    w.scanned.no_value (rw w.same_rules at (c.taken-viable.ensures.viable front w.given w.scanned.reads)) w.nothing
    (rw w.same_rules at (c.finish.ensures.may_end front w.given w.scanned.reads))
    (c.finish.ensures.truncated_inside_a_value front w.given w.scanned.reads) c.map_err.ensures.cases
