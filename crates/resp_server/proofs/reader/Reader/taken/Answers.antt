use Rattle.resp_session.specs.Answers.{server_rules}
use Rattle.resp_server.proofs.Turns.{none_taken}
use Rattle.resp_server.proofs.reader.Reader.taken.Goals as goal

pub returns-in-Some-clause-no_value : goal.returns-in-Some-clause-no_value
returns-in-Some-clause-no_value c =
    none_taken c.no_spelling_is_empty.ensures (server_rules c.args.limits.now) c.args.self.now

pub returns-in-None-clause-no_value : goal.returns-in-None-clause-no_value
returns-in-None-clause-no_value c =
    none_taken c.no_spelling_is_empty.ensures (server_rules c.args.limits.now) c.args.self.now
