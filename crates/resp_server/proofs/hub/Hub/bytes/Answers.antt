use Rattle.resp_server.proofs.AnsweredHubs.{answers_all}
use Rattle.resp_server.proofs.hub.Hub.bytes.Goals as goal

pub returns-clause-answered : goal.returns-clause-answered
returns-clause-answered g c =
    answers_all c.args.self.now c.bytes_within.new.self c.args.id c.args.piece.now c.in_ok-taken.taken.used c.in_ok-taken.taken.commands
    c.in_ok-taken.ensures.answered c.in_ok-taken.ensures.within
