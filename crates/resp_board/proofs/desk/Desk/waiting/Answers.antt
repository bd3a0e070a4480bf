use Rattle.resp_board.proofs.Standing.{unanswered}
use Rattle.resp_board.proofs.desk.Desk.waiting.Goals as goal

pub returns-clause-unanswered : goal.returns-clause-unanswered
returns-clause-unanswered c answers given h = unanswered c.args.self.now answers given h
