use Rattle.std.proofs.Common.{arith}
use Rattle.resp_session.proofs.laws.numbers_of_commands.Goals as goal

pub returns-clause-last : goal.returns-clause-last
returns-clause-last c = λ limits request h. let most = h.2 in omega (arith, most)

pub returns-clause-none_left : goal.returns-clause-none_left
returns-clause-none_left c = λ limits request sent fits. (sent, fits, omega arith)
