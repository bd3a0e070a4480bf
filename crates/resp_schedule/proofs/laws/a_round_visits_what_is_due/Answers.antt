use Rattle.std.proofs.Common.{arith}
use Rattle.std.proofs.lemmas.List.{take_all}
use Rattle.resp_schedule.proofs.Rounds.{in_order}
use Rattle.resp_schedule.proofs.laws.a_round_visits_what_is_due.Goals as goal

pub returns-clause-in_order : goal.returns-clause-in_order
returns-clause-in_order c = in_order

pub returns-clause-all_are_next : goal.returns-clause-all_are_next
returns-clause-all_are_next c = λ plan. take_all _ plan.queue (omega arith)
