use Rattle.resp_scan.proofs.CallClauses.Calls.{finishes, truncated_at}
use Rattle.resp_scan.proofs.scanner.Scanner.finish.Goals as goal

pub returns-clause-may_end : goal.returns-clause-may_end
returns-clause-may_end c = λ front es w. finishes c.end.result c.args.self.now front es c.end.ensures.sound c.end.ensures.ok c.end.ensures.err w

pub returns-clause-truncated_inside_a_value : goal.returns-clause-truncated_inside_a_value
returns-clause-truncated_inside_a_value c = λ front es w. truncated_at c.end.result c.args.self.now front es c.end.ensures.sound c.end.ensures.err w
