use Rattle.resp_scan.proofs.CallClauses.Calls.{changed, may_change}
use Rattle.resp_scan.proofs.scanner.Scanner.set_version.Goals as goal

pub returns-clause-only_between_values : goal.returns-clause-only_between_values
returns-clause-only_between_values c = λ front es w. may_change c.change_version.result c.args.self.now front es c.change_version.ensures.sound
    c.change_version.ensures.between w

pub returns-clause-nothing_read : goal.returns-clause-nothing_read
returns-clause-nothing_read c = λ front es w. changed c.change_version.result c.args.self.now c.change_version.new.self c.args.version front es
    c.change_version.ensures.sound c.change_version.ensures.between c.change_version.ensures.ok w
