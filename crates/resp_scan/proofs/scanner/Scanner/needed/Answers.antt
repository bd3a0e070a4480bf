use Rattle.std.proofs.Common.{subst, arith}
use Rattle.resp_fronts.specs.LeastCompletions.{IsLeast}
use Rattle.resp_scan.specs.Machine.Fields.{place_of}
use Rattle.resp_scan.specs.Kinds.{rules_of}
use Rattle.resp_scan.proofs.CallClauses.LeastNeeded.{least_is_needed}
use Rattle.resp_scan.proofs.scanner.Scanner.needed.Goals as goal

pub returns : goal.returns
returns c =
    let s = place_of c.self.inside.machine in
    record {
      least_completion = rw (← c.self.view_is) (λ front es w. subst (IsLeast (rules_of s) front) (omega (arith, c.needed.ensures))
          (least_is_needed s 0 front es c.self.invariant w.stands));
    }
