use Rattle.std.proofs.Common.{length, sym, arith}
use Rattle.std.proofs.lemmas.Bool.{eqb-true, eq-eqb}
use Rattle.resp_scan.proofs.Soundness.Runs.{run_to_is}
use Rattle.resp_scan.proofs.lines.run_to.Goals as goal

pub returns-in-Some-clause-value : goal.returns-in-Some-clause-value
returns-in-Some-clause-value c =
    let h = c.in-Some.ensures in
    sym (run_to_is c.args.byte c.args.s.now c.in-Some.i (omega arith) (λ j l e. h.0.before j (omega arith) l (eq-eqb _ _ e)) (λ l. eqb-true _ _ h.1))

pub returns-in-None-clause-value : goal.returns-in-None-clause-value
returns-in-None-clause-value c =
    let h = c.in-None.ensures in
    sym (run_to_is c.args.byte c.args.s.now (length c.args.s.now) (omega arith) (λ j l e. h j (omega arith) l (eq-eqb _ _ e)) (λ l. absurd (omega arith)))
