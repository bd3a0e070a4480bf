use Rattle.std.proofs.Common.{sym, ◌∙◌, ap, take}
use Rattle.resp_scan.specs.Machine.Runs.{run_to}
use Rattle.resp_scan.proofs.Soundness.Runs.{plain_run-run_to}
use Rattle.resp_scan.proofs.lines.far_run.Goals as goal

pub returns-clause-run : goal.returns-clause-run
returns-clause-run c =
    let s = c.args.s.now in
    c.run_to.ensures.value ∙ ap (λ n. run_to 10 (take n s)) c.run_to-cr.ensures.value ∙ sym (plain_run-run_to s)
