use Rattle.resp_value.specs.Rules.{rules_under}
use Rattle.resp_value.specs.Values.{datum_of}
use Rattle.resp_encode.proofs.Verdicts.{verdict_of_fitting}
use Rattle.resp_encode.proofs.values.encode.Goals as goal

pub returns-then-attempt-clause-verdict : goal.returns-then-attempt-clause-verdict
returns-then-attempt-clause-verdict c = verdict_of_fitting (rules_under c.args.version c.args.limits.now)
    (datum_of c.args.value.now) tt
    c.if-attempt.ensures.is_value c.if-attempt.ensures.fits
