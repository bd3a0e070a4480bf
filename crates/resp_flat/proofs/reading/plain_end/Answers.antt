use Rattle.std.proofs.Common.{◌-◌, take, arith, subst, ◌≡◌}
use Rattle.resp_value.specs.Rules.{rules_under}
use Rattle.resp_value.specs.Spellings.{IsSpelling}
use Rattle.resp_value.specs.TreeValues.{value}
use Rattle.resp_flat.proofs.ValuesRead.{value_is_spelled}
use Rattle.resp_flat.proofs.reading.plain_end.Goals as goal

pub returns-clause-reply : goal.returns-clause-reply
returns-clause-reply c =
    let r = rules_under c.args.version c.args.limits.now in
    let found = c.in_ok-found.ensures in
    let end = c.in_ok-found.found.end in
    let same : end - 0 ≡ end = omega arith in (
      value found.value.tree,
      subst (λ n. IsSpelling r (value found.value.tree) (take n c.args.bytes.now)) same
          (value_is_spelled r c.args.bytes.now (record { end = 0; count = 0 }) c.in_ok-found.found _ _ found.fits.1 found.value),
    )
