use Rattle.std.proofs.Common.{◌≡◌, subst, length, arith}
use Rattle.resp_value.specs.Rules.{rules_under}
use Rattle.resp_value.specs.Canonical.{canonical_text}
use Rattle.resp_encode.specs.Walks.Sizes.{IsSize}
use Rattle.resp_encode.proofs.Verdicts.{verdict_of_fitting}
use Rattle.resp_encode.proofs.first_fault.checked_size.Goals as goal

pub returns-in-Some-clause-verdict : goal.returns-in-Some-clause-verdict
returns-in-Some-clause-verdict c = λ x found value.
    let sized : length (canonical_text c.args.version x) ≡ c.in-Some.size =
    subst (λ size. IsSize size (length (canonical_text c.args.version x))) c.in-Some.is found.size_found in
    verdict_of_fitting (rules_under c.args.version c.args.limits.now) x c.in-Some.size value (record {
      allows_doubles = (c.are_doubles_allowed.ensures c.args.version x found).0 c.if-not-are_doubles_allowed.false;
      has_types = (c.has_types.ensures x found).0 c.if-not-has_types.false;
      push_at_top = found.push_at_top.0 c.if-not-found.false;
      within_depth = omega (arith, found.depth_found, c.depth.ensures);
      within_length = omega (arith, found.longest_found, c.length.ensures);
      within_items = omega (arith, found.most_items_found, c.items.ensures);
      within_total = omega (arith, sized, c.total-total.ensures);
    })
