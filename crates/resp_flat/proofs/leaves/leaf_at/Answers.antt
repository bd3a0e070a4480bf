use Rattle.std.proofs.Common.{refl, arith}
use Rattle.resp_value.specs.Rules.{rules_under, InVersion}
use Rattle.resp_value.specs.Trees.{Bulk, Simple, Error}
use Rattle.resp_flat.proofs.NoneThere.{none_both, none_by}
use Rattle.resp_flat.proofs.LeavesNotThere.{no_dollar, no_error, no_integer, no_other_in_two, no_simple}
use Rattle.resp_flat.proofs.leaves.leaf_at.Goals as goal

pub returns-in-Some-clause-found : goal.returns-in-Some-clause-found
returns-in-Some-clause-found c = c.in-Some.ensures.found c.args.version Bulk c.in-36.is refl tt (λ two. tt)

pub returns-in-43-clause-found : goal.returns-in-43-clause-found
returns-in-43-clause-found c = c.line.ensures.found c.args.version Simple c.in-43.is refl tt

pub returns-in-45-clause-found : goal.returns-in-45-clause-found
returns-in-45-clause-found c = c.line-in-45.ensures.found c.args.version Error c.in-45.is refl tt

pub returns-in-None-clause-none : goal.returns-in-None-clause-none
returns-in-None-clause-none c = none_by c.null.result _ _ (λ none level.
    no_dollar (rules_under c.args.version c.args.limits.now) level c.args.buffer.now c.args.at c.in-36.is c.in-None.ensures.none none) c.null.ensures.none

pub returns-in-58-clause-none : goal.returns-in-58-clause-none
returns-in-58-clause-none c = none_by c.integer.result _ _ (λ none level.
    no_integer (rules_under c.args.version c.args.limits.now) level c.args.buffer.now c.args.at c.in-58.is none.0 none.1)
    (none_both c.integer.result _ _ c.integer.ensures.none c.integer.ensures.none_below)

pub returns-in-43-clause-none : goal.returns-in-43-clause-none
returns-in-43-clause-none c = none_by c.line.result _ _ (λ none level.
    no_simple (rules_under c.args.version c.args.limits.now) level c.args.buffer.now c.args.at c.in-43.is none) c.line.ensures.none

pub returns-in-45-clause-none : goal.returns-in-45-clause-none
returns-in-45-clause-none c = none_by c.line-in-45.result _ _ (λ none level.
    no_error (rules_under c.args.version c.args.limits.now) level c.args.buffer.now c.args.at c.in-45.is none) c.line-in-45.ensures.none

pub returns-in-Two-clause-none : goal.returns-in-Two-clause-none
returns-in-Two-clause-none c level has =
    no_other_in_two (rules_under c.args.version c.args.limits.now) level c.args.buffer.now c.args.at (λ e. omega (arith, e, c.in_default)) (λ e. omega (arith, e, c.in_default))
    (λ e. omega (arith, e, c.in_default)) (λ e. omega (arith, e, c.in_default)) (λ e. omega (arith, e, c.in_default)) has (has.keeps InVersion (omega arith) c.in-Two.is)

pub returns-in-Three-clause-none : goal.returns-in-Three-clause-none
returns-in-Three-clause-none c = none_by c.leaf_in_three.result _ _ (λ none level has. none c.args.version level has (λ two.
    no_other_in_two (rules_under c.args.version c.args.limits.now) level c.args.buffer.now c.args.at (λ e. omega (arith, e, c.in_default)) (λ e. omega (arith, e, c.in_default))
    (λ e. omega (arith, e, c.in_default)) (λ e. omega (arith, e, c.in_default)) (λ e. omega (arith, e, c.in_default)) has two)) c.leaf_in_three.ensures.none
