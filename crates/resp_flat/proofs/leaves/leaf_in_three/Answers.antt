use Rattle.std.proofs.Common.{◌≡◌, ◌+◌, drop, refl, sym, subst, arith, rules}
use Rattle.resp_value.specs.Rules.{rules_under}
use Rattle.resp_flat.specs.Plain.{IsLeafAt}
use Rattle.resp_value.specs.Bytes.{crlf}
use Rattle.resp_value.specs.Trees.{BulkError}
use Rattle.resp_flat.proofs.LeavesRead.{plain_null_read}
use Rattle.resp_flat.proofs.NoneThere.{none_by}
use Rattle.resp_flat.proofs.LeavesNotThere.{no_bulk_error, no_double, no_double_allowed, no_other_in_three, no_plain_null, no_truth, no_verbatim}
use Rattle.resp_flat.proofs.leaves.leaf_in_three.Goals as goal

pub returns-else-not-is_line_end-clause-found : goal.returns-else-not-is_line_end-clause-found
returns-else-not-is_line_end-clause-found c version three =
    let (ends, within) = c.if-not-is_line_end.ensures in
    subst (λ node. IsLeafAt (rules_under version c.args.limits.now) c.args.buffer.now c.args.at (c.args.at + 3) node) (sym c.leaf.ensures)
    (plain_null_read (rules_under version c.args.limits.now) c.args.buffer.now c.args.at (c.args.at + 3) three c.requires c.in-95.is
    (subst (λ k. drop (c.args.at + 1) c.args.buffer.now ≡ crlf (drop k c.args.buffer.now)) (omega arith) ends) (omega (arith, within)))

pub returns-else-not-doubles-clause-found : goal.returns-else-not-doubles-clause-found
returns-else-not-doubles-clause-found c version three = c.double.ensures.found version three (search rules) c.in-44.is

pub returns-in-33-clause-found : goal.returns-in-33-clause-found
returns-in-33-clause-found c version three = c.string.ensures.found version BulkError c.in-33.is refl tt three

pub returns-in-61-clause-found : goal.returns-in-61-clause-found
returns-in-61-clause-found c version three = c.verbatim_string.ensures.found version three c.in-61.is

pub returns-then-not-doubles-clause-none : goal.returns-then-not-doubles-clause-none
returns-then-not-doubles-clause-none c version level has two =
    no_double_allowed (rules_under version c.args.limits.now) level c.args.buffer.now c.args.at c.in-44.is (search rules) has

pub returns-else-not-doubles-clause-none : goal.returns-else-not-doubles-clause-none
returns-else-not-doubles-clause-none c = none_by c.double.result _ _ (λ none version level has two.
    no_double (rules_under version c.args.limits.now) level c.args.buffer.now c.args.at c.in-44.is none has) c.double.ensures.none

pub returns-in-33-clause-none : goal.returns-in-33-clause-none
returns-in-33-clause-none c = none_by c.string.result _ _ (λ none version level has two.
    no_bulk_error (rules_under version c.args.limits.now) level c.args.buffer.now c.args.at c.in-33.is none has) c.string.ensures.none

pub returns-in-61-clause-none : goal.returns-in-61-clause-none
returns-in-61-clause-none c = none_by c.verbatim_string.result _ _ (λ none version level has two.
    no_verbatim (rules_under version c.args.limits.now) level c.args.buffer.now c.args.at c.in-61.is none has) c.verbatim_string.ensures.none

pub returns-in-35-clause-none : goal.returns-in-35-clause-none
returns-in-35-clause-none c = none_by c.truth.result _ _ (λ none version level has two.
    no_truth (rules_under version c.args.limits.now) level c.args.buffer.now c.args.at c.in-35.is none has) c.truth.ensures.none

pub returns-then-not-is_line_end-clause-none : goal.returns-then-not-is_line_end-clause-none
returns-then-not-is_line_end-clause-none c version level has two =
    no_plain_null (rules_under version c.args.limits.now) level c.args.buffer.now c.args.at c.in-95.is c.if-not-is_line_end.ensures has

pub returns-in_default-clause-none : goal.returns-in_default-clause-none
returns-in_default-clause-none c version level has two =
    no_other_in_three (rules_under version c.args.limits.now) level c.args.buffer.now c.args.at (λ e. omega (arith, e, c.in_default)) (λ e. omega (arith, e, c.in_default))
    (λ e. omega (arith, e, c.in_default)) (λ e. omega (arith, e, c.in_default)) (λ e. omega (arith, e, c.in_default)) has two
