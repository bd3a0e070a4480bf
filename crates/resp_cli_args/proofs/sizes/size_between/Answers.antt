use Rattle.std.proofs.Common.{◌≤◌, ℕ, arith}
use Rattle.resp_cli_args.specs.Sizes.{IsSizeIn}
use Rattle.resp_cli_args.proofs.AskingLemmas.{if_none}
use Rattle.resp_cli_args.proofs.SizeLemmas.{by_letters, same_number}
use Rattle.resp_cli_args.proofs.sizes.size_between.Goals as goal
use Rattle.resp_cli_args.proofs.sizes.size_between.Goals.{then-size-least-via-then-size-least, then-size-least-via-else-size-least+then-size-most}

pub returns-in_err-size-clause-none : goal.returns-in_err-size-clause-none
returns-in_err-size-clause-none c =
    let none : (size : ℕ) → IsSizeIn c.args.unit c.args.text.now size → c.args.least ≤ size → size ≤ c.args.most → ⊥ =
    λ size is low high. c.in_err-size.ensures.none size
    (by_letters c.args.unit c.suffix_of.result.now c.args.text.now c.factor_of.result size c.suffix_of.ensures c.factor_of.ensures.factor is) in
    if_none _ _ none

pub returns-then-size-least-clause-none : goal.returns-then-size-least-clause-none
returns-then-size-least-clause-none c = λ size is low high.
    let read = by_letters c.args.unit c.suffix_of.result.now c.args.text.now c.factor_of.result size c.suffix_of.ensures c.factor_of.ensures.factor is in
    let same = same_number c.suffix_of.result.now c.args.text.now c.factor_of.result size c.in_ok-size.size read c.in_ok-size.ensures.some in
    elim c.then-size-least.branch [
      | then-size-least-via-then-size-least w ↦ absurd (omega (arith, same, low, w.if-size-least.true))
      | then-size-least-via-else-size-least+then-size-most w ↦ absurd (omega (arith, same, high, w.if-size-most.true))
    ]
