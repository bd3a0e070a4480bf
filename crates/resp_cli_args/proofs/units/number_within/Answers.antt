use Rattle.std.proofs.Common.{◌≤◌, ℕ, arith}
use Rattle.resp_cli_args.specs.Units.{HasUnit}
use Rattle.resp_cli_args.proofs.AskingLemmas.{if_none}
use Rattle.resp_cli_args.proofs.SizeLemmas.{same_number}
use Rattle.resp_cli_args.proofs.units.number_within.Goals as goal
use Rattle.resp_cli_args.proofs.units.number_within.Goals.{then-parts-least-via-then-parts-least, then-parts-least-via-else-parts-least+then-parts-most}

pub returns-in_err-parts-clause-none : goal.returns-in_err-parts-clause-none
returns-in_err-parts-clause-none c =
    let none : (parts : ℕ) → HasUnit c.args.unit.now c.args.scale c.args.text.now parts → c.args.least ≤ parts → parts ≤ c.args.most → ⊥ =
    λ parts is low high. c.in_err-parts.ensures.none parts is in
    if_none _ _ none

pub returns-then-parts-least-clause-none : goal.returns-then-parts-least-clause-none
returns-then-parts-least-clause-none c = λ parts is low high.
    let same = same_number c.args.unit.now c.args.text.now c.args.scale parts c.in_ok-parts.parts is c.in_ok-parts.ensures.some in
    elim c.then-parts-least.branch [
      | then-parts-least-via-then-parts-least w ↦ absurd (omega (arith, same, low, w.if-parts-least.true))
      | then-parts-least-via-else-parts-least+then-parts-most w ↦ absurd (omega (arith, same, high, w.if-parts-most.true))
    ]
