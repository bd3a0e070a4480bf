use Rattle.std.proofs.Common.{arith}
use Rattle.resp_cli_loop.proofs.ScriptWords.{first_of, no_second}
use Rattle.resp_cli_loop.proofs.script.steps.step_of.Goals as goal

pub returns-in_default-split_first-clause-reason : goal.returns-in_default-split_first-clause-reason
returns-in_default-split_first-clause-reason c =
    let is = c.in-Some.ensures.cases.0 in (
      (c.in-Some-verb_of.verb, first_of c.args.words.now c.in-Some.beyond.now c.in-Some.name.now _ is c.in-Some-verb_of.ensures.verb),
      λ (number, named, low, high). no_second c.args.words.now c.in-Some.beyond.now c.in-Some.name.now number is c.in_default-split_first.ensures.cases
          (omega (arith, c.ranges.clients.fits, high)) named,
    )
