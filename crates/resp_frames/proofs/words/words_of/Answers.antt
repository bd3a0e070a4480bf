use Rattle.std.proofs.Common.{◌≡◌, [], arith}
use Rattle.std.proofs.lemmas.Grind.{common_steps}
use Rattle.resp_frames.proofs.Others.{no_command, no_rest, on_none}
use Rattle.resp_frames.proofs.words.words_of.Goals as goal

pub returns-in_err-command-clause-other : goal.returns-in_err-command-clause-other
returns-in_err-command-clause-other c =
    on_none c.from_residual.result _ (λ command. no_command c.args.limits.now c.args.text.now c.in_err-command.ensures.none command)

pub returns-then-not-is_empty-clause-other : goal.returns-then-not-is_empty-clause-other
returns-then-not-is_empty-clause-other c = λ command.
    let empty : c.in_ok-command.command.rest.now ≡ [] =
    no_rest c.no_spelling_begins_another.ensures c.args.limits.now c.args.text.now c.in_ok-command.command.name.now
    c.in_ok-command.command.arguments c.in_ok-command.command.rest.now c.in_ok-command.ensures.begins command in
    absurd (grind (arith, common_steps))
