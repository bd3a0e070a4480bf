use Rattle.std.proofs.Common.{◌-◌, arith, length, length-take, refl}
use Rattle.std.proofs.lemmas.Grind.{common_steps}
use Rattle.resp_frames.proofs.Ends.{whole_command}
use Rattle.resp_frames.proofs.words.command_of_piece.Goals as goal

pub returns-clause-command : goal.returns-clause-command
returns-clause-command c =
    let piece = c.args.piece.now in
    let command = c.in_ok-command.command in
    whole_command c.no_spelling_is_empty.ensures c.args.limits.now piece _ (length piece - length command.rest.now) command.name.now command.arguments
    command.rest.now c.in_ok-command.ensures.begins refl (grind (arith, common_steps, length-take)) (grind (arith, common_steps)) c.words_by.ensures
