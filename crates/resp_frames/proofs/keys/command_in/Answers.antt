use Rattle.resp_frames.proofs.SameWords.{is_found, words_found}
use Rattle.resp_frames.proofs.keys.command_in.Goals as goal

pub returns : goal.returns
returns c = record {
  words = words_found c.no_spelling_begins_another.ensures c.args.limits.now c.args.text.now c.command.result c.command.ensures.begins;
  found = is_found c.args.limits.now c.args.text.now c.command.result c.command.ensures.none;
}
