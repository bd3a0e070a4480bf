use Rattle.resp_commands.proofs.Marks.{key_words}
use Rattle.resp_commands.proofs.key_list.key_words.Goals as goal

pub returns : goal.returns
returns c = λ keys are. key_words keys c.args.arguments c.args.places are
