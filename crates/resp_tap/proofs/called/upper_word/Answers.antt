use Rattle.std.proofs.Common.{rules, ◌∙◌}
use Rattle.std.specs.Char.{to_ascii_uppercase}
use Rattle.resp_tap.proofs.FirstBytes.{mapped_front}
use Rattle.resp_tap.proofs.called.upper_word.Goals as goal

pub returns : goal.returns
returns c = c.loop-index.invariant ∙ mapped_front to_ascii_uppercase c.args.word.now 32 c.loop-index.index (search rules)
