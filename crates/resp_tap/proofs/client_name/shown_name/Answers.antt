use Rattle.std.proofs.Common.{rules, ◌∙◌}
use Rattle.resp_tap.specs.ClientNames.{shown_byte}
use Rattle.resp_tap.proofs.FirstBytes.{mapped_front}
use Rattle.resp_tap.proofs.client_name.shown_name.Goals as goal

pub returns : goal.returns
returns c = c.loop-index.invariant ∙ mapped_front shown_byte c.args.name.now 64 c.loop-index.index (search rules)
