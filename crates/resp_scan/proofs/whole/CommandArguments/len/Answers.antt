use Rattle.std.proofs.Common.{length, sym, ap, ◌∙◌}
use Rattle.resp_scan.proofs.Wholes.ManyWords.{words_length}
use Rattle.resp_scan.proofs.whole.CommandArguments.len.Goals as goal

pub returns : goal.returns
returns c = sym (words_length c.self.inside.left c.self.inside.text.now) ∙ ap length c.self.view_is
