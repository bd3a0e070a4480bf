use Rattle.resp_value.proofs.Cutting.{short_texts_are_kept}
use Rattle.resp_value.proofs.laws.short_texts_are_kept.Goals as goal

pub returns : goal.returns
returns c = short_texts_are_kept
