use Rattle.resp_tap.proofs.KeptWords.{enough_is_kept}
use Rattle.resp_tap.proofs.laws.enough_is_kept.Goals as goal

pub returns : goal.returns
returns c = enough_is_kept
