use Rattle.resp_tap.proofs.KeptLemmas.{kept_parts_tell_the_same}
use Rattle.resp_tap.proofs.laws.kept_parts_tell_the_same.Goals as goal

pub returns : goal.returns
returns c = kept_parts_tell_the_same
