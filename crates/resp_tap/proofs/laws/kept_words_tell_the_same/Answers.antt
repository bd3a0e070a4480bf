use Rattle.resp_tap.proofs.KeptWords.{kept_words_tell_the_same}
use Rattle.resp_tap.proofs.laws.kept_words_tell_the_same.Goals as goal

pub returns : goal.returns
returns c = kept_words_tell_the_same
