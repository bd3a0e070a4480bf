use Rattle.resp_codec.proofs.Written.{comes_back}
use Rattle.resp_codec.proofs.laws.what_is_written_comes_back.Goals as goal

pub returns : goal.returns
returns c = comes_back c.no_spelling_begins_another.ensures c.fronts_of_spellings_are_viable.ensures
