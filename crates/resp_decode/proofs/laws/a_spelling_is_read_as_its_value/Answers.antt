use Rattle.resp_decode.proofs.OneSpelling.{read_as_its_value, refused_for_memory_alone}
use Rattle.resp_decode.proofs.laws.a_spelling_is_read_as_its_value.Goals as goal

pub returns-clause-read : goal.returns-clause-read
returns-clause-read c = read_as_its_value c.no_spelling_begins_another.ensures c.no_spelling_is_empty.ensures

pub returns-clause-not_refused : goal.returns-clause-not_refused
returns-clause-not_refused c = refused_for_memory_alone c.no_spelling_begins_another.ensures c.no_spelling_is_empty.ensures
