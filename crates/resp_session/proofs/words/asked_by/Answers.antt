use Rattle.std.proofs.Common.{sym, ap, ◌∙◌, map}
use Rattle.resp_value.specs.Data.{data_of_list}
use Rattle.resp_value.specs.Values.{datum_of}
use Rattle.resp_value.proofs.DatumOf.{datum_of-Array}
use Rattle.resp_session.specs.Commands.{array_meaning, bulk_contents, meaning_of}
use Rattle.resp_session.proofs.words.asked_by.Goals as goal

pub returns-in-Array-clause-meaning : goal.returns-in-Array-clause-meaning
returns-in-Array-clause-meaning c =
    c.asked_by_members.ensures.meaning ∙ ap (λ items. array_meaning (bulk_contents (data_of_list (map datum_of items)))) c.into_vec.ensures ∙
    sym (ap (λ value. meaning_of (datum_of value)) c.in-Array.is ∙ ap meaning_of (datum_of-Array c.in-Array.members))
