use Rattle.std.proofs.Common.{map, sym, ap, ◌∙◌}
use Rattle.resp_value.specs.Data.{aggregate, data_of_list}
use Rattle.resp_value.specs.Data as d
use Rattle.resp_value.specs.Values.{datum_of}
use Rattle.resp_value.proofs.DatumOf.{datum_of-Array, datum_of-Set, datum_of-Push}
use Rattle.resp_decode.specs.Holding.{group_of}
use Rattle.resp_decode.proofs.group.Group.into_value.Goals as goal

pub returns-in-Array : goal.returns-in-Array
returns-in-Array c = λ fits.
    datum_of-Array c.new.result
    ∙ ap (λ xs. aggregate d.Array (data_of_list (map datum_of xs))) c.new.ensures
    ∙ sym (ap (λ g. aggregate (group_of g).kind (data_of_list (group_of g).members)) c.in-Array.is)

pub returns-in-Set : goal.returns-in-Set
returns-in-Set c = λ fits.
    datum_of-Set c.new-in-Set.result
    ∙ ap (λ xs. aggregate d.Set (data_of_list (map datum_of xs))) c.new-in-Set.ensures
    ∙ sym (ap (λ g. aggregate (group_of g).kind (data_of_list (group_of g).members)) c.in-Set.is)

pub returns-in-Push : goal.returns-in-Push
returns-in-Push c = λ fits.
    datum_of-Push c.new-in-Push.result
    ∙ ap (λ xs. aggregate d.Push (data_of_list (map datum_of xs))) c.new-in-Push.ensures
    ∙ sym (ap (λ g. aggregate (group_of g).kind (data_of_list (group_of g).members)) c.in-Push.is)
