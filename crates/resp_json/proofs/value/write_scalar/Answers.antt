use Rattle.std.proofs.Common.{◌≡◌, ap, subst, sym, ◌∙◌}
use Rattle.resp_value.specs.Data as d
use Rattle.resp_value.specs.Values.{content_bytes, datum_of}
use Rattle.resp_json.specs.Json.{scalar_json}
use Rattle.resp_print.specs.Written.{WritesText}
use Rattle.resp_json.proofs.value.write_scalar.Goals as goal

same_scalar : (x y : d.Scalar) → d.scalar x ≡ d.scalar y → x ≡ y
same_scalar x y e = cc

pub returns-in-BulkError : goal.returns-in-BulkError
returns-in-BulkError g c = λ s is.
    let of_value : d.BulkError (content_bytes c.in-BulkError.content) ≡ s = same_scalar _ _ (sym (ap datum_of c.in-BulkError.is) ∙ is) in
    subst (WritesText _ _ _ _ c.write_object-in-BulkError.result)
    (ap (λ z. scalar_json (d.BulkError z)) c.list-in-BulkError.ensures ∙ ap scalar_json of_value) c.write_object-in-BulkError.ensures
