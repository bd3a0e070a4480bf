use Rattle.std.proofs.Common.{ap, ◌∙◌, sym}
use Rattle.resp_value.specs.Attributes.{without_attributes}
use Rattle.resp_value.specs.Values.{datum_of}
use Rattle.resp_value.proofs.AttributeLemmas.{without_attributes-Attr}
use Rattle.resp_value.proofs.value.Value.+without_attributes.Goals as goal

pub returns-in-Attr : goal.returns-in-Attr
returns-in-Attr t c = c.without_attributes.ensures ∙ ap (λ v. without_attributes (datum_of v)) c.deref.ensures ∙
    sym (ap (λ v. without_attributes (datum_of v)) c.in-Attr.is ∙
    without_attributes-Attr c.in-Attr.field-0 c.in-Attr.value)
