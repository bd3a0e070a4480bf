use Rattle.std.proofs.Common.{◌∙◌, ◌++◌, ap}
use Rattle.resp_proxy.proofs.OwnReplies.{bulk-reply, is-text}
use Rattle.resp_value.specs.Canonical.{canonical_text}
use Rattle.resp_value.specs.Words.{word_datum}
use Rattle.resp_value.specs.declared.version.Version.TheVariants.{Two}
use Rattle.resp_proxy.proofs.answer.bulk.Goals as goal

pub returns : goal.returns
returns c =
    bulk-reply c.args.bytes.now _ (is-text c.args.bytes.now (λ i. (c.type_inv.bytes i).fits))
    (c.in_ok-bulk.ensures ∙ ap (λ items. items ++ canonical_text Two (word_datum c.args.bytes.now)) c.new-text.ensures.items)
