use Rattle.std.proofs.Common.{ap, ◌∙◌}
use Rattle.resp_value.specs.Data.{scalar}
use Rattle.resp_scan.specs.Kinds.{text_kind_of}
use Rattle.resp_decode.specs.Builds.{scalar_of, with_value}
use Rattle.resp_decode.specs.Holding.{construction_of}
use Rattle.resp_decode.proofs.Taking.{content_alone_weighs, takes_in_text}
use Rattle.resp_decode.proofs.held.HeldParts.take_content.Goals as goal

pub returns-in-Ok : goal.returns-in-Ok
returns-in-Ok c =
    let old = c.args.self.now in
    let kind = text_kind_of c.args.kind in
    let same = c.content_value.ensures ∙ ap (λ s. scalar (scalar_of kind s)) c.in-Ok.ensures.items in
    takes_in_text old c.put_scalar.new.self kind c.args.bytes.now c.put_scalar.result (content_alone_weighs kind c.args.bytes.now c.requires.content_alone)
    (λ goes. c.put_scalar.ensures.holds goes ∙ ap (λ x. with_value x (construction_of old)) same) c.put_scalar.ensures.weighs
