use Rattle.std.proofs.Common.{◌++◌, ap, ◌∙◌}
use Rattle.resp_proxy.proofs.Hellos.{before_id, own-parts}
use Rattle.resp_proxy.proofs.hello.hello_text.Goals as goal

pub returns : goal.returns
returns c =
    own-parts c.args.number _ _ _ _ _ c.ranges.number.fits
    (c.in_ok-extend_from_slice.ensures.items ∙ ap (λ items. items ++ before_id) c.new-text.ensures.items) c.in_ok-id.ensures.ok c.as_bytes.ensures.value
    c.in_ok-extend_from_slice-2.ensures.items c.in_ok-extend_from_slice-3.ensures.items
