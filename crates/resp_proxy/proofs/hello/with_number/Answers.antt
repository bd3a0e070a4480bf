use Rattle.std.proofs.Common.{◌++◌, ap, inl, ◌∙◌}
use Rattle.resp_proxy.proofs.Hellos.{with-number}
use Rattle.resp_proxy.proofs.hello.with_number.Goals as goal

pub returns : goal.returns
returns c = inl (
    with-number c.args.number c.args.reply.now _ _ _ _ _ _ _ c.ranges.number.fits c.in-Some.ensures.some c.in_ok-digits.ensures.ok
    c.as_bytes.ensures.value
    (c.in_ok-extend_from_slice-2.ensures.items ∙ ap (λ items. items ++ c.in-Some.around.before.now) c.new-text.ensures.items)
    c.in_ok-extend_from_slice-3.ensures.items c.in_ok-extend_from_slice-4.ensures.items)
