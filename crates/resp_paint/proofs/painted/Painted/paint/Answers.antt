use Rattle.std.proofs.Common.{◌∷◌, ◌++◌, ◌∙◌, [], ap, append_assoc, refl, sym}
use Rattle.resp_paint.proofs.PlainLemmas.{paints_next, paints_nothing, waits_in}
use Rattle.resp_paint.proofs.painted.Painted.paint.Goals as goal

pub loop-byte-init : goal.loop-byte-init
loop-byte-init g c = ([], refl, paints_nothing _ _, refl, refl, refl, λ waits. waits)

pub loop-byte-preserved : goal.loop-byte-preserved
loop-byte-preserved g c =
    let (front, e, paints, calls, failures, style, _) = c.loop-byte.invariant in
    let byte = c.in-Some.byte.now in (
      front ++ (byte ∷ []),
      e ∙ ap (λ z. front ++ z) c.in-Some.ensures.cases.0 ∙ sym (append_assoc front (byte ∷ []) c.in-Some.beyond.now),
      paints_next _ _ _ _ _ _ _ _ paints c.in-Ok.ensures.paints,
      c.in-Ok.ensures.same_calls ∙ calls,
      c.in-Ok.ensures.same_failures ∙ failures,
      c.in-Ok.ensures.same_style ∙ style,
      λ _. waits_in _ _ _ style c.in-Ok.ensures.waits,
    )
