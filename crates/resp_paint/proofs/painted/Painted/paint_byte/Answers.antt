use Rattle.std.proofs.Common.{refl}
use Rattle.resp_paint.proofs.PlainLemmas.{paints_all, paints_later}
use Rattle.resp_paint.proofs.painted.Painted.paint_byte.Goals as goal

pub returns-in-Later-clause-paints : goal.returns-in-Later-clause-paints
returns-in-Later-clause-paints g c = paints_later _ _ _ _ c.in-Ok.ensures.ok

pub returns-clause-paints : goal.returns-clause-paints
returns-clause-paints g c =
    paints_all _ _ _ _ _ _ _ _ _ _ c.as_slice-2.ensures.value c.as_slice-4.ensures.value c.as_slice-3.ensures.value c.in-Ok.ensures.ok
    (c.if-not-shows.ensures refl) c.in-Ok-write_text.ensures.0 c.clear.ensures
