use Rattle.std.proofs.Common.{◌∙◌, ap, refl, slice_index, sym}
use Rattle.resp_capture.proofs.HeaderLemmas.{same_option}
use Rattle.resp_capture.specs.Frames.{ticks_of}
use Rattle.resp_capture.proofs.interface.ticks_in.Goals as goal

pub returns-in-Some-clause-ticks : goal.returns-in-Some-clause-ticks
returns-in-Some-clause-ticks c = λ byte has. c.ticks_of.ensures ∙ ap ticks_of
    (ap (λ bytes. slice_index bytes 0) (same_option _ _ _ _ _ _ c.in-Some.ensures.some has.1) ∙ sym has.2)

pub returns-in-Some-clause-micros : goal.returns-in-Some-clause-micros
returns-in-Some-clause-micros c = λ none. absurd (none _ (_, c.in-Some.ensures.some, refl))

pub returns-in-None-clause-ticks : goal.returns-in-None-clause-ticks
returns-in-None-clause-ticks c = λ byte has. absurd (c.in-None.ensures.none has.0 has.1)
