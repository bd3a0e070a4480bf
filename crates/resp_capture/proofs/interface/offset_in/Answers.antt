use Rattle.std.proofs.Common.{rules, ◌≡◌, ◌∙◌, ap, refl, sym}
use Rattle.std.specs.Int.{cast_signed, w64}
use Rattle.std.proofs.lemmas.Int.{ints, to_z-of_z}
use Rattle.resp_capture.proofs.HeaderLemmas.{same_option}
use Rattle.resp_capture.specs.Numbers.{number64}
use Rattle.resp_capture.proofs.interface.offset_in.Goals as goal

pub returns-in-Some-clause-offset : goal.returns-in-Some-clause-offset
returns-in-Some-clause-offset c = λ offset has.
    let read : c.cast_signed.result ≡ cast_signed w64 c.number64.result = search (rules, ints) in
    let same = ap (λ bytes. cast_signed w64 (number64 c.args.order 0 bytes)) (same_option _ _ _ _ _ _ c.in-Some.ensures.some has.1) in
    let back = to_z-of_z w64 c.cast_signed.result (search rules) in
    back ∙ read ∙ ap (cast_signed w64) c.number64.ensures ∙ same ∙ sym has.2

pub returns-in-Some-clause-none : goal.returns-in-Some-clause-none
returns-in-Some-clause-none c = λ none. absurd (none _ (_, c.in-Some.ensures.some, refl))

pub returns-in-None-clause-offset : goal.returns-in-None-clause-offset
returns-in-None-clause-offset c = λ offset has. absurd (c.in-None.ensures.none has.0 has.1)
