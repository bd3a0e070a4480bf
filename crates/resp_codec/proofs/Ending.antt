-- What a decoder says of the end of an input, and of a change of version.
use Rattle.std.proofs.Common.{◌≡◌, ℕ, List, [], length, Result, Ok, Err, IsErr, refl, sym, ap, ◌∙◌}
use Rattle.std.specs.Prelude.{IsOk, IfErr, ◌↔◌}
use Rattle.std.proofs.lemmas.List.{append-nil}
use Rattle.resp_value.specs.declared.cause.Cause.TheVariants as cause
use Rattle.resp_scan.specs.declared.event.Fault.{Fault}
use Rattle.resp_decode.specs.Decoding.{WhereTaken}
use Rattle.resp_decode.specs.declared.decoder.Decoder.{Decoder}
use Rattle.resp_codec.specs.Frames.{EndsBetween, EndsInsideValue}

-- between two values
pub is_between : (d : Decoder) (ended : Result (Unit {0}) Fault) → ended ≡ Ok tt → WhereTaken d (λ front. IsOk ended ↔ (front ≡ [])) → EndsBetween d []
is_between d (Err fault) is only = cc
is_between d (Ok u) is only = λ front taken. append-nil front ∙ (only front taken).0 refl

-- inside a value
pub is_inside : (d : Decoder) (ended : Result (Unit {0}) Fault) (fault : Fault) → ended ≡ Err fault → WhereTaken d (λ front. IsOk ended ↔ (front ≡ [])) →
    WhereTaken d (λ front. IfErr ended (λ f. let z : Fault = f in (z.cause ≡ cause.Truncated) × (z.at ≡ length front))) → EndsInsideValue d [] fault
is_inside d (Ok u) fault is only truncated = cc
is_inside d (Err other) fault is only truncated =
    let same : other ≡ fault = cc in
    λ front taken. record {
      names = ap (λ f. let z : Fault = f in z.cause) (sym same) ∙ (truncated front taken).0;
      place = ap (λ f. let z : Fault = f in z.at) (sym same) ∙ (truncated front taken).1 ∙ ap length (sym (append-nil front));
      begun = λ none. let wrong = (only front taken).1 (sym (append-nil front) ∙ none) in cc;
    }

-- a refusal to change the version says that a value was begun
pub refused_inside : {A B E : Type 0} (refused : Result A B) (answer : Result A E) (front : List ℕ) → IsErr refused → IsErr answer →
    IsOk refused ↔ (front ≡ []) → IsOk answer ↔ (front ≡ [])
refused_inside (Ok x) answer front bad is only = cc
refused_inside (Err e) (Ok x) front bad is only = cc
refused_inside (Err e) (Err f) front bad is only = (λ ok. cc, λ none. let wrong = only.1 none in cc)
