-- What a piece that was fed leaves of a buffer.
use Rattle.std.proofs.Common.{◌≡◌, ℕ, List, [], ◌++◌, length, take, drop, Option, Some, None, IfSome, IfNone, refl, sym, ap, subst, ◌∙◌, arith}
use Rattle.std.proofs.lemmas.List.{append-nil, take-append-drop, drop_all}
use Rattle.resp_value.specs.Rules.{WithinTotal}
use Rattle.resp_value.specs.Spellings.{IsViable}
use Rattle.resp_value.specs.Values.{datum_of}
use Rattle.resp_value.specs.declared.value.Value.{Value}
use Rattle.resp_scan.specs.Reading.{HasNoValue}
use Rattle.resp_decode.specs.Decoding.{GivesValue, HasTaken, TakesPiece, WhereTaken, rules_of}
use Rattle.resp_decode.specs.declared.decoder.Decoder.{Decoder}
use Rattle.resp_codec.specs.Frames.{ValueEnds, IsReading, TakesPart}
use Rattle.resp_codec.specs.FrameLaws.{some_front, taken_is_reading}

pub if_some : {A : Type 0} (next : Option A) (P : A → Type 0) → ((x : A) → next ≡ Some x → P x) → IfSome next P
if_some None P h = tt
if_some (Some x) P h = h x refl

pub if_none : {A : Type 0} (next : Option A) (P : Type 0) → (next ≡ None → P) → IfNone next P
if_none None P h = h refl
if_none (Some x) P h = tt

-- a value that has ended
pub value_ends : (d after : Decoder) (buffer left : List ℕ) (used : ℕ) (value : Value) → IsReading d →
    WhereTaken d (λ front. GivesValue (rules_of d) after (front ++ take used buffer) value) → left ≡ drop used buffer →
    ValueEnds d buffer (datum_of value) after left
value_ends d after buffer left used value reading given is = record {
  reading = reading;
  used = take used buffer;
  whole = sym (take-append-drop used buffer) ∙ ap (λ z. take used buffer ++ z) (sym is);
  spelling = λ front taken. (given front taken).spelling;
  takes = λ front taken. (given front taken).takes;
}

-- a buffer in which none has ended
pub buffer_taken : (d after : Decoder) (buffer left : List ℕ) (used : ℕ) → IsReading d →
    WhereTaken d (λ front. TakesPiece (rules_of d) (HasTaken after) (front ++ buffer) buffer used) → used ≡ length buffer →
    WhereTaken after (IsViable (rules_of after) WithinTotal) → left ≡ drop used buffer → TakesPart d buffer after left
buffer_taken d after buffer left used reading given whole viable is =
    let none : left ≡ [] = is ∙ drop_all used buffer (omega (arith, whole)) in
    record {
      reading = reading;
      takes_all = record { none_left = none; takes = λ front taken. (given front taken).takes };
      begun = record {
        reading = λ fault stands. some_front d reading (λ front taken. taken_is_reading after (front ++ buffer) (given front taken).takes fault stands);
        no_value = λ front taken. subst (λ z. HasNoValue (front ++ z)) (sym none) (subst HasNoValue (sym (append-nil front)) taken.no_value);
        viable = λ front taken. subst (λ z. IsViable (rules_of after) WithinTotal (front ++ z)) (sym none)
            (subst (IsViable (rules_of after) WithinTotal) (sym (append-nil front)) (viable front taken));
      };
    }
