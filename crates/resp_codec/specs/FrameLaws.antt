-- The next item if more bytes follow, or if some bytes were read before.
use Rattle.std.proofs.Common.{◌≡◌, inl, inr, ℕ, List, ◌++◌, length, take, refl, sym, ap, subst, ◌∙◌, append_assoc, take_at}
use Rattle.std.proofs.Math.Logic.{∥∥₁_elim}
use Rattle.resp_value.specs.Data.{Datum}
use Rattle.resp_value.specs.Trees.{Spells}
use Rattle.resp_scan.specs.Machine.Standing.{StandsAfterAt}
use Rattle.resp_scan.specs.declared.event.Fault.{Fault}
use Rattle.resp_decode.specs.Decoding.{HasTaken, WhereTaken, rules_of}
use Rattle.resp_decode.specs.Hearing.{HasHeard, HoldsNothing}
use Rattle.resp_decode.specs.Standing.{TakesOrStands}
use Rattle.resp_decode.specs.declared.decoder.Decoder.{Decoder}
use Rattle.resp_codec.specs.Frames.{ValueEnds, IsBegun, IsReading, RefusesBuffer}

-- no front was read if there is a fault
pub taken_is_reading : (d : Decoder) (front : List ℕ) → HasTaken d front → IsReading d
taken_is_reading d front w fault stands =
    let inside = subst (λ token. StandsAfterAt (rules_of d) token d.scanner.frames front w.given) stands.0.0
    w.reads.stands in
    inside.took

-- a decoder without a fault has read some front, which its value does not show
pub some_front : (d : Decoder) → IsReading d → WhereTaken d (λ front. ⊥) → ⊥
some_front d reading none = ∥∥₁_elim d.reading (λ a b. absurd a) of
  where
    of : TakesOrStands (HasHeard d.held) (HoldsNothing d.held) d.scanner → ⊥
    of (inl (front, w)) = none front w
    of (inr (fault, stands)) = reading fault stands

-- a value cannot both end in a buffer and not end in it
pub not_both : (d : Decoder) (buffer : List ℕ) (x : Datum) (after : Decoder) (left : List ℕ) → IsBegun d buffer →
    ValueEnds d buffer x after left → ⊥
not_both d buffer x after left b v = some_front d b.reading (λ front taken.
    let s = v.spelling front taken in
    let n = length (front ++ v.used) in
    let text : front ++ buffer ≡ (front ++ v.used) ++ left =
    ap (λ z. front ++ z) v.whole ∙ sym (append_assoc front v.used left) in
    let cut : take n (front ++ buffer) ≡ front ++ v.used =
    ap (take n) text ∙ take_at (front ++ v.used) left n refl in
    b.no_value front taken n s.tree (subst (Spells s.tree) (sym cut) s.spells))

-- More bytes after the buffer.

pub value_before : (d : Decoder) (buffer : List ℕ) (x : Datum) (after : Decoder) (left more : List ℕ) →
    ValueEnds d buffer x after left → ValueEnds d (buffer ++ more) x after (left ++ more)
value_before d buffer x after left more v = record {
  reading = v.reading;
  used = v.used;
  whole = ap (λ z. z ++ more) v.whole ∙ append_assoc v.used left more;
  spelling = v.spelling;
  takes = v.takes;
}

pub refusal_before : (d : Decoder) (buffer : List ℕ) (fault : Fault) (after : Decoder) (left more : List ℕ) →
    RefusesBuffer d buffer fault after left → RefusesBuffer d (buffer ++ more) fault after (left ++ more)
refusal_before d buffer fault after left more w = record {
  seen = w.seen;
  beyond = w.beyond ++ more;
  begins = ap (λ z. z ++ more) w.begins ∙ append_assoc w.seen w.beyond more;
  refused = w.refused;
  answered_again = w.answered_again;
  stands = w.stands;
  dropped = w.dropped;
  ends = ap (λ z. z ++ more) w.ends ∙ append_assoc w.dropped left more;
}
