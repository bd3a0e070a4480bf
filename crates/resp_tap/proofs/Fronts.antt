-- The bytes that a side has sent of a value, after a call.
use Rattle.std.proofs.Common.{◌≡◌, ℕ, List, [], ◌++◌, take, Option, None, Some, Box, Global, refl, sym, subst}
use Rattle.std.specs.Prelude.{MatchOption}
use Rattle.resp_value.specs.declared.cut_value.CutValue.{CutValue}
use Rattle.resp_value.specs.Rules.{Rules}
use Rattle.resp_decode.specs.CutDecoding.{GivesCut, HasTaken}
use Rattle.resp_decode.specs.Decoding.{TakesPiece}
use Rattle.resp_decode.specs.declared.cut_decoder.CutDecoder.{CutDecoder}

-- the bytes that were read of a value, if there may be no decoder
abbrev pub HasFront : Option (Box CutDecoder Global) → List ℕ → Type 0
HasFront decoder front = MatchOption decoder (front ≡ []) (λ decoder. HasTaken decoder.value front)

-- after a piece without an error
pub front_after : (r : Rules) (shown : ℕ) (new : Box CutDecoder Global) (kept : Option (Box CutDecoder Global)) (front piece : List ℕ) (used : ℕ) (fed : Option CutValue) →
    ((x : CutValue) → fed ≡ Some x → GivesCut r shown new.value (front ++ take used piece) x) →
    (fed ≡ None → TakesPiece r (HasTaken new.value) (front ++ piece) piece used) → (HasTaken new.value [] → HasFront kept []) →
    (fed ≡ None → kept ≡ Some new) → (front : List ℕ) × HasFront kept front
front_after r shown new kept front piece used (Some x) whole up between inside = ([], between (whole x refl).takes)
front_after r shown new kept front piece used None whole up between inside =
    (front ++ piece, subst (λ k. HasFront k (front ++ piece)) (sym (inside refl)) (up refl).takes)
