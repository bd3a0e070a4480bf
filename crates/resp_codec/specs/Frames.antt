-- The next item of the bytes of a buffer, after the bytes that a decoder has read of a value.
use Rattle.std.specs.Prelude.{◌≡◌, ◌⊎◌, ℕ, List, [], ◌++◌, length}
use Rattle.resp_value.specs.Data.{Datum}
use Rattle.resp_value.specs.Rules.{WithinTotal}
use Rattle.resp_value.specs.Spellings.{IsSpelling, IsViable}
use Rattle.resp_value.specs.declared.cause.Cause.TheVariants as cause
use Rattle.resp_scan.specs.Reading.{HasNoValue}
use Rattle.resp_scan.specs.declared.event.Fault.{Fault}
use Rattle.resp_decode.specs.Decoding.{HasFault, HasTaken, LacksMemory, RefusesByte, WhereTaken, rules_of}
use Rattle.resp_decode.specs.declared.decoder.Decoder.{Decoder}

-- there is no fault, so some front was read
abbrev pub IsReading : Decoder → Type 0
IsReading d = (fault : Fault) → HasFault d fault → ⊥

-- a value ends in the buffer: the bytes read before and the bytes used are together a spelling of it, and no byte of
-- the next value was read
pub record ValueEnds (d : Decoder) (buffer : List ℕ) (x : Datum) (after : Decoder) (left : List ℕ) : Type 0 where
  pub reading : IsReading d
  pub used : List ℕ
  pub whole : buffer ≡ used ++ left
  pub spelling : WhereTaken d (λ front. IsSpelling (rules_of d) x (front ++ used))
  pub takes : WhereTaken d (λ front. HasTaken after [])

-- no value ends in the buffer, and the bytes are viable within the rules
pub record IsBegun (d : Decoder) (buffer : List ℕ) : Type 0 where
  pub reading : IsReading d
  pub no_value : WhereTaken d (λ front. HasNoValue (front ++ buffer))
  pub viable : WhereTaken d (λ front. IsViable (rules_of d) WithinTotal (front ++ buffer))

-- the whole buffer was read
pub record TakesAll (d : Decoder) (buffer : List ℕ) (after : Decoder) (left : List ℕ) : Type 0 where
  pub none_left : left ≡ []
  pub takes : WhereTaken d (λ front. HasTaken after (front ++ buffer))

-- no value ends in the buffer, which was read
pub record TakesPart (d : Decoder) (buffer : List ℕ) (after : Decoder) (left : List ℕ) : Type 0 where
  pub reading : IsReading d
  pub takes_all : TakesAll d buffer after left
  pub begun : IsBegun after left

-- A byte within the first bytes of the buffer is rejected, the first that cannot follow the bytes before it, or an
-- allocation failed. An earlier fault is returned again. There is a fault from then on, and the bytes left are the last
-- bytes of the buffer.
pub record RefusesBuffer (d : Decoder) (buffer : List ℕ) (fault : Fault) (after : Decoder) (left : List ℕ) :
    Type 0 where
  pub seen : List ℕ
  pub beyond : List ℕ
  pub begins : buffer ≡ seen ++ beyond
  pub refused : WhereTaken d (λ front.
      RefusesByte (rules_of d) front seen fault ⊎ LacksMemory (rules_of d) front seen fault)
  pub answered_again : (standing : Fault) → HasFault d standing → fault ≡ standing
  pub stands : HasFault after fault
  pub dropped : List ℕ
  pub ends : buffer ≡ dropped ++ left

-- the input ends between two values
abbrev pub EndsBetween : Decoder → List ℕ → Type 0
EndsBetween d buffer = WhereTaken d (λ front. front ++ buffer ≡ [])

-- an input that ends after this part of a value
pub record IsTruncated (part : List ℕ) (fault : Fault) : Type 0 where
  pub names : fault.cause ≡ cause.Truncated
  pub place : fault.at ≡ length part
  pub begun : part ≡ [] → ⊥

-- the input ends inside a value
abbrev pub EndsInsideValue : Decoder → List ℕ → Fault → Type 0
EndsInsideValue d buffer fault = WhereTaken d (λ front. IsTruncated (front ++ buffer) fault)
