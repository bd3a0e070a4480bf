-- Reading a complete input.
use Rattle.std.specs.Prelude.{◌≡◌, ◌⊎◌, ℕ, ◌+◌, ◌<◌, ◌≤◌, List, [], ◌++◌, length, take, map}
use Rattle.resp_value.specs.Data.{Datum}
use Rattle.resp_value.specs.Rules.{Rules, WithinTotal}
use Rattle.resp_value.specs.Spellings.{AreSpellings, IsSpelling, IsViable}
use Rattle.resp_value.specs.Values.{datum_of}
use Rattle.resp_value.specs.declared.value.Value.{Value}
use Rattle.resp_value.specs.declared.cause.Cause.TheVariants as cause
use Rattle.resp_scan.specs.Reading.{HasNoValue}
use Rattle.resp_scan.specs.declared.event.Fault.{Fault}
use Rattle.resp_decode.specs.Decoding.{HasTaken, LacksMemory, RefusesByte, rules_of}
use Rattle.resp_decode.specs.declared.all.AllFault.{AllFault}
use Rattle.resp_decode.specs.declared.decoder.Decoder.{Decoder}

-- the input ends inside a value of which some bytes were read
pub record EndsInside (r : Rules) (rest : List ℕ) (fault : Fault) : Type 0 where
  pub names : fault.cause ≡ cause.Truncated
  pub place : fault.at ≡ length rest
  pub begun : 0 < length rest
  pub viable : IsViable r WithinTotal rest
  pub no_value : HasNoValue rest

-- the allocation failed that stores the value at the beginning of the rest, which is complete
pub record LacksRoom (r : Rules) (rest : List ℕ) (fault : Fault) : Type 0 where
  pub names : fault.cause ≡ cause.OutOfMemory
  pub within : fault.at ≤ length rest
  pub value : Datum
  pub spelling : IsSpelling r value (take fault.at rest)

-- a byte of the rest is rejected, or the rest ends inside a value, or an allocation failed
abbrev pub RefusesRest : Rules → List ℕ → Fault → Type 0
RefusesRest r rest fault =
    RefusesByte r [] rest fault ⊎ EndsInside r rest fault ⊎ LacksMemory r [] rest fault ⊎ LacksRoom r rest fault

-- the input consists of spellings of some values, and a rest with a fault in the value after them
pub record RefusesInput (r : Rules) (bytes : List ℕ) (refusal : AllFault) : Type 0 where
  pub values : List Datum
  pub front : List ℕ
  pub rest : List ℕ
  pub spelled : AreSpellings r values front
  pub whole : bytes ≡ front ++ rest
  pub number : refusal.value ≡ length values + 1
  pub refused : RefusesRest r rest refusal.fault

-- the bytes before the rest are spellings of these values, and the decoder is between two values
pub record IsReadUpTo (r : Rules) (bytes : List ℕ) (d : Decoder) (values : List Value) (rest : List ℕ) : Type 0 where
  pub front : List ℕ
  pub spelled : AreSpellings r (map datum_of values) front
  pub whole : bytes ≡ front ++ rest
  pub takes : HasTaken d []
  pub same_rules : rules_of d ≡ r
