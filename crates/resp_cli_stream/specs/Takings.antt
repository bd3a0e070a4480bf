-- The result of giving bytes to a rendering: what it has read, and what it has written for them.
use Rattle.std.specs.Prelude.{◌≡◌, ℕ, ◌<◌, List, [], ◌++◌, length, take, flat_map, MatchBool, Option, Result, Ok, Err}
use Rattle.resp_value.specs.Data.{Datum}
use Rattle.resp_value.specs.Rules.{Rules, Rule, WithinTotal}
use Rattle.resp_value.specs.Spellings.{AreSpellings, FaultOf, IsSpelling, IsViable}
use Rattle.resp_value.specs.Causes.{cause_of}
use Rattle.resp_io.specs.Devices.{Appends}
use Rattle.resp_value.specs.declared.cause.Cause.{Cause}
use Rattle.resp_value.specs.declared.cause.Cause.TheVariants as cause
use Rattle.resp_scan.specs.Reading.{HasNoSpelling, HasNoValue}
use Rattle.resp_scan.specs.declared.event.Scanned.{Scanned}
use Rattle.resp_cli_stream.specs.declared.rendering.RenderStop.{RenderStop}
use Rattle.resp_cli_stream.specs.declared.rendering.RenderStop.TheVariants as stop

-- the bytes begin with encodings of values
pub record Begins (r : Rules) (bytes : List ℕ) : Type 0 where
  pub values : List Datum
  pub front : List ℕ
  pub rest : List ℕ
  pub spelled : AreSpellings r values front
  pub whole : bytes ≡ front ++ rest

-- this byte is the first one at which the bytes stop being viable, by the rule of this cause
pub record IsByteFault (r : Rules) (bytes : List ℕ) (c : Cause) (at : ℕ) : Type 0 where
  pub rule : Rule
  pub names : c ≡ cause_of rule
  pub fault_of : FaultOf r bytes rule at

-- the bytes end inside a value
pub record IsEndFault (r : Rules) (bytes : List ℕ) (c : Cause) (at : ℕ) : Type 0 where
  pub names : c ≡ cause.Truncated
  pub place : at ≡ length bytes
  pub begun : 0 < length bytes
  pub viable : IsViable r WithinTotal bytes

-- The bytes are an encoding of a value that is written, the rest of its text was appended, and nothing of the next
-- value was read.
pub record WritesValue (r : Rules) (text : Datum → List ℕ) (IsWritten : Datum → Type 0)
    (HasTaken : List ℕ → List ℕ → Type 0) (bytes so_far : List ℕ) (before after : Option (List ℕ)) : Type 0 where
  pub value : Datum
  pub spelling : IsSpelling r value bytes
  pub written : IsWritten value
  pub more : List ℕ
  pub appended : Appends before after more
  pub whole : text value ≡ so_far ++ more
  pub takes : HasTaken [] []

-- the bytes contain no complete value, are viable, and were read
pub record TakesUnfinished (r : Rules) (HasTaken : List ℕ → List ℕ → Type 0) (bytes so_far : List ℕ)
    (before after : Option (List ℕ)) : Type 0 where
  pub no_value : HasNoValue bytes
  pub viable : IsViable r WithinTotal bytes
  pub more : List ℕ
  pub appended : Appends before after more
  pub takes : HasTaken bytes (so_far ++ more)

-- The bytes are rejected, they do not begin with a complete value, and the text left for them was written.
pub record LeavesRefused (r : Rules) (IsFault : List ℕ → Cause → ℕ → Type 0) (IsLeft : List ℕ → List ℕ → Type 0)
    (bytes so_far : List ℕ) (before after : Option (List ℕ)) (c : Cause) (at : ℕ) : Type 0 where
  pub fault : IsFault bytes c at
  pub no_spelling : HasNoSpelling r bytes
  pub more : List ℕ
  pub appended : Appends before after more
  pub is_left : IsLeft (take at bytes) (so_far ++ more)

-- the bytes begin with an encoding of a value that is not written
pub record BeginsUnwritten (r : Rules) (IsWritten : Datum → Type 0) (bytes : List ℕ) : Type 0 where
  pub value : Datum
  pub front : List ℕ
  pub beyond : List ℕ
  pub split : bytes ≡ front ++ beyond
  pub spelling : IsSpelling r value front
  pub not_written : IsWritten value → ⊥

-- The bytes begin with some values, or none, followed by bytes for which this text may be written. The first part of
-- that text was written.
pub record WritesPart (r : Rules) (text : Datum → List ℕ) (IsBegun : List ℕ → List ℕ → Type 0) (bytes so_far : List ℕ)
    (before after : Option (List ℕ)) : Type 0 where
  pub begins : Begins r bytes
  pub begun : List ℕ
  pub is_begun : IsBegun begins.rest begun
  pub more : List ℕ
  pub later : List ℕ
  pub parts : flat_map text begins.values ++ begun ≡ so_far ++ (more ++ later)
  pub appended : Appends before after more

-- the result for a piece after the bytes read before
abbrev pub Takes : Rules → (Datum → List ℕ) → (Datum → Type 0) → (List ℕ → List ℕ → Type 0) →
    (List ℕ → List ℕ → Type 0) → (List ℕ → List ℕ → Type 0) → List ℕ → List ℕ → List ℕ → Option (List ℕ) →
    Option (List ℕ) → Result Scanned RenderStop → Type 0
Takes r text IsWritten IsLeft IsBegun HasTaken front piece so_far before after (Ok scanned) =
    MatchBool scanned.is_whole
    ((0 < scanned.used) × WritesValue r text IsWritten HasTaken (front ++ take scanned.used piece) so_far before after)
    ((scanned.used ≡ length piece) × TakesUnfinished r HasTaken (front ++ piece) so_far before after)
Takes r text IsWritten IsLeft IsBegun HasTaken front piece so_far before after (Err (stop.Fault fault)) =
    LeavesRefused r (IsByteFault r) IsLeft (front ++ piece) so_far before after fault.cause fault.at
Takes r text IsWritten IsLeft IsBegun HasTaken front piece so_far before after (Err stop.OverLimits) =
    BeginsUnwritten r IsWritten (front ++ piece) × (so_far ≡ []) × Appends before after []
Takes r text IsWritten IsLeft IsBegun HasTaken front piece so_far before after (Err e) =
    WritesPart r text IsBegun (front ++ piece) so_far before after

-- the result for the end of the input after the bytes read before
abbrev pub EndsInput : Rules → (Datum → List ℕ) → (List ℕ → List ℕ → Type 0) → (List ℕ → List ℕ → Type 0) → List ℕ →
    List ℕ → Option (List ℕ) → Option (List ℕ) → Result (Unit {0}) RenderStop → Type 0
EndsInput r text IsLeft IsBegun front so_far before after (Ok x) =
    (front ≡ []) × (so_far ≡ []) × Appends before after []
EndsInput r text IsLeft IsBegun front so_far before after (Err (stop.Fault fault)) =
    LeavesRefused r (IsEndFault r) IsLeft front so_far before after fault.cause fault.at
EndsInput r text IsLeft IsBegun front so_far before after (Err stop.OverLimits) = ⊥
EndsInput r text IsLeft IsBegun front so_far before after (Err e) = WritesPart r text IsBegun front so_far before after
