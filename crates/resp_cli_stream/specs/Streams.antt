-- The bytes that a call has read of its stream, and the text that it has written for them.
use Rattle.std.specs.Prelude.{◌≡◌, ◌⊎◌, ℕ, ◌+◌, ◌<◌, ◌≤◌, Bool, true, false, List, [], ◌++◌, length, take, flat_map, Option, None, Some, Result, Ok, Err, IsErrOf}
use Rattle.std.specs.List.{AllByRecursion}
use Rattle.resp_value.specs.Data.{Datum}
use Rattle.resp_value.specs.Rules.{Rules}
use Rattle.resp_value.specs.Spellings.{Cut}
use Rattle.resp_io.specs.Devices.{Appends, count_after, failures_after}
use Rattle.resp_value.specs.declared.cause.Cause.{Cause}
use Rattle.resp_value.specs.declared.cause.Cause.TheVariants as cause
use Rattle.resp_cli_stream.specs.Takings.{Begins, BeginsUnwritten, IsByteFault, IsEndFault, WritesPart}
use Rattle.resp_cli_stream.specs.declared.stream.Totals.{Totals}
use Rattle.resp_cli_args.specs.declared.tool_error.ToolError.{ToolError}
use Rattle.resp_cli_args.specs.declared.tool_error.ToolError.TheVariants.{Refused, OverLimits, TooManyValues, Read, Write, TooManyTurns}

-- these bytes were read from the remaining input, if the reader states it
abbrev pub AreRead : Option (List ℕ) → Option (List ℕ) → List ℕ → Type 0
AreRead None after bytes = Unit {0}
AreRead (Some left) after bytes = (rest : List ℕ) × (after ≡ Some rest) × (left ≡ bytes ++ rest)

-- the most values of one run
abbrev pub most_values : ℕ
most_values = 1000000000

-- whether a call ended with an error that passes this test
abbrev pub stopped_by : {X : Type 0} → (ToolError → Bool) → Result X ToolError → Bool
stopped_by test (Ok x) = false
stopped_by test (Err error) = test error

-- whether the error is a failed read
abbrev pub is_of_reader : ToolError → Bool
is_of_reader Read = true
is_of_reader _ = false

-- How a call used its reader: it made at most this many reads, exactly this many if the result is that error, and a
-- read failed if the result is that error. The counts of reads and failed reads are those before and after the call.
pub record UsesReader {X : Type 0} (most : ℕ) (result : Result X ToolError) (calls calls' failures failures' : ℕ) :
    Type 0 where
  pub bounded : calls' ≤ calls + most
  pub used_up : IsErrOf result TooManyTurns → calls' ≡ count_after most calls
  pub failed : failures' ≡ failures_after (stopped_by is_of_reader result) failures

-- whether the error is a failed write
abbrev pub is_of_writer : ToolError → Bool
is_of_writer Write = true
is_of_writer _ = false

-- whether a call ended with that error
abbrev pub failed_to_write : {X : Type 0} → Result X ToolError → Bool
failed_to_write result = stopped_by is_of_writer result

-- The bytes are a sequence of values that are written, at most as many as one run allows, and their texts were appended
-- in order.
pub record RendersAll (r : Rules) (text : Datum → List ℕ) (IsWritten : Datum → Type 0) (bytes : List ℕ)
    (before after : Option (List ℕ)) (values : List Datum) : Type 0 where
  pub cut : Cut r bytes values []
  pub few : length values ≤ most_values
  pub all_written : AllByRecursion IsWritten values
  pub appended : Appends before after (flat_map text values)

-- The bytes are the values before the one with this number, and a rest with this error. The texts of these values were
-- appended, and the text left for the rest.
pub record RendersFront (r : Rules) (text : Datum → List ℕ) (IsWritten : Datum → Type 0)
    (IsLeft : List ℕ → List ℕ → Type 0) (bytes : List ℕ) (before after : Option (List ℕ)) (number : ℕ) (c : Cause)
    (at : ℕ) : Type 0 where
  pub values : List Datum
  pub rest : List ℕ
  pub cut : Cut r bytes values rest
  pub counted : length values + 1 ≡ number
  pub fault : IsByteFault r rest c at ⊎ IsEndFault r rest c at
  pub all_written : AllByRecursion IsWritten values
  pub left : List ℕ
  pub is_left : IsLeft (take at rest) left
  pub appended : Appends before after (flat_map text values ++ left)

-- The bytes begin with the values up to the one with this number, which is not written. The texts of the values before
-- it were appended.
pub record RendersUpTo (r : Rules) (text : Datum → List ℕ) (IsWritten : Datum → Type 0) (bytes : List ℕ)
    (before after : Option (List ℕ)) (number : ℕ) : Type 0 where
  pub begins : Begins r bytes
  pub counted : length begins.values + 1 ≡ number
  pub all_written : AllByRecursion IsWritten begins.values
  pub unwritten : BeginsUnwritten r IsWritten begins.rest
  pub appended : Appends before after (flat_map text begins.values)

-- the bytes are more than the most values of one run, and the texts of these values were appended
pub record RendersMost (r : Rules) (text : Datum → List ℕ) (IsWritten : Datum → Type 0) (bytes : List ℕ)
    (before after : Option (List ℕ)) : Type 0 where
  pub begins : Begins r bytes
  pub some_rest : 0 < length begins.rest
  pub counted : length begins.values ≡ most_values
  pub all_written : AllByRecursion IsWritten begins.values
  pub appended : Appends before after (flat_map text begins.values)

-- the text that was written for the bytes that were read, if the call ends with this error
abbrev pub RendersStopped : Rules → (Datum → List ℕ) → (Datum → Type 0) → (List ℕ → List ℕ → Type 0) →
    (List ℕ → List ℕ → Type 0) → List ℕ → Option (List ℕ) → Option (List ℕ) → ToolError → Type 0
RendersStopped r text IsWritten IsLeft IsBegun bytes before after (Refused number c at) =
    RendersFront r text IsWritten IsLeft bytes before after number c at
RendersStopped r text IsWritten IsLeft IsBegun bytes before after (OverLimits number) =
    RendersUpTo r text IsWritten bytes before after number
RendersStopped r text IsWritten IsLeft IsBegun bytes before after TooManyValues =
    RendersMost r text IsWritten bytes before after
RendersStopped r text IsWritten IsLeft IsBegun bytes before after e = WritesPart r text IsBegun bytes [] before after

-- a fact about the end of the input: the call has read it to its end
abbrev pub AtEnd : {X : Type 0} → Result X ToolError → Type 0 → Type 0
AtEnd (Ok x) P = P
AtEnd (Err (Refused number cause.Truncated at)) P = P
AtEnd (Err e) P = Unit {0}

-- The text that was written for the bytes so far: the texts of the values in them, and the text for the bytes of the
-- next value. After the most values of one run there are no such bytes.
pub record HasRendered (r : Rules) (text : Datum → List ℕ) (IsWritten : Datum → Type 0)
    (HasTaken : List ℕ → List ℕ → Type 0) (bytes : List ℕ) (before after : Option (List ℕ)) (number : ℕ) : Type 0 where
  pub begins : Begins r bytes
  pub so_far : List ℕ
  pub counted : length begins.values ≡ number
  pub all_written : AllByRecursion IsWritten begins.values
  pub takes : HasTaken begins.rest so_far
  pub appended : Appends before after (flat_map text begins.values ++ so_far)
  pub at_most : number ≡ most_values → so_far ≡ []

-- the text that was written for a stream whose bytes were read, and their counts at its end
pub record RendersCounted (r : Rules) (text : Datum → List ℕ) (IsWritten : Datum → Type 0) (bytes : List ℕ)
    (before after : Option (List ℕ)) (totals : Totals) : Type 0 where
  pub values : List Datum
  pub all : RendersAll r text IsWritten bytes before after values
  pub value_count : totals.values ≡ length values
  pub byte_count : totals.bytes ≡ length bytes

abbrev pub RendersStream : Rules → (Datum → List ℕ) → (Datum → Type 0) → (List ℕ → List ℕ → Type 0) →
    (List ℕ → List ℕ → Type 0) → List ℕ → Option (List ℕ) → Option (List ℕ) → Result Totals ToolError → Type 0
RendersStream r text IsWritten IsLeft IsBegun bytes before after (Ok totals) =
    RendersCounted r text IsWritten bytes before after totals
RendersStream r text IsWritten IsLeft IsBegun bytes before after (Err e) =
    RendersStopped r text IsWritten IsLeft IsBegun bytes before after e

-- an error before the end of the input
abbrev pub IsBeforeEnd : ToolError → Type 0
IsBeforeEnd (Refused number cause.Truncated at) = ⊥
IsBeforeEnd _ = Unit {0}

-- an error that is not caused by reading
abbrev pub IsRenderingError : ToolError → Type 0
IsRenderingError Read = ⊥
IsRenderingError TooManyTurns = ⊥
IsRenderingError _ = Unit {0}

-- an error of a call that encodes nothing
abbrev pub IsNeverOver : ToolError → Type 0
IsNeverOver (OverLimits number) = ⊥
IsNeverOver _ = Unit {0}

-- the text that was written for the bytes that were read, depending on how the call ended
abbrev pub Renders : Rules → (Datum → List ℕ) → (Datum → Type 0) → (List ℕ → List ℕ → Type 0) →
    (List ℕ → List ℕ → Type 0) → List ℕ → Option (List ℕ) → Option (List ℕ) → Result (Unit {0}) ToolError → Type 0
Renders r text IsWritten IsLeft IsBegun bytes before after (Ok x) =
    (values : List Datum) × RendersAll r text IsWritten bytes before after values
Renders r text IsWritten IsLeft IsBegun bytes before after (Err e) =
    RendersStopped r text IsWritten IsLeft IsBegun bytes before after e
