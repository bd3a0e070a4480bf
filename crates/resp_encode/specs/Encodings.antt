-- The contracts of the functions that encode.
use Rattle.std.specs.Prelude.{◌≡◌, ◌≢◌, ℕ, ◌+◌, ◌<◌, ◌≤◌, List, [], ◌∷◌, ◌++◌, length, take, Option, Result, OnOk, OnErr, IfErr, IsErrOf}
use Rattle.bytes.specs.Filled.{Filled, UsesSpare}
use Rattle.resp_value.specs.Bytes.{crlf}
use Rattle.resp_value.specs.Data.{Datum, Kind}
use Rattle.resp_value.specs.Numbers.{decimal}
use Rattle.resp_value.specs.Rules.{Rules}
use Rattle.resp_value.specs.Spellings.{IsSpelling}
use Rattle.resp_value.specs.Canonical.{canonical_text, Fits}
use Rattle.resp_io.specs.Devices.{Appends, count_after}
use Rattle.resp_value.specs.Trees.{kind_byte}
use Rattle.resp_encode.specs.Refusals.{IsFirstFault}
use Rattle.resp_encode.specs.declared.error.EncodeError.{EncodeError}
use Rattle.resp_encode.specs.declared.error.EncodeError.TheVariants.{OutOfMemory}

-- the value is accepted if it has no fault, and rejected with its first fault otherwise, apart from `OutOfMemory`
pub record IsVerdict {T : Type 0} (rules : Rules) (x : Datum) (result : Result T EncodeError) : Type 0 where
  -- a value that is accepted fits the version and the limits
  pub fits : OnOk result (Fits rules x)
  -- its canonical text is a spelling of it under the rules
  pub spelling : OnOk result (IsSpelling rules x (canonical_text rules.version x))
  -- an error names a fault that the value has, and the value has no earlier fault
  pub first_fault : IfErr result (IsFirstFault rules x)
  -- a value that has a fault is always rejected with its first fault
  pub every_fault : (error : EncodeError) → error ≢ OutOfMemory → IsFirstFault rules x error → IsErrOf result error

-- the text is appended to a buffer, or the buffer is unchanged
pub record AppendsWhole (old new : Filled) (text : List ℕ) (result : Result (Unit {0}) EncodeError) : Type 0 where
  -- after success the text follows the earlier bytes of the buffer
  pub appended : OnOk result (new.items ≡ old.items ++ text)
  -- after an error the buffer has its earlier bytes
  pub unchanged : OnErr result (new.items ≡ old.items)
  -- out of memory only if the spare room does not hold the text
  pub memory : IsErrOf result OutOfMemory → old.spare < length text
  -- the text uses at most its length of the spare room
  pub spare_left : OnOk result (old.spare ≤ new.spare + length text)
  -- an error uses no spare room
  pub spare_kept : OnErr result (old.spare ≤ new.spare)

-- the text is appended; or the buffer, whose spare room does not hold it, has its earlier bytes
pub record AppendsText {E : Type 0} (old new : Filled) (text : List ℕ) (result : Result (Unit {0}) E) : Type 0 where
  pub appended : OnOk result (new.items ≡ old.items ++ text)
  pub unchanged : OnErr result (new.items ≡ old.items)
  pub spare : UsesSpare result old.spare new.spare (length text)

-- the head of an aggregate of this kind, with this number
abbrev pub head_text : Kind → ℕ → List ℕ
head_text kind number = kind_byte kind ∷ decimal number ++ crlf []

-- a text of this length was written completely to a device with these bytes and failures before and after
pub record WritesWhole (held held' : Option (List ℕ)) (failures failures' : ℕ) (text : List ℕ) (written : ℕ) : Type 0
  where
    pub full_length : written ≡ length text
    pub appended : Appends held held' text
    pub none_failed : failures' ≡ failures

-- one write failed when this many bytes were written, which are the first bytes of the text but not all of it
pub record WritesPart (held held' : Option (List ℕ)) (failures failures' : ℕ) (text : List ℕ) (written : ℕ) : Type 0
  where
    pub not_whole : written < length text
    pub appended : Appends held held' (take written text)
    pub failure_counted : failures' ≡ count_after 1 failures
