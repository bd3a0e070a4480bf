-- The bytes and the counts of a device, before and after a call.
use Rattle.std.specs.Prelude.{◌≡◌, ℕ, ◌+◌, ◌-◌, ◌<◌, ◌≤◌, Bool, true, false, ◌==◌, List, [], ◌++◌, length, take, drop, min, Option, None, Some, Result, Ok, Err, ◌⊎◌}
use Rattle.resp_io.specs.declared.device.DeviceFault.{DeviceFault}

-- the greatest value of a count
abbrev pub last_count : ℕ
last_count = 18446744073709551615

-- a count after this many more, which stays at its greatest value
abbrev pub count_after : ℕ → ℕ → ℕ
count_after n count = min (count + n) last_count

-- a count has risen, or is at its greatest value
abbrev pub HasRisen : ℕ → ℕ → Type 0
HasRisen before after = (before < after) ⊎ (after ≡ last_count)

-- the first bytes that were left are read: no byte only at the end, or if there is no room
pub record ReadsFront (left : List ℕ) (after : Option (List ℕ)) (into : List ℕ) (n : ℕ) : Type 0 where
  pub within : n ≤ length left
  pub bytes : take n into ≡ take n left
  pub beyond : after ≡ Some (drop n left)
  pub at_end : n ≡ 0 → 0 < length into → left ≡ []

-- the effect of a read on the bytes that a device describes, and on the room for them
abbrev pub Reads : Option (List ℕ) → Option (List ℕ) → List ℕ → Result ℕ DeviceFault → Type 0
Reads None after into result = Unit {0}
Reads (Some left) after into (Ok n) = ReadsFront left after into n
Reads (Some left) after into (Err fault) = after ≡ Some left

-- the text was appended to the bytes of a device, if the device describes its bytes
abbrev pub Appends : Option (List ℕ) → Option (List ℕ) → List ℕ → Type 0
Appends None after text = Unit {0}
Appends (Some held) after text = after ≡ Some (held ++ text)

-- the effect of a write on the bytes that a device describes
abbrev pub Writes : Option (List ℕ) → Option (List ℕ) → List ℕ → Result ℕ DeviceFault → Type 0
Writes before after from (Ok n) = Appends before after (take n from)
Writes before after from (Err fault) = Appends before after []

-- whether a read failed
abbrev pub read_fails : Result ℕ DeviceFault → Bool
read_fails (Ok n) = false
read_fails (Err fault) = true

-- whether a write failed: it returned an error, or wrote no byte
abbrev pub write_fails : Result ℕ DeviceFault → Bool
write_fails (Ok n) = n == 0
write_fails (Err fault) = true

-- a count of failures after a call that failed or succeeded
abbrev pub failures_after : Bool → ℕ → ℕ
failures_after true failures = count_after 1 failures
failures_after false failures = failures

-- the state of a source over memory
pub record SourceState : Type 0 where
  -- the bytes that have not been read
  pub left : List ℕ
  -- the greatest number of bytes in a read
  pub most : ℕ
  -- the number of bytes that may be read before reads fail, if reads fail at all
  pub sound : Option ℕ
  -- the number of reads
  pub calls : ℕ
  -- the number of reads that failed
  pub failures : ℕ

-- a number, or the limit if that is less
abbrev pub at_most : Option ℕ → ℕ → ℕ
at_most None n = n
at_most (Some limit) n = min limit n

-- a limit after this much of it was used
abbrev pub limit_after : Option ℕ → ℕ → Option ℕ
limit_after None n = None
limit_after (Some limit) n = Some (limit - n)

-- the number of bytes that a read moves into this much room
abbrev pub read_count : SourceState → ℕ → ℕ
read_count source room = at_most source.sound (min source.most (min room (length source.left)))

-- a source after a read of this many bytes
abbrev pub after_read : SourceState → ℕ → SourceState
after_read source n = record source {
  left = drop n source.left;
  sound = limit_after source.sound n;
  calls = count_after 1 source.calls;
}

-- a source after a read that failed
abbrev pub after_failed_read : SourceState → SourceState
after_failed_read source = record source {
  calls = count_after 1 source.calls;
  failures =
      count_after 1 source.failures;
}

-- the state of a sink over memory
pub record SinkState : Type 0 where
  -- the bytes that were written
  pub held : List ℕ
  -- the greatest number of bytes in a write
  pub most : ℕ
  -- the number of bytes that may be written before writes fail
  pub sound : ℕ
  -- the number of writes
  pub calls : ℕ
  -- the number of writes that failed or wrote no byte
  pub failures : ℕ

-- the number of bytes of a text that a write moves
abbrev pub write_count : SinkState → List ℕ → ℕ
write_count sink text = min sink.sound (min sink.most (length text))

-- a sink after a write of this many bytes of a text
abbrev pub after_write : SinkState → List ℕ → ℕ → SinkState
after_write sink text n = record sink {
  held = sink.held ++ take n text;
  sound = sink.sound - n;
  calls = count_after 1 sink.calls;
  failures = failures_after (n == 0) sink.failures;
}

-- a sink after a write that failed
abbrev pub after_failed_write : SinkState → SinkState
after_failed_write sink = record sink { calls = count_after 1 sink.calls; failures = count_after 1 sink.failures }

-- a reader or a writer of std, with its counts
pub record DeviceState (T : Type 0) : Type 0 where
  -- the reader or the writer
  pub inner : T
  -- the number of reads or writes
  pub calls : ℕ
  -- the number of reads that failed, or of writes that failed or wrote no byte
  pub failures : ℕ
