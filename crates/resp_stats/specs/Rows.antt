-- What is counted of the commands with one name, and of all commands.
use Rattle.std.specs.Prelude.{◌≡◌, ◌≢◌, ◌⊎◌, ℕ, ◌+◌, Bool, false, List, [], ◌∷◌, ◌++◌, length, max, min, slice_get, Option, None, Some, IsSomeAnd, if◌then◌else◌}
use Rattle.std.specs.Str.{bytes_eq}
use Rattle.resp_stats.specs.Times.{HasTimes, counted, last_count}
use Rattle.resp_stats.specs.declared.row.Call.{Call}
use Rattle.resp_stats.specs.declared.row.CommandRow.{CommandRow}

-- the delay of a call, as a histogram counts it
abbrev pub delays_of : Option ℕ → List ℕ
delays_of None = []
delays_of (Some micros) = counted micros ∷ []

-- the greater of a delay and that of a call
abbrev pub greater_delay : ℕ → Option ℕ → ℕ
greater_delay greatest None = greatest
greater_delay greatest (Some micros) = max greatest micros

-- a row with no call
pub record HasNoCall (row : CommandRow) : Type 0 where
  pub calls : row.calls ≡ 0
  pub errors : row.errors ≡ 0
  pub sent : row.sent ≡ 0
  pub received : row.received ≡ 0
  pub greatest : row.greatest ≡ 0
  pub delays : HasTimes row.delays []

-- One more call is counted: an error if the reply is one, the bytes of both, and the delay. A number stays at its greatest
-- value.
pub record AddsCall (call : Call) (old new : CommandRow) : Type 0 where
  pub name : new.name ≡ old.name
  pub calls : new.calls ≡ min (old.calls + 1) last_count
  pub errors : new.errors ≡ min (old.errors + (if call.is_error then 1 else 0)) last_count
  pub sent : new.sent ≡ min (old.sent + call.sent) last_count
  pub received : new.received ≡ min (old.received + call.received) last_count
  pub greatest : new.greatest ≡ greater_delay old.greatest call.waited
  pub delays : (times : List ℕ) → HasTimes old.delays times → HasTimes new.delays (times ++ delays_of call.waited)

-- one more call is counted in the row at this place, and the other rows stay as they are
pub record CountsCall (place : ℕ) (call : Call) (old new : List CommandRow) : Type 0 where
  pub counted : IsSomeAnd (slice_get old place) (λ before. IsSomeAnd (slice_get new place) (AddsCall call before))
  pub others : (other : ℕ) → other ≢ place → slice_get new other ≡ slice_get old other
  pub number : length new ≡ length old

-- a row of this name, with no call
abbrev pub IsNewRow : List ℕ → CommandRow → Type 0
IsNewRow name row = (row.name.text.items ≡ name) × HasNoCall row

-- the rows stay as they are, or a row of this name is added at the end
abbrev pub MayAddRow : List ℕ → List CommandRow → List CommandRow → Type 0
MayAddRow name old new = (new ≡ old) ⊎ ((row : CommandRow) × IsNewRow name row × (new ≡ old ++ row ∷ []))

-- whether a row has this name
abbrev pub row_has : List ℕ → Option CommandRow → Bool
row_has name None = false
row_has name (Some row) = bytes_eq row.name.text.items name

-- whether the row at this place has this name
abbrev pub has_name : List ℕ → List CommandRow → ℕ → Bool
has_name name rows place = row_has name (slice_get rows place)
