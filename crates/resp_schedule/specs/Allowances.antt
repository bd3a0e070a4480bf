-- How many events of one kind are told in a second.
use Rattle.std.specs.Prelude.{◌≡◌, ◌≤◌, ◌<◌, ◌+◌, ◌-◌, ◌⊎◌, ℕ, Option, None, Some, true, false, Bool, min}
use Rattle.std.specs.Duration.{as_nanos, max_nanos}
use Rattle.std.specs.declared.time.Duration.{Duration}
use Rattle.resp_schedule.specs.declared.allowance.Allowance.{Allowance}

-- when the present second ends, in nanoseconds
abbrev pub end_of : Allowance → ℕ
end_of a = min (as_nanos a.since + 1000000000) max_nanos

-- the present second is over
abbrev pub HasPassed : Allowance → Duration → Type 0
HasPassed a now = end_of a ≤ as_nanos now

-- the present second is over and some event is ever allowed, or fewer than the most were allowed in it
abbrev pub IsAllowed : Allowance → Duration → Type 0
IsAllowed a now = (HasPassed a now × (0 < a.most)) ⊎ (a.count < a.most)

-- one more event was allowed, the first of a second if the one before it was over
pub record Allows (old : Allowance) (now : Duration) (new : Allowance) : Type 0 where
  pub first : HasPassed old now → (new.since ≡ now) × (new.count ≡ 1)
  pub further : (HasPassed old now → ⊥) → (new.since ≡ old.since) × (new.count ≡ old.count + 1)
  pub same : (new.most ≡ old.most) × (new.left_out ≡ old.left_out)

-- one more event was left out
pub record LeavesOut (old new : Allowance) : Type 0 where
  pub one_more : new.left_out ≡ min (old.left_out + 1) 18446744073709551615
  pub same : new.most ≡ old.most

-- this many events are told, if the present second is over, and forgotten
pub record Tells (old : Allowance) (now : Duration) (told : ℕ) (new : Allowance) : Type 0 where
  pub over : HasPassed old now → (told ≡ old.left_out) × (new ≡ record old { left_out = 0 })
  pub early : (HasPassed old now → ⊥) → (told ≡ 0) × (new ≡ old)

-- the time until the events that were left out are told, in nanoseconds, if there are some
abbrev pub told_after : Duration → Allowance → Option ℕ → Type 0
told_after now a None = a.left_out ≡ 0
told_after now a (Some time) = (0 < a.left_out) × (time ≡ end_of a - as_nanos now)
