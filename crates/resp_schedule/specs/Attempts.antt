-- When a connection to a server is tried again, and when it is given up.
use Rattle.std.specs.Prelude.{◌≡◌, ◌≤◌, ◌<◌, ◌+◌, ◌-◌, ◌*◌, ◌⊎◌, ℕ, Bool, true, false, max, min, Option, None, Some}
use Rattle.std.specs.Duration.{as_nanos, max_nanos}
use Rattle.std.specs.declared.time.Duration.{Duration}
use Rattle.resp_schedule.specs.declared.attempts.Attempts.{Attempts}
use Rattle.resp_schedule.specs.declared.attempts.Phase.{Phase}
use Rattle.resp_schedule.specs.declared.attempts.Phase.TheVariants.{Down, Begun, Open}
use Rattle.resp_schedule.specs.declared.attempts.Quiet.{Quiet}

abbrev pub IsDownIn : Phase → Type 0
IsDownIn (Down until) = Unit {0}
IsDownIn _ = ⊥

-- there is no connection, and none was begun
abbrev pub IsDown : Attempts → Type 0
IsDown a = IsDownIn a.phase

abbrev pub IsOpenIn : Phase → Type 0
IsOpenIn (Open quiet) = Unit {0}
IsOpenIn _ = ⊥

abbrev pub IsOpen : Attempts → Type 0
IsOpen a = IsOpenIn a.phase

abbrev pub MayBeginAt : ℕ → Phase → Type 0
MayBeginAt now (Down until) = as_nanos until ≤ now
MayBeginAt now _ = ⊥

-- there is no connection, and the pause is over
abbrev pub MayBegin : Attempts → Type 0
MayBegin a = MayBeginAt (as_nanos a.time) a.phase

abbrev pub IsBegunSince : Duration → Phase → Type 0
IsBegunSince now (Begun since) = since ≡ now
IsBegunSince now _ = ⊥

-- the connection is open, no command waited before and no reply came over it
abbrev pub IsOpenSince : Duration → Phase → Type 0
IsOpenSince now (Open quiet) = (quiet.since ≡ now) × (quiet.has_replied ≡ false) × (quiet.replied ≡ false) × (quiet.waited ≡ false)
IsOpenSince now _ = ⊥

abbrev pub IsLateAt : ℕ → ℕ → Phase → Type 0
IsLateAt now patience (Begun since) = patience < now - as_nanos since
IsLateAt now patience _ = ⊥

-- a connection was begun, and more time than the patience has passed
abbrev pub IsLate : Attempts → Type 0
IsLate a = IsLateAt (as_nanos a.time) (as_nanos a.patience) a.phase

abbrev pub IsSilentAt : ℕ → ℕ → Phase → Type 0
IsSilentAt now patience (Open quiet) = patience < now - as_nanos quiet.since
IsSilentAt now patience _ = ⊥

-- an open connection has been quiet for longer than the patience
abbrev pub IsSilent : Attempts → Type 0
IsSilent a = IsSilentAt (as_nanos a.time) (as_nanos a.patience) a.phase

-- a reply has come since the last look at the time
abbrev pub HasJustReplied : Phase → Type 0
HasJustReplied (Open quiet) = quiet.replied ≡ true
HasJustReplied _ = ⊥

-- no command waited at the last look at the time
abbrev pub HasNotWaited : Phase → Type 0
HasNotWaited (Open quiet) = quiet.waited ≡ false
HasNotWaited _ = ⊥

-- replies of an open connection were noted
abbrev pub HasReplies : Phase → Phase → Type 0
HasReplies (Open quiet) after = after ≡ Open (record quiet { has_replied = true; replied = true })
HasReplies before after = after ≡ before

-- the time was looked at: quiet begins anew if a reply had come or no command had waited
pub record HasLookedAt (waits : Bool) (now : Duration) (before after : Quiet) : Type 0 where
  pub anew : (before.replied ≡ true) ⊎ (before.waited ≡ false) → after.since ≡ now
  pub longer : before.replied ≡ false → before.waited ≡ true → after.since ≡ before.since
  pub has_replied : after.has_replied ≡ before.has_replied
  pub replied : after.replied ≡ false
  pub waited : after.waited ≡ waits

abbrev pub HasLooked : Bool → Duration → Phase → Phase → Type 0
HasLooked waits now (Open before) (Open after) = HasLookedAt waits now before after
HasLooked waits now (Open before) _ = ⊥
HasLooked waits now before after = after ≡ before

-- a reply has come over the connection
abbrev pub HasReplied : Phase → Type 0
HasReplied (Open quiet) = quiet.has_replied ≡ true
HasReplied _ = ⊥

abbrev pub IsDownUntil : ℕ → Phase → Type 0
IsDownUntil time (Down until) = as_nanos until ≡ time
IsDownUntil time _ = ⊥

-- the connection is lost, and the next attempt begins after the pause
pub record HasPaused (before after : Attempts) : Type 0 where
  pub down : IsDownUntil (min (as_nanos before.time + after.pause * 1000000) max_nanos) after.phase
  pub at_once : HasReplied before.phase → after.pause ≡ 0
  pub doubled : (HasReplied before.phase → ⊥) → after.pause ≡ min (max (2 * before.pause) 10) 1000
  pub same : (after.patience ≡ before.patience) × (after.time ≡ before.time)

-- the time at which the next attempt may begin or the connection is given up, in nanoseconds
abbrev pub due : Bool → ℕ → Phase → Option ℕ
due waits patience (Down until) = Some (as_nanos until)
due waits patience (Begun since) = Some (min (as_nanos since + patience) max_nanos)
due true patience (Open quiet) = Some (min (as_nanos quiet.since + patience) max_nanos)
due false patience (Open quiet) = None

abbrev pub left_until : ℕ → Option ℕ → Option ℕ
left_until now None = None
left_until now (Some time) = Some (time - now)

-- the time that is left until then
abbrev pub time_left : Bool → Attempts → Option ℕ
time_left waits a = left_until (as_nanos a.time) (due waits (as_nanos a.patience) a.phase)
