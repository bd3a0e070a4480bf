-- Connections and their places.
use Rattle.std.specs.Prelude.{◌≡◌, ◌≢◌, ℕ, List, Option, None, IsSome, slice_index_or}
use Rattle.resp_schedule.specs.Plans.{Plan, state_of}
use Rattle.resp_schedule.specs.declared.schedule.PlaceState.TheVariants.{Closed}

-- each connection is in an open place
abbrev pub ArePlaced : {C : Type 0} → Plan → List (Option C) → Type 0
ArePlaced plan connections = (place : ℕ) → IsSome (slice_index_or connections place None) → state_of plan place ≢ Closed

-- a place that had no connection has none
abbrev pub NoneAppears : {C : Type 0} → List (Option C) → List (Option C) → Type 0
NoneAppears old new = (place : ℕ) → IsSome (slice_index_or new place None) → IsSome (slice_index_or old place None)

-- all other places keep their connections as they were
abbrev pub KeepsOthers : {C : Type 0} → List (Option C) → List (Option C) → ℕ → Type 0
KeepsOthers old new place = (other : ℕ) → other ≢ place → slice_index_or new other None ≡ slice_index_or old other None
