-- How the lists of a schedule belong together.
use Rattle.std.specs.Prelude.{◌≡◌, ℕ, ◌≤◌, List, length, slice_index_or}
use Rattle.std.specs.List.{count_by, sum_by}
use Rattle.resp_schedule.specs.declared.schedule.PlaceState.{PlaceState}
use Rattle.resp_schedule.specs.declared.schedule.PlaceState.TheVariants.{Closed, Idle, Queued}
use Rattle.resp_schedule.specs.Places.{times}
use Rattle.resp_schedule.specs.Plans.{is_open}

-- 1 for a state, and 0 for the others
abbrev pub queued : PlaceState → ℕ
queued Closed = 0
queued Idle = 0
queued Queued = 1

abbrev pub closed : PlaceState → ℕ
closed Closed = 1
closed Idle = 0
closed Queued = 0

-- Each queued place is in the queue once, and each closed place in the list of free places, and no other place is. There
-- is room for all places in both lists.
pub record Stands (states : List PlaceState) (queue : List ℕ) (due : ℕ) (free : List ℕ) (reusable opens most : ℕ)
    (queue_capacity free_capacity : ℕ) : Type 0 where
  pub is_queued : (place : ℕ) → times place queue ≡ queued (slice_index_or states place Closed)
  pub is_free : (place : ℕ) → times place free ≡ closed (slice_index_or states place Idle)
  pub queue_length : length queue ≡ sum_by queued states
  pub free_length : length free ≡ sum_by closed states
  pub open_count : opens ≡ count_by is_open states
  pub at_most : opens ≤ most
  pub due_within : due ≤ length queue
  pub reusable_within : reusable ≤ length free
  pub queue_room : length states ≤ queue_capacity
  pub free_room : length states ≤ free_capacity
