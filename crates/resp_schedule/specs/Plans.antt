-- What a schedule knows.
use Rattle.std.specs.Prelude.{◌≡◌, ◌≢◌, ℕ, ◌+◌, ◌<◌, Bool, true, false, List, [], ◌∷◌, ◌++◌, length, slice_index_or, take}
use Rattle.std.specs.List.{count_by}
use Rattle.resp_schedule.specs.Places.{times}
use Rattle.resp_schedule.specs.declared.schedule.Backlog.{Backlog}
use Rattle.resp_schedule.specs.declared.schedule.Backlog.TheVariants.{Empty, Waiting, Failing, Stopped}
use Rattle.resp_schedule.specs.declared.schedule.PlaceState.{PlaceState}
use Rattle.resp_schedule.specs.declared.schedule.PlaceState.TheVariants.{Closed, Idle, Queued}

pub record Plan : Type 0 where
  -- the state of each place; all further places are closed
  pub states : List PlaceState
  -- the places that are queued, in the order of their visits
  pub queue : List ℕ
  -- how many of them are visited in this round
  pub due : ℕ
  -- the places that were closed in this round
  pub gone : List ℕ
  -- whether connections wait to be accepted
  pub backlog : Backlog
  -- the most places that are open
  pub most : ℕ

-- a plan in which no place was ever open
abbrev pub new_plan : ℕ → Plan
new_plan most = record { states = []; queue = []; due = 0; gone = []; backlog = Empty; most = most }

abbrev pub state_of : Plan → ℕ → PlaceState
state_of plan place = slice_index_or plan.states place Closed

-- the places that are visited in this round, in order
abbrev pub due_of : Plan → List ℕ
due_of plan = take plan.due plan.queue

-- a place is open if it is not closed
abbrev pub is_open : PlaceState → Bool
is_open Closed = false
is_open Idle = true
is_open Queued = true

-- the number of places that are open
abbrev pub open_count : Plan → ℕ
open_count plan = count_by is_open plan.states

-- the place was open once and is closed, and it was not closed in this round
pub record IsReusable (plan : Plan) (place : ℕ) : Type 0 where
  pub known : place < length plan.states
  pub closed : state_of plan place ≡ Closed
  pub not_gone : times place plan.gone ≡ 0

-- a place goes from one state to another, and all other places keep theirs
pub record Changes (old new : Plan) (place : ℕ) (before after : PlaceState) : Type 0 where
  pub was : state_of old place ≡ before
  pub now : state_of new place ≡ after
  pub others : (other : ℕ) → other ≢ place → state_of new other ≡ state_of old other

-- a failed attempt to accept is repeated, since a connection was closed
abbrev pub resumed : Backlog → Backlog
resumed Empty = Empty
resumed Waiting = Waiting
resumed Failing = Waiting
resumed Stopped = Stopped

-- an open place was closed
pub record Closes (old new : Plan) (place : ℕ) : Type 0 where
  pub gone : new.gone ≡ old.gone ++ place ∷ []
  pub counted : open_count new + 1 ≡ open_count old
  pub backlog : new.backlog ≡ resumed old.backlog
  pub most : new.most ≡ old.most

-- the first place that is due is visited, and idle
pub record VisitsNext (old new : Plan) (place : ℕ) : Type 0 where
  pub due : due_of old ≡ place ∷ due_of new
  pub queue : old.queue ≡ place ∷ new.queue
  pub idle : Changes old new place Queued Idle
  pub counted : open_count new ≡ open_count old
  pub gone : new.gone ≡ old.gone
  pub backlog : new.backlog ≡ old.backlog
  pub most : new.most ≡ old.most

-- a new round begins: all that is queued is due, and the places that were closed are forgotten
abbrev pub next_round : Plan → Plan
next_round plan = record plan { due = length plan.queue; gone = [] }

-- a place is queued behind all others
abbrev pub queued_last : ℕ → List PlaceState → Plan → Plan
queued_last place states plan = record plan { states = states; queue = plan.queue ++ place ∷ [] }
