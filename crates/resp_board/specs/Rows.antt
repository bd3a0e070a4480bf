-- The lines, each with its queue.
use Rattle.std.specs.Prelude.{◌≡◌, ◌≢◌, ℕ, List, [], Option, None, Some, IfSome, is_some, slice_get}
use Rattle.resp_board.specs.declared.queue.Queue.{Queue}
use Rattle.resp_board.specs.declared.ticket.Ticket.{Ticket}
use Rattle.resp_board.specs.Queues.{HasQueued, Line, begun_count, nothing_queued, unsent_of, waiting_commands, waiting_tickets, with_commands}

-- the tickets that wait on a line, if there is such a line
abbrev pub tickets_in : Option Queue → List Ticket
tickets_in None = []
tickets_in (Some q) = waiting_tickets q

-- the number of commands that wait of which a byte was sent
abbrev pub begun_in : Option Queue → ℕ
begun_in None = 0
begun_in (Some q) = begun_count q

-- the bytes that wait to be sent
abbrev pub unsent_in : Option Queue → List ℕ
unsent_in None = []
unsent_in (Some q) = unsent_of q

-- a line, if there is one, has these commands, and these bytes were sent
abbrev pub HasLine : List Queue → ℕ → Line → Type 0
HasLine lines line l = IfSome (slice_get lines line) (λ q. HasQueued q l)

-- the commands and bytes of a line change so, if there is such a line, and no other line changes
pub record ChangesLine (old new : List Queue) (line : ℕ) (change : Line → Line) : Type 0 where
  pub others : (other : ℕ) → other ≢ line → slice_get new other ≡ slice_get old other
  pub itself : (l : Line) → HasLine old line l → HasLine new line (change l)
  pub stays : is_some (slice_get new line) ≡ is_some (slice_get old line)

-- The commands that wait on a line are moved to the end of another, if there are such lines, and no other line changes.
pub record ReleasesLine (old new : List Queue) (from to : ℕ) : Type 0 where
  pub others : (other : ℕ) → other ≢ from → other ≢ to → slice_get new other ≡ slice_get old other
  pub emptied : HasLine new from nothing_queued
  pub moved : (f l : Line) → HasLine old from f → HasLine old to l → HasLine new to (with_commands (waiting_commands f) l)
  pub stays : (line : ℕ) → is_some (slice_get new line) ≡ is_some (slice_get old line)

-- the commands and bytes of each line stay
pub record KeepsLines (old new : List Queue) : Type 0 where
  pub each : (line : ℕ) (l : Line) → HasLine old line l → HasLine new line l
  pub stays : (line : ℕ) → is_some (slice_get new line) ≡ is_some (slice_get old line)
