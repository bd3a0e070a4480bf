-- How clients and lines belong to what happened.
use Rattle.std.specs.Prelude.{◌≡◌, ℕ, ◌<◌, ◌≤◌, List, [], ◌∷◌, drop, map, Option, None, Some, slice_get}
use Rattle.std.specs.List.{AllByRecursion}
use Rattle.resp_board.specs.declared.queue.Queue.{Queue}
use Rattle.resp_board.specs.declared.seat.Seat.{Seat}
use Rattle.resp_board.specs.declared.ticket.ClientId.{ClientId}
use Rattle.resp_board.specs.Boards.{Board, Entry, Place, first_part}
use Rattle.resp_board.specs.Boards as board
use Rattle.resp_board.specs.Histories.{History, board_of}
use Rattle.resp_board.specs.Queues.{HasQueued, Line}
use Rattle.resp_board.specs.Queues as queue
use Rattle.resp_board.specs.Seats.{Serves, desk_in}
use Rattle.resp_board.specs.Tickets.{answers_for, place_of}

-- the part that waits for this command of a line, among these commands of all clients
abbrev pub place_in : List Entry → queue.Command → Place
place_in es c = record {
  entry = place_of c.ticket.client c.ticket.number es;
  part = c.ticket.part;
  client = c.ticket.client;
  text = c.text;
}

-- the client of a command of a line, and its text
abbrev pub command_in : queue.Command → board.Command
command_in c = record { client = c.ticket.client; text = c.text }

-- a queue has the commands of a line and the parts that wait on it, and these bytes were sent
pub record IsCarried (q : Queue) (es : List Entry) (places : List Place) (commands : List board.Command) (sent : List ℕ) : Type 0 where
  pub line : Line
  pub queued : HasQueued q line
  pub sent_is : line.sent ≡ sent
  pub commands_are : map command_in line.commands ≡ commands
  pub places_are : map (place_in es) (drop line.replied line.commands) ≡ places

-- nothing is on a line that was not opened
pub record IsEmpty (places : List Place) (commands : List board.Command) (sent : List ℕ) : Type 0 where
  pub no_place : places ≡ []
  pub no_command : commands ≡ []
  pub no_byte : sent ≡ []

abbrev pub Carries : Option Queue → List Entry → List Place → List board.Command → List ℕ → Type 0
Carries None es places commands sent = IsEmpty places commands sent
Carries (Some q) es places commands sent = IsCarried q es places commands sent

-- the command has one part, whose answer is its answer
pub record HasOnePart (e : Entry) : Type 0 where
  pub answer : Option (List ℕ)
  pub only : e.parts ≡ answer ∷ []
  pub same : e.merge ≡ first_part

-- How clients, lines and the number given last belong to a board, and to the bytes that were given and sent.
pub record Joins (slots : List (Option Seat)) (lines : List Queue) (last : ℕ) (b : Board) (given : ClientId → List ℕ) (sent : ℕ → List ℕ) :
    Type 0 where
  pub served : (who : ClientId) → Serves slots who (answers_for who b.entries) (given who)
  pub carried : (line : ℕ) → Carries (slice_get lines line) b.entries (b.waiting line) (b.commands line) (sent line)
  pub single : AllByRecursion HasOnePart b.entries
  -- no client has a number that was not given
  pub numbered : AllByRecursion (λ (e : Entry). e.client.number ≤ last) b.entries
  pub seated : (who : ClientId) → last < who.number → desk_in slots who ≡ None
  pub ungiven : (who : ClientId) → last < who.number → given who ≡ []

-- this happened
abbrev pub Stands : List (Option Seat) → List Queue → ℕ → History → Type 0
Stands slots lines last h = Joins slots lines last (board_of h) h.given h.sent

-- something happened
abbrev pub StandsSomehow : List (Option Seat) → List Queue → ℕ → Type 0
StandsSomehow slots lines last = ∥ ((h : History) × Stands slots lines last h) ∥₁
