-- The clients and lines of a board, and what it has run.
use Rattle.std.specs.Prelude.{◌≡◌, ◌≢◌, ◌⊎◌, ℕ, ◌+◌, ◌<◌, ◌≤◌, Bool, false, true, List, [], ◌++◌, count_by, length, map, Option, None, Some, IsSomeAnd, is_some, slice_get, if◌then◌else◌}
use Rattle.std.specs.List.{list_any}
use Rattle.std.specs.Option.{option_map}
use Rattle.resp_board.specs.declared.board.Board.{Board}
use Rattle.resp_board.specs.declared.bounds.Bounds.{Bounds}
use Rattle.resp_board.specs.declared.ticket.ClientId.{ClientId}
use Rattle.resp_board.specs.declared.ticket.Ticket.{Ticket}
use Rattle.resp_board.specs.Boards.{Event, Lose, is_same}
use Rattle.resp_board.specs.Desks.{HasNoNumberLeft}
use Rattle.resp_board.specs.Desks as desk
use Rattle.resp_board.specs.Histories.{History, with_event, with_replies}
use Rattle.resp_board.specs.Joins.{Stands}
use Rattle.resp_board.specs.Rows.{begun_in, tickets_in, unsent_in}
use Rattle.resp_board.specs.Seats.{bytes_in, desk_in}

-- this happened on the board
abbrev pub HasRun : Board → History → Type 0
HasRun m h = Stands m.clients.slots m.lines.items m.last h

-- something happened on the board: WhereRun speaks of it
abbrev pub HasRunSome : Board → Type 0
HasRunSome m = ∥ ((h : History) × HasRun m h) ∥₁

-- this is true of what happened
abbrev pub WhereRun : Board → (History → Type 0) → Type 0
WhereRun m P = (h : History) → HasRun m h → P h

-- the same happened
abbrev pub KeepsRun : Board → Board → Type 0
KeepsRun old new = WhereRun old (HasRun new)

-- this event happened, and nothing else
abbrev pub Runs : Event → Board → Board → Type 0
Runs e old new = WhereRun old (λ h. HasRun new (with_event e h))

-- the bytes that wait to be given to a client, if it is open
abbrev pub waiting_for : Board → ClientId → Option (List ℕ)
waiting_for m who = bytes_in m.clients.slots who

-- there is such a line
abbrev pub has_line : Board → ℕ → Bool
has_line m line = is_some (slice_get m.lines.items line)

-- the tickets of the commands that wait on a line, in order
abbrev pub waiting_on : Board → ℕ → List Ticket
waiting_on m line = tickets_in (slice_get m.lines.items line)

-- the clients of these commands, in order
abbrev pub clients_on : Board → ℕ → List ClientId
clients_on m line = map (λ (t : Ticket). t.client) (waiting_on m line)

-- the number of commands that wait on a line of which a byte was sent: they are the first that wait
abbrev pub begun_on : Board → ℕ → ℕ
begun_on m line = begun_in (slice_get m.lines.items line)

-- one command fewer waits on a line of which a byte was sent
abbrev pub HasOneFewerBegun : ℕ → Board → Board → Type 0
HasOneFewerBegun line old new = begun_on new line + 1 ≡ begun_on old line

-- the bytes that wait to be sent over a line
abbrev pub unsent_on : Board → ℕ → List ℕ
unsent_on m line = unsent_in (slice_get m.lines.items line)

-- a client with this id is open
abbrev pub IsOpen : Board → ClientId → Type 0
IsOpen m who = is_some (waiting_for m who) ≡ true

abbrev pub bounds_of : Board → Bounds
bounds_of m = m.bounds

-- the number of open clients
abbrev pub open_count : Board → ℕ
open_count m = count_by is_some m.clients.slots

-- the number of clients that were opened
abbrev pub opened_count : Board → ℕ
opened_count m = m.last

-- the number of a client's commands from the first one without a reply on, if it is open
abbrev pub waiting_count : Board → ClientId → Option ℕ
waiting_count m who = option_map desk.waiting_count (desk_in m.clients.slots who)

-- the client is open, and as many of its commands wait as may
abbrev pub ClientIsFull : Board → ClientId → Type 0
ClientIsFull m who = IsSomeAnd (waiting_count m who) (λ count. m.bounds.waiting ≤ count)

-- the client is open, and one more command of it may wait
abbrev pub ClientHasRoom : Board → ClientId → Type 0
ClientHasRoom m who = IsSomeAnd (waiting_count m who) (λ count. count < m.bounds.waiting)

-- one more command of the client may wait, and the client has had as many commands as there are numbers
abbrev pub HasNoCommandLeft : Board → ClientId → Type 0
HasNoCommandLeft m who = ClientHasRoom m who × IsSomeAnd (desk_in m.clients.slots who) HasNoNumberLeft

-- one more command of the client may wait, and there is a number for it
abbrev pub HasCommandLeft : Board → ClientId → Type 0
HasCommandLeft m who = ClientHasRoom m who × IsSomeAnd (desk_in m.clients.slots who) (λ d. HasNoNumberLeft d → ⊥)

-- one more command of the client may wait, but there is no such line
abbrev pub LacksLine : Board → ClientId → ℕ → Type 0
LacksLine m who line = HasCommandLeft m who × (has_line m line ≡ false)

-- other bytes wait to be sent over a line, and with so many more they would be too many
abbrev pub LineOverflows : Board → ℕ → ℕ → Type 0
LineOverflows m line more = (0 < length (unsent_on m line)) × (m.bounds.unsent < length (unsent_on m line) + more)

-- one more command of the client may wait, but with this text too many bytes would wait to be sent over the line
abbrev pub LineIsFull : Board → ClientId → ℕ → List ℕ → Type 0
LineIsFull m who line text = HasCommandLeft m who × LineOverflows m line (length text)

-- one of the lines is not there, or they are the same
abbrev pub LacksLines : Board → ℕ → ℕ → Type 0
LacksLines m from to = (from ≡ to) ⊎ ((has_line m from ≡ false) ⊎ (has_line m to ≡ false))

-- both lines are there and are not the same, and a byte was sent of a command that waits on the first
abbrev pub HasBegun : Board → ℕ → ℕ → Type 0
HasBegun m from to = (LacksLines m from to → ⊥) × (0 < begun_on m from)

-- a client has this id or had it
abbrev pub IsKnown : Board → ClientId → Type 0
IsKnown m who = who.number ≤ m.last

-- the same clients and lines are open, and no id was given
pub record KeepsOpen (old new : Board) : Type 0 where
  pub clients : (who : ClientId) → is_some (waiting_for new who) ≡ is_some (waiting_for old who)
  pub lines : (line : ℕ) → has_line new line ≡ has_line old line
  pub last : new.last ≡ old.last
  pub bounds : new.bounds ≡ old.bounds

-- each client has the bytes that it had
abbrev pub KeepsBytes : Board → Board → Type 0
KeepsBytes old new = (who : ClientId) → waiting_for new who ≡ waiting_for old who

-- whether a client is one of these
abbrev pub is_among : ClientId → List ClientId → Bool
is_among who clients = list_any (is_same who) clients

-- each client that is none of these has the bytes that it had
abbrev pub KeepsAllBut : List ClientId → Board → Board → Type 0
KeepsAllBut clients old new = (who : ClientId) → is_among who clients ≡ false → waiting_for new who ≡ waiting_for old who

-- Nothing happened, each client has the bytes that it had, and the same commands wait on a line. A byte was sent of as many of them.
pub record IsUnchanged (line : ℕ) (old new : Board) : Type 0 where
  pub run : KeepsRun old new
  pub bytes : KeepsBytes old new
  pub clients : clients_on new line ≡ clients_on old line
  pub begun : begun_on new line ≡ begun_on old line

-- The first of the commands that waited on a line have their replies, at most this many of them. Each client of another command
-- has the bytes that it had.
pub record HasAnswered (line most : ℕ) (old new : Board) : Type 0 where
  pub answered : List ClientId
  pub first : clients_on old line ≡ answered ++ clients_on new line
  pub few : length answered ≤ most
  pub others : KeepsAllBut answered old new

-- each other client has the bytes that it had
abbrev pub KeepsOthers : ClientId → Board → Board → Type 0
KeepsOthers who old new = (other : ClientId) → is_same other who ≡ false → waiting_for new other ≡ waiting_for old other

-- An id that no client had is open, and each other client has the bytes that it had.
pub record HasOpened (old new : Board) (who : ClientId) : Type 0 where
  pub unknown : IsKnown old who → ⊥
  pub known : (other : ClientId) → IsKnown old other → IsKnown new other
  pub itself : IsKnown new who
  pub waiting : (other : ClientId) →
      waiting_for new other ≡ (if is_same other who then Some [] else waiting_for old other)
  pub bounds : new.bounds ≡ old.bounds

-- the client is not open, and each other client has the bytes that it had
pub record HasClosed (old new : Board) (who : ClientId) : Type 0 where
  pub waiting : (other : ClientId) →
      waiting_for new other ≡ (if is_same other who then None else waiting_for old other)
  pub last : new.last ≡ old.last
  pub bounds : new.bounds ≡ old.bounds

-- a line that was not there is there, and each client has the bytes that it had
pub record HasOpenedLine (old new : Board) (line : ℕ) : Type 0 where
  pub fresh : has_line old line ≡ false
  pub there : has_line new line ≡ true
  pub others : (other : ℕ) → other ≢ line → has_line new other ≡ has_line old other
  pub waiting : (who : ClientId) → waiting_for new who ≡ waiting_for old who
  pub last : new.last ≡ old.last
  pub bounds : new.bounds ≡ old.bounds

-- all numbers of clients were given
abbrev pub HasNoIdLeft : Board → Type 0
HasNoIdLeft m = 9223372036854775807 ≤ m.last

-- the first commands that waited on a line, of which a byte was sent, were answered by this text, and the others still wait
pub record HasAnsweredSome (line : ℕ) (text : List ℕ) (old new : Board) : Type 0 where
  pub count : ℕ
  pub begun : begun_on new line + count ≡ begun_on old line
  pub run : WhereRun old (λ h. HasRun new (with_replies count line text h))

-- the connection of a line was lost, and the first of the commands that waited were answered by this text
pub record HasLostSome (line : ℕ) (text : List ℕ) (old new : Board) : Type 0 where
  pub count : ℕ
  pub run : WhereRun old (λ h. HasRun new (with_event (Lose line count text) h))

-- after the connection of a line was lost, more of the commands that waited were answered by this text
pub record HasFailedSome (line : ℕ) (text : List ℕ) (old new : Board) : Type 0 where
  pub count : ℕ
  pub run : (lost : ℕ) (h : History) → HasRun old (with_event (Lose line lost text) h) → HasRun new (with_event (Lose line (lost + count) text) h)
