-- The commands of one line, and the bytes that were sent over its connection.
use Rattle.std.specs.Prelude.{◌≡◌, ℕ, ◌+◌, ◌-◌, ◌<◌, ◌≤◌, List, [], ◌∷◌, ◌++◌, drop, length, map, take}
use Rattle.std.specs.List.{concat}
use Rattle.resp_board.specs.declared.queue.Queue.{Queue}
use Rattle.resp_board.specs.declared.ticket.Ticket.{Ticket}

-- a command for the server
pub record Command : Type 0 where
  pub ticket : Ticket
  pub text : List ℕ

pub record Line : Type 0 where
  -- the commands for this connection, in the order in which they were queued
  pub commands : List Command
  -- the number of those that the server replied to: they are the first
  pub replied : ℕ
  -- the bytes that were sent over this connection
  pub sent : List ℕ

abbrev pub texts_of : List Command → List (List ℕ)
texts_of commands = map (λ (c : Command). c.text) commands

abbrev pub tickets_of : List Command → List Ticket
tickets_of commands = map (λ (c : Command). c.ticket) commands

-- no command was queued
abbrev pub nothing_queued : Line
nothing_queued = record { commands = []; replied = 0; sent = [] }

-- one more command was queued
abbrev pub with_queued : Ticket → List ℕ → Line → Line
with_queued ticket text l = record {
  commands = l.commands ++ (record { ticket = ticket; text = text }) ∷ [];
  replied = l.replied;
  sent = l.sent;
}

-- more commands were queued
abbrev pub with_commands : List Command → Line → Line
with_commands more l = record { commands = l.commands ++ more; replied = l.replied; sent = l.sent }

-- the commands that wait for replies
abbrev pub waiting_commands : Line → List Command
waiting_commands l = drop l.replied l.commands

-- the server replied to one more command
abbrev pub with_answered : Line → Line
with_answered l = record { commands = l.commands; replied = l.replied + 1; sent = l.sent }

-- these bytes were sent
abbrev pub with_sent : List ℕ → Line → Line
with_sent text l = record { commands = l.commands; replied = l.replied; sent = l.sent ++ text }

-- there is a new connection, for the commands that the server has not replied to
abbrev pub with_connection : Line → Line
with_connection l = record { commands = drop l.replied l.commands; replied = 0; sent = [] }

-- the first command that the server has not replied to is not for this line any more, and there is a new connection for the others
abbrev pub without_first : Line → Line
without_first l = record { commands = drop (l.replied + 1) l.commands; replied = 0; sent = [] }

-- This many commands wait of which a byte was sent. With those that the server replied to, they are the fewest first commands
-- that have all bytes sent.
pub record IsBegun (l : Line) (count : ℕ) : Type 0 where
  pub enough : length l.sent ≤ length (concat (take (l.replied + count) (texts_of l.commands)))
  pub fewest : (fewer : ℕ) → fewer < l.replied + count → length (concat (take fewer (texts_of l.commands))) < length l.sent

-- how the lengths of the commands of which no byte was sent, and the bytes that are left of the command before them, belong to
-- the line, if this many commands wait
pub record Begins (waiting : ℕ) (unbegun : List ℕ) (left : ℕ) (l : Line) : Type 0 where
  pub begun : ℕ
  pub count : begun + length unbegun ≡ waiting
  pub is_begun : IsBegun l begun
  pub lengths : map length (drop (l.replied + begun) (texts_of l.commands)) ≡ unbegun
  pub sent : length (concat (take (l.replied + begun) (texts_of l.commands))) ≡ length l.sent + left

-- the tickets of the commands that wait for replies, in order
abbrev pub waiting_tickets : Queue → List Ticket
waiting_tickets q = q.waiting.items

-- the bytes that wait to be sent
abbrev pub unsent_of : Queue → List ℕ
unsent_of q = q.out.items

-- the number of commands that wait of which a byte was sent: they are the first that wait
abbrev pub begun_count : Queue → ℕ
begun_count q = length q.waiting.items - length q.unbegun.items

-- these commands were queued, and these bytes were sent
pub record HasQueued (q : Queue) (l : Line) : Type 0 where
  pub within : l.replied ≤ length l.commands
  pub waiting : tickets_of (drop l.replied l.commands) ≡ waiting_tickets q
  pub in_order : l.sent ++ unsent_of q ≡ concat (texts_of l.commands)
  pub begins : Begins (length q.waiting.items) q.unbegun.items q.left l

-- this holds of the commands that were queued and of the bytes that were sent
abbrev pub WhereQueued : Queue → (Line → Type 0) → Type 0
WhereQueued q P = (l : Line) → HasQueued q l → P l

-- the commands and the bytes stay
abbrev pub KeepsQueued : Queue → Queue → Type 0
KeepsQueued old new = WhereQueued old (HasQueued new)
