-- What happened on a board, and the bytes that were given and sent.
use Rattle.std.specs.Prelude.{ℕ, zero, suc, List, [], ◌∷◌, ◌++◌, map, if◌then◌else◌}
use Rattle.std.specs.List.{concat}
use Rattle.resp_board.specs.declared.ticket.ClientId.{ClientId}
use Rattle.resp_board.specs.Answers.{front_answers}
use Rattle.resp_board.specs.Boards.{Ask, Board, Command, Event, Fail, Lose, Own, Redirect, Release, ReleaseBehind, Reply, Split, after_events, is_same, nothing_asked, with_line}
use Rattle.resp_board.specs.Tickets.{answers_for}

pub record History : Type 0 where
  -- the events, in order
  pub events : List Event
  -- the bytes that each client was given
  pub given : ClientId → List ℕ
  -- the bytes that were sent over the present connection of each line
  pub sent : ℕ → List ℕ

-- nothing has happened yet
abbrev pub nothing_happened : History
nothing_happened = record { events = []; given = λ who. []; sent = λ line. [] }

-- the board after the events
abbrev pub board_of : History → Board
board_of h = after_events nothing_asked h.events

-- the bytes sent over the present connection of each line, after an event: a lost line has a new connection
abbrev pub sent_after : Event → (ℕ → List ℕ) → ℕ → List ℕ
sent_after (Ask who line text) sent = sent
sent_after (Split who parts merge) sent = sent
sent_after (Own who text) sent = sent
sent_after (Reply line text) sent = sent
sent_after (Redirect line other) sent = sent
sent_after (Release line other) sent = with_line line [] sent
sent_after (ReleaseBehind who text line other) sent = sent
sent_after (Lose line count text) sent = with_line line [] sent
sent_after (Fail line text) sent = with_line line [] sent

-- one more event happened
abbrev pub with_event : Event → History → History
with_event e h = record { events = h.events ++ e ∷ []; given = h.given; sent = sent_after e h.sent }

-- the server of a line replied so many times with the same text
abbrev pub with_replies : ℕ → ℕ → List ℕ → History → History
with_replies zero line text h = h
with_replies (suc count) line text h = with_replies count line text (with_event (Reply line text) h)

-- these bytes were given to a client
abbrev pub with_given : ClientId → List ℕ → History → History
with_given who text h = record {
  events = h.events;
  given = λ other. if is_same other who then h.given other ++ text else h.given other;
  sent = h.sent;
}

-- these bytes were sent over the connection of a line
abbrev pub with_bytes : ℕ → List ℕ → History → History
with_bytes line text h = record { events = h.events; given = h.given; sent = with_line line (h.sent line ++ text) h.sent }

-- the bytes that are due to a client: the answers to its own commands in order, up to the first that is missing
abbrev pub due_on : ClientId → Board → List ℕ
due_on who b = concat (front_answers (answers_for who b.entries))

-- the texts of the commands of a line
abbrev pub texts_on : ℕ → Board → List (List ℕ)
texts_on line b = map (λ (c : Command). c.text) (b.commands line)
