-- The commands of many clients over several lines, which are connections to servers.
use Rattle.std.specs.Prelude.{ℕ, zero, suc, ◌+◌, ◌==◌, ◌&&◌, Bool, List, [], ◌∷◌, ◌++◌, drop, length, map, take, Option, None, Some, if◌then◌else◌}
use Rattle.resp_board.specs.declared.ticket.ClientId.{ClientId}

-- whether two ids name one client
abbrev pub is_same : ClientId → ClientId → Bool
is_same a b = (a.place == b.place) && (a.number == b.number)

-- a command for the server: its client and its text
pub record Command : Type 0 where
  pub client : ClientId
  pub text : List ℕ

-- a command: its client, the answers to its parts, and how these become its answer
pub record Entry : Type 0 where
  pub client : ClientId
  pub parts : List (Option (List ℕ))
  pub merge : List (List ℕ) → List ℕ

-- a part of a command that waits on a line: its places among all commands and among the parts, its client and its text
pub record Place : Type 0 where
  pub entry : ℕ
  pub part : ℕ
  pub client : ClientId
  pub text : List ℕ

-- a part of a command: its line and its text
pub record Part : Type 0 where
  pub line : ℕ
  pub text : List ℕ

pub record Board : Type 0 where
  -- the commands of all clients, in the order in which they came
  pub entries : List Entry
  -- the parts that wait on each line, in the order in which they were queued
  pub waiting : ℕ → List Place
  -- the commands for the present connection of each line, in order
  pub commands : ℕ → List Command

pub data Event : Type 0 where
  -- a client's command goes to a line
  Ask : ClientId → ℕ → List ℕ → Event
  -- the parts of a client's command go to lines, and their answers are merged once all are there
  Split : ClientId → List Part → (List (List ℕ) → List ℕ) → Event
  -- a client's command has an answer of the proxy's own
  Own : ClientId → List ℕ → Event
  -- the server of a line replies
  Reply : ℕ → List ℕ → Event
  -- the server of the first line sends the part that waits first to the second line
  Redirect : ℕ → ℕ → Event
  -- all parts that wait on the first line wait last on the second
  Release : ℕ → ℕ → Event
  -- the same, and each of them waits behind a command of this client with this text
  ReleaseBehind : ClientId → List ℕ → ℕ → ℕ → Event
  -- the connection of a line is lost: this many parts that wait on it have this answer, from the first on, and the others
  -- are the commands for a new connection
  Lose : ℕ → ℕ → List ℕ → Event
  -- a line has no connection: each part that waits on it has this answer
  Fail : ℕ → List ℕ → Event

-- no command has come
abbrev pub nothing_asked : Board
nothing_asked = record { entries = []; waiting = λ line. []; commands = λ line. [] }

-- one line has another list, and each other line keeps its own
abbrev pub with_line : {T : Type 0} → ℕ → List T → (ℕ → List T) → ℕ → List T
with_line line items lists other = if other == line then items else lists other

-- an item comes last on a line
abbrev pub last_on : {T : Type 0} → ℕ → T → (ℕ → List T) → ℕ → List T
last_on line item lists = with_line line (lists line ++ item ∷ []) lists

-- the answer of the only part
abbrev pub first_part : List (List ℕ) → List ℕ
first_part [] = []
first_part (text ∷ texts) = text

-- the parts, after one of them was answered
abbrev pub part_answered : ℕ → List ℕ → List (Option (List ℕ)) → List (Option (List ℕ))
part_answered part text [] = []
part_answered zero text (p ∷ parts) = Some text ∷ parts
part_answered (suc part) text (p ∷ parts) = p ∷ part_answered part text parts

-- the command, after one of its parts was answered
abbrev pub with_part : ℕ → List ℕ → Entry → Entry
with_part part text e = record { client = e.client; parts = part_answered part text e.parts; merge = e.merge }

-- the commands, after a part of one of them was answered
abbrev pub answer_at : List Entry → ℕ → ℕ → List ℕ → List Entry
answer_at [] entry part text = []
answer_at (e ∷ es) zero part text = with_part part text e ∷ es
answer_at (e ∷ es) (suc entry) part text = e ∷ answer_at es entry part text

-- the commands, after all these parts had the same answer
abbrev pub answer_all : List Entry → List Place → List ℕ → List Entry
answer_all es [] text = es
answer_all es (p ∷ places) text = answer_all (answer_at es p.entry p.part text) places text

-- the parts that wait, after those of one command were queued
abbrev pub with_parts : ClientId → ℕ → ℕ → List Part → (ℕ → List Place) → ℕ → List Place
with_parts who entry part [] waiting = waiting
with_parts who entry part (p ∷ parts) waiting =
    with_parts who entry (part + 1) parts
    (last_on p.line (record { entry = entry; part = part; client = who; text = p.text }) waiting)

-- the commands of lines, after the parts of one command were queued
abbrev pub with_texts : ClientId → List Part → (ℕ → List Command) → ℕ → List Command
with_texts who [] commands = commands
with_texts who (p ∷ parts) commands = with_texts who parts (last_on p.line (record { client = who; text = p.text }) commands)

-- the parts of a command go to lines
abbrev pub after_split : Board → ClientId → List Part → (List (List ℕ) → List ℕ) → Board
after_split b who parts merge = record {
  entries = b.entries ++ (record { client = who; parts = map (λ (p : Part). None) parts; merge = merge }) ∷ [];
  waiting = with_parts who (length b.entries) 0 parts b.waiting;
  commands = with_texts who parts b.commands;
}

-- a reply answers the part that waits first on its line
abbrev pub after_reply : Board → ℕ → List ℕ → List Place → Board
after_reply b line text [] = b
after_reply b line text (p ∷ places) = record {
  entries = answer_at b.entries p.entry p.part text;
  waiting = with_line line places b.waiting;
  commands = b.commands;
}

-- the part that waits first on a line waits last on another
abbrev pub after_redirect : Board → ℕ → ℕ → List Place → Board
after_redirect b line other [] = b
after_redirect b line other (p ∷ places) = record {
  entries = b.entries;
  waiting = last_on other p (with_line line places b.waiting);
  commands = last_on other (record { client = p.client; text = p.text }) b.commands;
}

-- so many times: a client's command goes to the second line, and the part that waits first on the first line follows it
abbrev pub after_pairs : ℕ → Board → ClientId → List ℕ → ℕ → ℕ → Board
after_pairs zero b who text line other = b
after_pairs (suc count) b who text line other =
    let asked = after_split b who ((record { line = other; text = text }) ∷ []) first_part in
    after_pairs count (after_redirect asked line other (asked.waiting line)) who text line other

-- the commands of these parts
abbrev pub commands_of : List Place → List Command
commands_of places = map (λ (p : Place). record { client = p.client; text = p.text }) places

-- the board after an event
abbrev pub happens : Board → Event → Board
happens b (Ask who line text) = after_split b who ((record { line = line; text = text }) ∷ []) first_part
happens b (Split who parts merge) = after_split b who parts merge
happens b (Own who text) = record {
  entries = b.entries ++ (record { client = who; parts = Some text ∷ []; merge = first_part }) ∷ [];
  waiting = b.waiting;
  commands = b.commands;
}
happens b (Reply line text) = after_reply b line text (b.waiting line)
happens b (Redirect line other) = after_redirect b line other (b.waiting line)
happens b (Release line other) = record {
  entries = b.entries;
  waiting = with_line line [] (with_line other (b.waiting other ++ b.waiting line) b.waiting);
  commands = with_line line [] (with_line other (b.commands other ++ commands_of (b.waiting line)) b.commands);
}
happens b (ReleaseBehind who text line other) = after_pairs (length (b.waiting line)) b who text line other
happens b (Lose line count text) = record {
  entries = answer_all b.entries (take count (b.waiting line)) text;
  waiting = with_line line (drop count (b.waiting line)) b.waiting;
  commands = with_line line (commands_of (drop count (b.waiting line))) b.commands;
}
happens b (Fail line text) = record {
  entries = answer_all b.entries (b.waiting line) text;
  waiting = with_line line [] b.waiting;
  commands = with_line line [] b.commands;
}

-- the board after events, one after another
abbrev pub after_events : Board → List Event → Board
after_events b [] = b
after_events b (e ∷ es) = after_events (happens b e) es
