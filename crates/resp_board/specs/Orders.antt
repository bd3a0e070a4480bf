-- The order of a client's commands on a line, and on one without a server where they are held for it.
use Rattle.std.specs.Prelude.{◌≡◌, ◌≢◌, ◌⊎◌, ℕ, ◌==◌, ◌||◌, true, List, [], ◌∷◌, ◌++◌, if◌then◌else◌}
use Rattle.std.specs.List.{AllByRecursion}
use Rattle.resp_board.specs.declared.ticket.ClientId.{ClientId}
use Rattle.resp_board.specs.Boards.{Ask, Board, Command, Event, Fail, Lose, Own, Part, Redirect, Release, ReleaseBehind, Reply, Split, commands_of, happens, is_same}

-- the texts of one client among commands, in order
abbrev pub texts_for : ClientId → List Command → List (List ℕ)
texts_for who [] = []
texts_for who (c ∷ commands) = if is_same who c.client then c.text ∷ texts_for who commands else texts_for who commands

-- the texts of a client that went to a line, followed by those that are held for it on another
abbrev pub texts_ordered : ClientId → ℕ → ℕ → Board → List (List ℕ)
texts_ordered who line held b = texts_for who (b.commands line) ++ texts_for who (commands_of (b.waiting held))

-- the texts of parts for a line, or held for it, in order
abbrev pub parts_to : ℕ → ℕ → List Part → List (List ℕ)
parts_to line held [] = []
parts_to line held (p ∷ parts) =
    if (p.line == line) || (p.line == held) then p.text ∷ parts_to line held parts else parts_to line held parts

-- the texts that a client sends to a line, or to be held for it, by an event
abbrev pub texts_in : ClientId → ℕ → ℕ → Event → List (List ℕ)
texts_in who line held (Ask other to text) = if is_same who other then parts_to line held ((record { line = to; text = text }) ∷ []) else []
texts_in who line held (Split other parts merge) = if is_same who other then parts_to line held parts else []
texts_in who line held (Own other text) = []
texts_in who line held (Reply from text) = []
texts_in who line held (Redirect from to) = []
texts_in who line held (Release from to) = []
texts_in who line held (ReleaseBehind other text from to) = []
texts_in who line held (Lose from count text) = []
texts_in who line held (Fail from text) = []

-- the texts that a client sends to a line, or to be held for it, in order
abbrev pub texts_sent : ClientId → ℕ → ℕ → List Event → List (List ℕ)
texts_sent who line held [] = []
texts_sent who line held (e ∷ es) = texts_in who line held e ++ texts_sent who line held es

-- no command of the client is held
abbrev pub NoneHeld : ClientId → ℕ → Board → Type 0
NoneHeld who held b = texts_for who (commands_of (b.waiting held)) ≡ []

-- no part goes to the line, or none is held
abbrev pub MayGo : ClientId → ℕ → ℕ → Board → List Part → Type 0
MayGo who line held b parts =
    AllByRecursion (λ (p : Part). p.line ≢ line) parts ⊎ (NoneHeld who held b × AllByRecursion (λ (p : Part). p.line ≢ held) parts)

-- parts that are held for the line go there, or parts go from other lines to other lines
abbrev pub MovesInOrder : ℕ → ℕ → ℕ → ℕ → Type 0
MovesInOrder line held from to = ((from ≡ held) × (to ≡ line)) ⊎ ((from ≢ line) × (to ≢ line) × (from ≢ held) × (to ≢ held))

-- A client sends to the line only while none of its commands is held for it. The line keeps its connection, and what is held is
-- moved to the line alone.
abbrev pub KeepsOrder : ClientId → ℕ → ℕ → Board → Event → Type 0
KeepsOrder who line held b (Ask other to text) = is_same who other ≡ true → MayGo who line held b ((record { line = to; text = text }) ∷ [])
KeepsOrder who line held b (Split other parts merge) = is_same who other ≡ true → MayGo who line held b parts
KeepsOrder who line held b (Own other text) = Unit {0}
KeepsOrder who line held b (Reply from text) = from ≢ held
KeepsOrder who line held b (Redirect from to) = MovesInOrder line held from to
KeepsOrder who line held b (Release from to) = MovesInOrder line held from to
KeepsOrder who line held b (ReleaseBehind other text from to) = (to ≢ line) × (from ≢ held) × (to ≢ held)
KeepsOrder who line held b (Lose from count text) = (from ≢ line) × (from ≢ held)
KeepsOrder who line held b (Fail from text) = (from ≢ line) × (from ≢ held)

abbrev pub RunKeepsOrder : ClientId → ℕ → ℕ → Board → List Event → Type 0
RunKeepsOrder who line held b [] = Unit {0}
RunKeepsOrder who line held b (e ∷ es) = KeepsOrder who line held b e × RunKeepsOrder who line held (happens b e) es
