-- Runs that differ only in the replies to the commands of others.
use Rattle.std.specs.Prelude.{◌≡◌, ◌⊎◌, false, List, [], ◌∷◌, Option, None, Some, slice_get}
use Rattle.resp_board.specs.declared.ticket.ClientId.{ClientId}
use Rattle.resp_board.specs.Boards.{Board, Entry, Event, Place, Reply, happens, is_same}

-- the command at this place is another client's
abbrev pub IsOthers : ClientId → Option Entry → Type 0
IsOthers who None = Unit {0}
IsOthers who (Some e) = is_same who e.client ≡ false

-- a reply would answer another client's command, or no command
abbrev pub AnswersAnother : ClientId → List Entry → List Place → Type 0
AnswersAnother who entries [] = Unit {0}
AnswersAnother who entries (p ∷ places) = IsOthers who (slice_get entries p.entry)

-- the same event, or another reply that answers another client's command
abbrev pub DifferForOthers : ClientId → Board → Event → Event → Type 0
DifferForOthers who b (Reply line text) (Reply line' text') =
    (line ≡ line') × ((text ≡ text') ⊎ AnswersAnother who b.entries (b.waiting line))
DifferForOthers who b e f = e ≡ f

-- the same events, but for the replies to the commands of others
abbrev pub RunsDifferForOthers : ClientId → Board → List Event → List Event → Type 0
RunsDifferForOthers who b [] [] = Unit {0}
RunsDifferForOthers who b (e ∷ es) (f ∷ fs) = DifferForOthers who b e f × RunsDifferForOthers who (happens b e) es fs
RunsDifferForOthers who b _ _ = ⊥
