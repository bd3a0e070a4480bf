-- A client's commands by their numbers among its own.
use Rattle.std.specs.Prelude.{ℕ, zero, suc, List, [], ◌∷◌, Option, None, Some, if◌then◌else◌}
use Rattle.std.specs.Option.{option_map}
use Rattle.resp_board.specs.declared.ticket.ClientId.{ClientId}
use Rattle.resp_board.specs.Boards.{Entry, is_same}

-- the answers of all parts, once all are there
abbrev pub all_parts : List (Option (List ℕ)) → Option (List (List ℕ))
all_parts [] = Some []
all_parts (None ∷ parts) = None
all_parts (Some text ∷ parts) = option_map (λ texts. text ∷ texts) (all_parts parts)

-- the answer to a command, once all its parts are answered
abbrev pub answer_to : Entry → Option (List ℕ)
answer_to e = option_map e.merge (all_parts e.parts)

-- the answers to a client's commands, in the order of its commands
abbrev pub answers_for : ClientId → List Entry → List (Option (List ℕ))
answers_for who [] = []
answers_for who (e ∷ es) = if is_same who e.client then answer_to e ∷ answers_for who es else answers_for who es

-- the place among all commands of a client's command with this number, or a place past them
abbrev pub place_of : ClientId → ℕ → List Entry → ℕ
place_of who n [] = 0
place_of who zero (e ∷ es) = if is_same who e.client then 0 else suc (place_of who zero es)
place_of who (suc n) (e ∷ es) = if is_same who e.client then suc (place_of who n es) else suc (place_of who (suc n) es)

-- a client's command with this number
abbrev pub command_of : ClientId → ℕ → List Entry → Option Entry
command_of who n [] = None
command_of who zero (e ∷ es) = if is_same who e.client then Some e else command_of who zero es
command_of who (suc n) (e ∷ es) = if is_same who e.client then command_of who n es else command_of who (suc n) es
