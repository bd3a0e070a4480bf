-- Answers that are there or missing.
use Rattle.std.specs.Prelude.{ℕ, List, [], ◌∷◌, map, Option, None, Some}
use Rattle.resp_board.specs.declared.early.Early.{Early}

-- the answers up to the first missing one
abbrev pub front_answers : List (Option (List ℕ)) → List (List ℕ)
front_answers [] = []
front_answers (None ∷ answers) = []
front_answers (Some text ∷ answers) = text ∷ front_answers answers

-- an answer that arrived before its turn
abbrev pub answer_of : Option Early → Option (List ℕ)
answer_of None = None
answer_of (Some early) = Some early.bytes.items

abbrev pub answers_of : List (Option Early) → List (Option (List ℕ))
answers_of early = map answer_of early

-- the first of these answers is missing
abbrev pub BeginsMissing : List (Option (List ℕ)) → Type 0
BeginsMissing [] = Unit {0}
BeginsMissing (None ∷ answers) = Unit {0}
BeginsMissing (Some text ∷ answers) = ⊥
