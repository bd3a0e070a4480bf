-- What is visited in a round.
use Rattle.std.specs.Prelude.{◌≡◌, ℕ, List, [], ◌∷◌}
use Rattle.resp_schedule.specs.Plans.{Plan, VisitsNext, due_of}

-- these places are visited one after another, and what happens before, between and after changes nothing of what is due
abbrev pub Visits : Plan → List ℕ → Plan → Type 0
Visits start [] end = due_of end ≡ due_of start
Visits start (place ∷ places) end =
    (before : Plan) × (after : Plan) × (due_of before ≡ due_of start) × VisitsNext before after place × Visits after places end
