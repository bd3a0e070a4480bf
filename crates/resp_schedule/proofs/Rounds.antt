-- A round visits what is due.
use Rattle.std.proofs.Common.{◌≡◌, ℕ, List, [], ◌∷◌, ◌++◌, sym, ap, ◌∙◌}
use Rattle.std.proofs.lemmas.List.{append-nil}
use Rattle.resp_schedule.specs.Plans.{Plan, due_of}
use Rattle.resp_schedule.specs.Rounds.{Visits}

-- what was visited, and what is due then, was due before
pub visited : (start end : Plan) (places : List ℕ) → Visits start places end → due_of start ≡ places ++ due_of end
visited start end [] same = sym same
visited start end (place ∷ places) (before, after, same, next, rest) =
    sym same ∙ next.due ∙ ap (λ xs. place ∷ xs) (visited after end places rest)

pub in_order : (start end : Plan) (places : List ℕ) → Visits start places end → due_of end ≡ [] → places ≡ due_of start
in_order start end places visits over =
    sym (visited start end places visits ∙ ap (λ xs. places ++ xs) over ∙ append-nil places)
