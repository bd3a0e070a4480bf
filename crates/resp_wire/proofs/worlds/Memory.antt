-- Links over memory are honest.
use Rattle.std.proofs.Common.{◌≡◌, ℕ, List, [], ◌∷◌, length, IfOk, Result, Ok, Err, subst}
use Rattle.std.specs.List.{AllByRecursion}

all_honest : {L : Type 0} (links : List L) → AllByRecursion (λ (link : L). Unit {0}) links
all_honest {L} [] = tt
all_honest {L} (link ∷ links) = (tt, all_honest links)

-- what holds over this many honest links holds over those of memory
pub over_memory : {W E L : Type 0} (r : Result W E) (P : ℕ → W → Type 0) (links : List L) (n : ℕ) → length links ≡ n →
    IfOk r (λ world. AllByRecursion (λ (link : L). Unit {0}) links → P (length links) world) → IfOk r (P n)
over_memory {W} {E} {L} (Ok world) P links n is f = subst (λ k. P k world) is (f (all_honest links))
over_memory {W} {E} {L} (Err e) P links n is f = tt
