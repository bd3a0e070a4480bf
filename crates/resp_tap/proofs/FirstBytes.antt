-- The first bytes of a text.
use Rattle.std.proofs.Common.{arith, ◌≡◌, ◌∙◌, ℕ, List, ap, length, map, min, take}
use Rattle.std.proofs.lemmas.List.{take_min}

-- each of the first bytes of a text, of which there are at most so many
pub mapped_front : (f : ℕ → ℕ) (text : List ℕ) (most n : ℕ) → n ≡ min (length text) most → map f (take n text) ≡ map f (take most text)
mapped_front f text most n is =
    ap (λ k. map f (take k text)) (let e : n ≡ min most (length text) = omega (arith, is) in e) ∙ ap (map f) (take_min most text)
