-- Fronts of lists.
use Rattle.std.specs.Prelude.{take}
use Rattle.std.proofs.Common.{◌≡◌, ℕ, suc, ◌+◌, ◌-◌, ◌≤◌, List, [], ◌∷◌, ◌++◌, length, refl, ap, ◌∙◌, arith}
use Rattle.std.proofs.lemmas.Grind.{common_steps}

-- none of its elements
pub take-none : (p : List ℕ) → take 0 p ≡ []
take-none [] = refl
take-none (b ∷ bs) = refl

-- the length of a front
pub length-front : (n : ℕ) (p : List ℕ) → n ≤ length p → length (take n p) ≡ n
length-front n p h = grind (arith, common_steps)

-- as many as one list has
pub front-append : (n : ℕ) (a b : List ℕ) → length a ≡ n → take n (a ++ b) ≡ a
front-append n a b h = grind (arith, common_steps)

-- a front with one element more
pub front-one-more : (n : ℕ) (a : List ℕ) (b : ℕ) (bs : List ℕ) → length a ≡ n → take (n + 1) (a ++ b ∷ bs) ≡ a ++ b ∷ []
front-one-more n [] b bs h = let e : n + 1 ≡ suc 0 = omega (arith, h) in ap (λ m. take m (b ∷ bs)) e ∙ ap (λ z. b ∷ z) (take-none bs)
front-one-more n (c ∷ a) b bs h = let e : n + 1 ≡ suc (n - 1 + 1) = omega (arith, h) in
    ap (λ m. take m (c ∷ (a ++ b ∷ bs))) e ∙ ap (λ z. c ∷ z) (front-one-more (n - 1) a b bs (omega (arith, h)))

-- a list of no length is empty
pub none-of-length : (p : List ℕ) → length p ≡ 0 → p ≡ []
none-of-length [] e = refl
none-of-length (b ∷ bs) e = absurd (omega (arith, e))
