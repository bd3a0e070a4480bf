-- Whether a text is a word in lower case.
use Rattle.std.proofs.Common.{◌≡◌, ◌∙◌, ℕ, suc, ◌+◌, ◌-◌, ◌<◌, List, [], ◌∷◌, length, map, get_or, inl, inr, eq-zero-or-pos, refl, sym, ap, arith}
use Rattle.std.proofs.lemmas.List.{get_or-map, length-map}
use Rattle.std.specs.Char.{to_ascii_lowercase}

-- the bytes before this one are those of the word in lower case
abbrev pub AreAlike : List ℕ → List ℕ → ℕ → Type 0
AreAlike word text i = (k : ℕ) → k < i → to_ascii_lowercase (get_or word k 0) ≡ get_or text k 0

pub one_more : (word text : List ℕ) (i : ℕ) → AreAlike word text i → to_ascii_lowercase (get_or word i 0) ≡ get_or text i 0 → AreAlike word text (i + 1)
one_more word text i each last k less =
    elim (eq-zero-or-pos (i - k)) [
      | inl none ↦ let same : k ≡ i = omega arith in rw same last
      | inr before ↦ each k (omega arith)
    ]
