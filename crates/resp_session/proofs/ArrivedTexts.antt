-- Texts that have come, and those after them.
use Rattle.std.proofs.Common.{◌≡◌, ℕ, zero, suc, ◌+◌, ◌-◌, ◌≤◌, List, [], ◌∷◌, ◌++◌, length, take, drop, refl, sym, ap, ◌∙◌, arith, append_assoc, length-append}
use Rattle.std.specs.List.{concat}
use Rattle.resp_value.specs.Data.{Datum}
use Rattle.resp_value.specs.Rules.{Rules}
use Rattle.resp_value.specs.Spellings.{AreSpellings}
use Rattle.resp_value.specs.Laws.{NoSpellingBeginsAnother}
use Rattle.resp_session.specs.Arrivals.{SpellEach}
use Rattle.resp_session.specs.Connections.{whole_within}
use Rattle.resp_session.proofs.WholeTexts.{whole_within-long}

-- texts that spell values one by one spell them all
pub spell_all : (r : Rules) (xs : List Datum) (texts : List (List ℕ)) → SpellEach r xs texts → AreSpellings r xs (concat texts)
spell_all r [] [] h = refl
spell_all r [] (text ∷ texts) h = absurd h
spell_all r (x ∷ xs) [] h = absurd h
spell_all r (x ∷ xs) (text ∷ texts) h = (text, concat texts, h.0, spell_all r xs texts h.1, refl)

-- where spellings of the same values begin one text, they are one
pub same_front : NoSpellingBeginsAnother → (r : Rules) (xs : List Datum) (p q u v : List ℕ) → AreSpellings r xs p → AreSpellings r xs q → p ++ u ≡ q ++ v →
    (p ≡ q) × (u ≡ v)
same_front apart r [] p q u v m n e =
    let m0 : p ≡ [] = m in
    let n0 : q ≡ [] = n in
    (m0 ∙ sym n0, sym (ap (λ z. z ++ u) m0) ∙ e ∙ ap (λ z. z ++ v) n0)
same_front apart r (x ∷ xs) p q u v m n e =
    let (f, g, s, t, w) = m in
    let (f2, g2, s2, t2, w2) = n in
    let whole : f ++ (g ++ u) ≡ f2 ++ (g2 ++ v) = sym (ap (λ z. z ++ u) w ∙ append_assoc f g u) ∙ e ∙ ap (λ z. z ++ v) w2 ∙ append_assoc f2 g2 v in
    let d = apart r r x x f f2 (g ++ u) (g2 ++ v) s s2 whole in
    let h = same_front apart r xs g g2 u v t t2 d.2 in
    (w ∙ ap (λ z. z ++ g) d.1 ∙ ap (λ z. f2 ++ z) h.0 ∙ sym w2, h.1)

-- after some whole texts, this many more lie whole within more bytes
pub whole_within-add : (texts : List (List ℕ)) (p j : ℕ) → p ≤ length texts →
    whole_within texts (length (concat (take p texts)) + j) ≡ p + whole_within (drop p texts) j
whole_within-add texts zero j h =
    let same : 0 + j ≡ j = omega arith in
    let first : whole_within texts (0 + j) ≡ whole_within texts j = ap (whole_within texts) same in
    omega (arith, first)
whole_within-add [] (suc p) j h = absurd (omega (arith, h))
whole_within-add (text ∷ texts) (suc p) j h =
    let size : length (text ++ concat (take p texts)) ≡ length text + length (concat (take p texts)) = length-append text (concat (take p texts)) in
    let k : ℕ = length (text ++ concat (take p texts)) + j in
    let long : length text ≤ k = omega (arith, size) in
    let less : k - length text ≡ length (concat (take p texts)) + j = omega (arith, size) in
    let few : p ≤ length texts = omega (arith, h) in
    let beyond : whole_within texts (k - length text) ≡ p + whole_within (drop p texts) j =
    ap (whole_within texts) less ∙ whole_within-add texts p j few in
    let first : whole_within (text ∷ texts) k ≡ whole_within texts (k - length text) + 1 = whole_within-long text texts k long in
    omega (arith, first, beyond)
