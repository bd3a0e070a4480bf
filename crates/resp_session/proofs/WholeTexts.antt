-- How many texts lie whole within this many bytes.
use Rattle.std.proofs.Common.{◌≡◌, inl, inr, ℕ, ◌+◌, ◌-◌, ◌<◌, ◌≤◌, if◌then◌else◌, List, [], ◌∷◌, ◌++◌, length, sym, ap, ◌∙◌, arith, length-append}
use Rattle.std.proofs.lemmas.Bool.{lt-ltb, le-ltb, cases_lt}
use Rattle.std.specs.List.{concat}
use Rattle.resp_session.specs.Connections.{whole_within}

-- no text lies whole within fewer bytes than the first has
pub whole_within-short : (text : List ℕ) (texts : List (List ℕ)) (n : ℕ) → n < length text → whole_within (text ∷ texts) n ≡ 0
whole_within-short text texts n h = ap (λ b. if b then 0 else (whole_within texts (n - length text) + 1)) (lt-ltb n (length text) h)

-- where the first text lies whole in the bytes, it is one more than of those after it
pub whole_within-long : (text : List ℕ) (texts : List (List ℕ)) (n : ℕ) → length text ≤ n →
    whole_within (text ∷ texts) n ≡ whole_within texts (n - length text) + 1
whole_within-long text texts n h = ap (λ b. if b then 0 else (whole_within texts (n - length text) + 1)) (le-ltb n (length text) h)

-- no more texts than there are
pub whole_within-most : (texts : List (List ℕ)) (n : ℕ) → whole_within texts n ≤ length texts
whole_within-most [] n = omega arith
whole_within-most (text ∷ texts) n = elim (cases_lt n (length text)) as (λ _. whole_within (text ∷ texts) n ≤ length (text ∷ texts)) [
  | inl h ↦ omega (arith, whole_within-short text texts n h)
  | inr h ↦ omega (arith, whole_within-long text texts n h, whole_within-most texts (n - length text))
]

-- no fewer texts within more bytes
pub whole_within-grows : (texts : List (List ℕ)) (n m : ℕ) → n ≤ m → whole_within texts n ≤ whole_within texts m
whole_within-grows [] n m h = omega arith
whole_within-grows (text ∷ texts) n m h = elim (cases_lt n (length text)) as (λ _. whole_within (text ∷ texts) n ≤ whole_within (text ∷ texts) m) [
  | inl l ↦ omega (arith, whole_within-short text texts n l)
  | inr l ↦
      let k : length text ≤ m = omega (arith, l, h) in
      let d : n - length text ≤ m - length text = omega (arith, l, h) in
      omega (arith, whole_within-long text texts n l, whole_within-long text texts m k, whole_within-grows texts (n - length text) (m - length text) d)
]

-- a text that is sent after the bytes doesn't lie within them
pub whole_within-append : (texts : List (List ℕ)) (text : List ℕ) (n : ℕ) → n ≤ length (concat texts) → 0 < length text →
    whole_within (texts ++ text ∷ []) n ≡ whole_within texts n
whole_within-append [] text n h full = let l : n < length text = omega (arith, h, full) in whole_within-short text [] n l
whole_within-append (first ∷ texts) text n h full = elim (cases_lt n (length first)) as (λ _. whole_within (first ∷ (texts ++ text ∷ [])) n ≡
    whole_within (first ∷ texts) n) [
      | inl l ↦ whole_within-short first (texts ++ text ∷ []) n l ∙ sym (whole_within-short first texts n l)
      | inr l ↦
          let d : n - length first ≤ length (concat texts) = omega (arith, l, h, length-append first (concat texts)) in
          whole_within-long first (texts ++ text ∷ []) n l ∙ ap (λ k. k + 1) (whole_within-append texts text (n - length first) d full) ∙
          sym (whole_within-long first texts n l)
    ]
