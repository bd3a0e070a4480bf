-- What is among the elements of a list, and results that may be absent.
use Rattle.std.proofs.Common.{◌≡◌, ◌⊎◌, ◌∙◌, ℕ, ◌+◌, ◌-◌, ◌<◌, ◌≤◌, List, [], ◌∷◌, ◌++◌, Option, None, Some, IfNone, ap, arith, get_or, inl, inr, length, length-append, refl, sym}
use Rattle.std.specs.List.{IsAmong, remove}
use Rattle.std.proofs.Math.ListN.{get_or-append}
use Rattle.std.proofs.Math.Seq.{get_or-append_right, get_or-append_seam}
use Rattle.std.proofs.lemmas.Bool.{cases_lt}
use Rattle.std.proofs.lemmas.List.Edits.{get_or-remove_above, get_or-remove_below, length-remove}

-- elements of the first of two lists
pub among_front : {X : Type 0} (xs ys : List X) (x : X) → IsAmong xs x → IsAmong (xs ++ ys) x
among_front xs ys x (i, (within, is)) = (i, (simp length-append (omega arith), is ∙ sym (get_or-append xs ys x i within)))

-- the last element
pub among_last : {X : Type 0} (xs : List X) (x : X) → IsAmong (xs ++ x ∷ []) x
among_last xs x = (length xs, (simp length-append (omega arith), sym (get_or-append_seam xs x [] x)))

at_zero : {X : Type 0} (y x : X) (i n : ℕ) → i < n + 1 → n ≤ i → get_or (y ∷ []) (i - n) x ≡ y
at_zero y x i n below above = let e : i - n ≡ 0 = omega arith in rw e refl

-- an element is the last one or one before it
pub among_either : {X : Type 0} (xs : List X) (y x : X) → IsAmong (xs ++ y ∷ []) x → IsAmong xs x ⊎ (x ≡ y)
among_either xs y x (i, (within, is)) =
    elim (cases_lt i (length xs)) [
      | inl less ↦ inl (i, (less, is ∙ get_or-append xs (y ∷ []) x i less))
      | inr more ↦
          let below : i < length xs + 1 = omega (arith, simp length-append at within) in
          inr (is ∙ get_or-append_right xs (y ∷ []) i x more ∙ at_zero y x i (length xs) below more)
    ]

-- what is left after an element was removed was there before
pub among_removed : {X : Type 0} (xs : List X) (i : ℕ) (x : X) → i < length xs → IsAmong (remove xs i) x → IsAmong xs x
among_removed xs i x inside (k, (within, is)) =
    let size = length-remove xs i inside in
    elim (cases_lt k i) [
      | inl less ↦ (k, (omega (arith, size), is ∙ get_or-remove_below xs i x k less inside))
      | inr more ↦ (k + 1, (omega (arith, size), is ∙ get_or-remove_above xs i x k more inside))
    ]

same_place : {X : Type 0} (xs : List X) (x : X) (i k : ℕ) → k ≡ i → x ≡ get_or xs k x → x ≡ get_or xs i x
same_place xs x i k e is = rw (← e) is

-- an element is the removed one, or it is still there
pub removed_or_among : {X : Type 0} (xs : List X) (i : ℕ) (x : X) → i < length xs → IsAmong xs x →
    (x ≡ get_or xs i x) ⊎ IsAmong (remove xs i) x
removed_or_among xs i x inside (k, (within, is)) =
    let size = length-remove xs i inside in
    elim (cases_lt k i) [
      | inl less ↦ inr (k, (omega (arith, size), is ∙ sym (get_or-remove_below xs i x k less inside)))
      | inr more ↦ elim (cases_lt i k) [
        | inl above ↦
            let e : k ≡ (k - 1) + 1 = omega arith in
            let at : get_or (remove xs i) (k - 1) x ≡ get_or xs ((k - 1) + 1) x = get_or-remove_above xs i x (k - 1) (omega arith) inside in
            let back : get_or xs k x ≡ get_or xs ((k - 1) + 1) x = ap (λ n. get_or xs n x) e in
            inr (k - 1, (omega (arith, size), is ∙ back ∙ sym at))
        | inr equal ↦ inl (same_place xs x i k (omega arith) is)
      ]
    ]

-- a fact about an absent result
pub none_of : {X : Type 0} (r : Option X) (P : Type 0) → P → IfNone r P
none_of None P p = p
none_of (Some x) P p = tt
