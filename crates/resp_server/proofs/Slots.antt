-- Lists with empty slots, and what the store's words are on what they hold.
use Rattle.std.proofs.Common.{◌≡◌, ℕ, zero, suc, ◌+◌, ◌<◌, ◌||◌, Bool, true, false, not, cond, set, take, List, [], ◌∷◌, ◌++◌, length, Option, None, Some, refl, sym, ap, ◌∙◌, arith}
use Rattle.std.specs.Cmp.Lexicographic.{bytes_decides}
use Rattle.std.specs.List.{slice_get}
use Rattle.std.specs.Map.{lookup}
use Rattle.std.specs.Str.{bytes_eq}
use Rattle.resp_session.specs.Stores.{store_with, store_without}
use Rattle.resp_server.specs.Entries.{somes}

-- ---- lists by their indices

pub get_set_same : {X : Type 0} {x : X} (xs : List X) (i : ℕ) (y : X) → slice_get xs i ≡ Some y → slice_get (set xs i x) i ≡ Some x
get_set_same [] i y h = absurd (cc)
get_set_same (z ∷ zs) zero y h = refl
get_set_same (z ∷ zs) (suc i) y h = get_set_same zs i y h

pub get_set_other : {X : Type 0} (xs : List X) (i j : ℕ) (x : X) → (j ≡ i → ⊥) → slice_get (set xs i x) j ≡ slice_get xs j
get_set_other [] i j x apart = refl
get_set_other (z ∷ zs) zero zero x apart = absurd (apart refl)
get_set_other (z ∷ zs) zero (suc j) x apart = refl
get_set_other (z ∷ zs) (suc i) zero x apart = refl
get_set_other (z ∷ zs) (suc i) (suc j) x apart = get_set_other zs i j x (λ same. apart (ap suc same))

pub get_take : {X : Type 0} (xs : List X) (n j : ℕ) → j < n → slice_get (take n xs) j ≡ slice_get xs j
get_take [] zero j within = refl
get_take [] (suc n) j within = refl
get_take (x ∷ xs) zero j within = absurd (omega (arith, within))
get_take (x ∷ xs) (suc n) zero within = refl
get_take (x ∷ xs) (suc n) (suc j) within = get_take xs n j (omega (arith, within))

none_some : {X : Type 0} {x : X} → None ≡ Some x → ⊥
none_some e = absurd (cc)

-- lists with the same item at each index are the same
pub same_slots : {X : Type 0} (xs ys : List X) → ((k : ℕ) → slice_get xs k ≡ slice_get ys k) → xs ≡ ys
same_slots [] [] h = refl
same_slots [] (y ∷ ys) h = absurd (none_some (h 0))
same_slots (x ∷ xs) [] h = absurd (none_some (sym (h 0)))
same_slots (x ∷ xs) (y ∷ ys) h =
    let first : Some x ≡ Some y = h 0 in
    let same : x ≡ y = cc in
    ap (λ z. z ∷ xs) same ∙ ap (λ zs. y ∷ zs) (same_slots xs ys (λ k. h (suc k)))

-- ---- keys

abbrev pub Slots : Type 0
Slots = List (Option (List ℕ × List ℕ))

-- no slot but this has the key
abbrev pub IsOnly : List ℕ → ℕ → Slots → Type 0
IsOnly key r slots = (s : ℕ) (v : List ℕ) → slice_get slots s ≡ Some (Some (key, v)) → s ≡ r

-- no slot has the key
abbrev pub IsAbsent : List ℕ → Slots → Type 0
IsAbsent key slots = (s : ℕ) (v : List ℕ) → slice_get slots s ≡ Some (Some (key, v)) → ⊥

apart_by : (a b : List ℕ) → (a ≡ b → ⊥) → (c : Bool) → bytes_eq a b ≡ c → bytes_eq a b ≡ false
apart_by a b apart true e = absurd (apart ((bytes_decides a b).0 e))
apart_by a b apart false e = e

apart_keys : (a b : List ℕ) → (a ≡ b → ⊥) → bytes_eq a b ≡ false
apart_keys a b apart = apart_by a b apart (bytes_eq a b) refl

same_keys : (a : List ℕ) → bytes_eq a a ≡ true
same_keys a = (bytes_decides a a).1 refl

-- the slot at the front has another key
apart_front : (key : List ℕ) (e : List ℕ × List ℕ) (slots : Slots) → IsAbsent key (Some e ∷ slots) → key ≡ e.0 → ⊥
apart_front key e slots absent same = absent 0 e.1 (ap (λ (k : List ℕ). Some (Some (k, e.1))) (sym same))

apart_only : (key : List ℕ) (r : ℕ) (e : List ℕ × List ℕ) (slots : Slots) → IsOnly key (suc r) (Some e ∷ slots) → key ≡ e.0 → ⊥
apart_only key r e slots only same =
    let front : 0 ≡ suc r = only 0 e.1 (ap (λ (k : List ℕ). Some (Some (k, e.1))) (sym same)) in omega (arith, front)

only_tail : (key : List ℕ) (r : ℕ) (o : Option (List ℕ × List ℕ)) (slots : Slots) → IsOnly key (suc r) (o ∷ slots) → IsOnly key r slots
only_tail key r o slots only s v at = let same : suc s ≡ suc r = only (suc s) v at in omega (arith, same)

absent_tail : (key : List ℕ) (o : Option (List ℕ × List ℕ)) (slots : Slots) → IsAbsent key (o ∷ slots) → IsAbsent key slots
absent_tail key o slots absent s v at = absent (suc s) v at

absent_after : (key : List ℕ) (o : Option (List ℕ × List ℕ)) (slots : Slots) → IsOnly key 0 (o ∷ slots) → IsAbsent key slots
absent_after key o slots only s v at = let same : suc s ≡ 0 = only (suc s) v at in omega (arith, same)

-- a look-up of a key that no slot has
pub lookup_absent : (key : List ℕ) (slots : Slots) → IsAbsent key slots → lookup (bytes_eq key) (somes slots) ≡ None
lookup_absent key [] absent = refl
lookup_absent key (None ∷ slots) absent = lookup_absent key slots (absent_tail key None slots absent)
lookup_absent key (Some e ∷ slots) absent =
    ap (λ b. cond b (Some e.1) (lookup (bytes_eq key) (somes slots))) (apart_keys key e.0 (apart_front key e slots absent)) ∙
    lookup_absent key slots (absent_tail key (Some e) slots absent)

-- and of one that a slot has
pub lookup_only : {value : List ℕ} (key : List ℕ) (r : ℕ) (slots : Slots) → IsOnly key r slots → slice_get slots r ≡ Some (Some (key, value)) →
    lookup (bytes_eq key) (somes slots) ≡ Some value
lookup_only key r [] only at = absurd (cc)
lookup_only key zero (None ∷ slots) only at = absurd (cc)
lookup_only {value} key zero (Some e ∷ slots) only at =
    let same : e ≡ (key, value) = cc in
    ap (λ (f : List ℕ × List ℕ). cond (bytes_eq key f.0) (Some f.1) (lookup (bytes_eq key) (somes slots))) same ∙
    ap (λ b. cond b (Some value) (lookup (bytes_eq key) (somes slots))) (same_keys key)
lookup_only key (suc r) (None ∷ slots) only at = lookup_only key r slots (only_tail key r None slots only) at
lookup_only key (suc r) (Some e ∷ slots) only at =
    ap (λ b. cond b (Some e.1) (lookup (bytes_eq key) (somes slots))) (apart_keys key e.0 (apart_only key r e slots only)) ∙
    lookup_only key r slots (only_tail key r (Some e) slots only) at

-- the value of a key that a slot has
pub with_only : (key old value : List ℕ) (r : ℕ) (slots : Slots) → IsOnly key r slots → slice_get slots r ≡ Some (Some (key, old)) →
    store_with (somes slots) key value ≡ somes (set slots r (Some (key, value)))
with_only key old value r [] only at = absurd (cc)
with_only key old value zero (None ∷ slots) only at = absurd (cc)
with_only key old value zero (Some e ∷ slots) only at =
    let same : e ≡ (key, old) = cc in
    ap (λ (f : List ℕ × List ℕ). cond (bytes_eq key f.0) ((f.0, value) ∷ somes slots) (f ∷ store_with (somes slots) key value)) same ∙
    ap (λ b. cond b ((key, value) ∷ somes slots) ((key, old) ∷ store_with (somes slots) key value)) (same_keys key)
with_only key old value (suc r) (None ∷ slots) only at = with_only key old value r slots (only_tail key r None slots only) at
with_only key old value (suc r) (Some e ∷ slots) only at =
    ap (λ b. cond b ((e.0, value) ∷ somes slots) (e ∷ store_with (somes slots) key value)) (apart_keys key e.0 (apart_only key r e slots only)) ∙
    ap (λ es. e ∷ es) (with_only key old value r slots (only_tail key r (Some e) slots only) at)

-- a new key goes last
pub with_new : (key value : List ℕ) (slots : Slots) → IsAbsent key slots →
    store_with (somes slots) key value ≡ somes (slots ++ Some (key, value) ∷ [])
with_new key value [] absent = refl
with_new key value (None ∷ slots) absent = with_new key value slots (absent_tail key None slots absent)
with_new key value (Some e ∷ slots) absent =
    ap (λ b. cond b ((e.0, value) ∷ somes slots) (e ∷ store_with (somes slots) key value)) (apart_keys key e.0 (apart_front key e slots absent)) ∙
    ap (λ es. e ∷ es) (with_new key value slots (absent_tail key (Some e) slots absent))

-- without a key that no slot has
pub without_absent : (key : List ℕ) (slots : Slots) → IsAbsent key slots → store_without (somes slots) (key ∷ []) ≡ somes slots
without_absent key [] absent = refl
without_absent key (None ∷ slots) absent = without_absent key slots (absent_tail key None slots absent)
without_absent key (Some e ∷ slots) absent =
    ap (λ b. cond (not (b || false)) (e ∷ store_without (somes slots) (key ∷ [])) (store_without (somes slots) (key ∷ [])))
    (apart_keys e.0 key (λ same. apart_front key e slots absent (sym same))) ∙
    ap (λ es. e ∷ es) (without_absent key slots (absent_tail key (Some e) slots absent))

-- and without one that a slot has
pub without_only : (key value : List ℕ) (r : ℕ) (slots : Slots) → IsOnly key r slots → slice_get slots r ≡ Some (Some (key, value)) →
    store_without (somes slots) (key ∷ []) ≡ somes (set slots r None)
without_only key value r [] only at = absurd (cc)
without_only key value zero (None ∷ slots) only at = absurd (cc)
without_only key value zero (Some e ∷ slots) only at =
    let same : e ≡ (key, value) = cc in
    let here : bytes_eq e.0 key ≡ true = ap (λ (f : List ℕ × List ℕ). bytes_eq f.0 key) same ∙ same_keys key in
    ap (λ b. cond (not (b || false)) (e ∷ store_without (somes slots) (key ∷ [])) (store_without (somes slots) (key ∷ []))) here ∙
    without_absent key slots (absent_after key (Some e) slots only)
without_only key value (suc r) (None ∷ slots) only at = without_only key value r slots (only_tail key r None slots only) at
without_only key value (suc r) (Some e ∷ slots) only at =
    ap (λ b. cond (not (b || false)) (e ∷ store_without (somes slots) (key ∷ [])) (store_without (somes slots) (key ∷ [])))
    (apart_keys e.0 key (λ same. apart_only key r e slots only (sym same))) ∙
    ap (λ es. e ∷ es) (without_only key value r slots (only_tail key r (Some e) slots only) at)

-- which has one entry less
pub fewer : {X : Type 0} (slots : List (Option X)) (r : ℕ) (x : X) → slice_get slots r ≡ Some (Some x) →
    length (somes (set slots r None)) + 1 ≡ length (somes slots)
fewer [] r x at = absurd (cc)
fewer (None ∷ slots) zero x at = absurd (cc)
fewer (Some y ∷ slots) zero x at = omega arith
fewer (None ∷ slots) (suc r) x at = fewer slots r x at
fewer (Some y ∷ slots) (suc r) x at = let rest = fewer slots r x at in omega (arith, rest)
