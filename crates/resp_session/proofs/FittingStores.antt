-- A store stays within the limits, and no more entries go than keys are named.
use Rattle.std.proofs.Common.{◌≡◌, inl, inr, ℕ, ◌-◌, ◌≤◌, ◌||◌, Bool, true, false, not, cond, filter, List, [], ◌∷◌, ◌++◌, length, refl, sym, ap, subst, arith}
use Rattle.std.specs.List.{AllByRecursion, IsDistinct, list_any}
use Rattle.std.specs.Map.{keys_of}
use Rattle.std.specs.Set.{is_member}
use Rattle.std.specs.Str.{bytes_eq}
use Rattle.std.proofs.lemmas.Bool.{cond_both, or_cases}
use Rattle.std.proofs.lemmas.Cmp.{nat_list_eq_equiv}
use Rattle.std.specs.Cmp.Lexicographic.{bytes_decides}
use Rattle.std.proofs.lemmas.List.Filters.{length-filter_both}
use Rattle.std.proofs.lemmas.Map.Entries.{length-keys_of}
use Rattle.std.proofs.lemmas.Map.Keys.{IsDistinct-push}
use Rattle.std.proofs.lemmas.Map.Made.{length-le_from_is_member, IsDistinct-keys_filter}
use Rattle.resp_value.specs.Bounds.{Bounds}
use Rattle.resp_session.specs.Fitting.{FitsBulk, FitsStore}
use Rattle.resp_session.specs.Stores.{Store, store_with, store_without}

kept_first : (key : List ℕ) (keys others : List (List ℕ)) (there : Bool) (first : List ℕ) → others ≡ cond there keys (keys ++ key ∷ []) →
    first ∷ others ≡ cond there (first ∷ keys) (first ∷ (keys ++ key ∷ []))
kept_first key keys others true first e = ap (λ l. first ∷ l) e
kept_first key keys others false first e = ap (λ l. first ∷ l) e

first_or_later : (e : List ℕ × List ℕ) (es : Store) (key value : List ℕ) (same : Bool) →
    keys_of (store_with es key value) ≡ cond (is_member bytes_eq (keys_of es) key) (keys_of es) (keys_of es ++ key ∷ []) →
    keys_of (cond same ((e.0, value) ∷ es) (e ∷ store_with es key value)) ≡
    cond (same || is_member bytes_eq (keys_of es) key) (e.0 ∷ keys_of es) (e.0 ∷ (keys_of es ++ key ∷ []))
first_or_later e es key value true h = refl
first_or_later e es key value false h =
    kept_first key (keys_of es) (keys_of (store_with es key value)) (is_member bytes_eq (keys_of es) key) e.0 h

-- a key more, where it isn't there
keys_of-store_with : (store : Store) (key value : List ℕ) → keys_of (store_with store key value) ≡
    cond (is_member bytes_eq (keys_of store) key) (keys_of store) (keys_of store ++ key ∷ [])
keys_of-store_with [] key value = refl
keys_of-store_with (e ∷ es) key value = first_or_later e es key value (bytes_eq key e.0) (keys_of-store_with es key value)

pushed : (keys : List (List ℕ)) (key : List ℕ) (there : Bool) → is_member bytes_eq keys key ≡ there → IsDistinct bytes_eq keys →
    IsDistinct bytes_eq (cond there keys (keys ++ key ∷ []))
pushed keys key true e h = h
pushed keys key false e h = IsDistinct-push nat_list_eq_equiv keys key h e

with_values : (limits : Bounds) (store : Store) (key value : List ℕ) → FitsBulk limits value →
    AllByRecursion (λ (e : List ℕ × List ℕ). FitsBulk limits e.1) store →
    AllByRecursion (λ (e : List ℕ × List ℕ). FitsBulk limits e.1) (store_with store key value)
with_values limits [] key value fits h = (fits, tt)
with_values limits (e ∷ es) key value fits h =
    cond_both (bytes_eq key e.0) ((e.0, value) ∷ es) (e ∷ store_with es key value) (AllByRecursion (λ (e : List ℕ × List ℕ). FitsBulk limits e.1))
    (λ same. (fits, h.1)) (λ other. (h.0, with_values limits es key value fits h.1))

pub store_with_fits : (limits : Bounds) (store : Store) (key value : List ℕ) → FitsBulk limits value → FitsStore limits store →
    FitsStore limits (store_with store key value)
store_with_fits limits store key value fits h = record {
  distinct = subst (IsDistinct bytes_eq) (sym (keys_of-store_with store key value))
      (pushed (keys_of store) key (is_member bytes_eq (keys_of store) key) refl h.distinct);
  values = with_values limits store key value fits h.values;
}

filter_values : (limits : Bounds) (p : List ℕ × List ℕ → Bool) (store : Store) → AllByRecursion (λ (e : List ℕ × List ℕ). FitsBulk limits e.1) store →
    AllByRecursion (λ (e : List ℕ × List ℕ). FitsBulk limits e.1) (filter p store)
filter_values limits p [] h = tt
filter_values limits p (e ∷ es) h =
    cond_both (p e) (e ∷ filter p es) (filter p es) (AllByRecursion (λ (e : List ℕ × List ℕ). FitsBulk limits e.1))
    (λ kept. (h.0, filter_values limits p es h.1)) (λ gone. filter_values limits p es h.1)

pub store_without_fits : (limits : Bounds) (store : Store) (keys : List (List ℕ)) → FitsStore limits store → FitsStore limits (store_without store keys)
store_without_fits limits store keys h =
    let stays = λ (e : List ℕ × List ℕ). not (list_any (bytes_eq e.0) keys) in
    record {
      distinct = IsDistinct-keys_filter bytes_eq stays store h.distinct;
      values = filter_values limits stays store h.values;
    }

among_first : (keys : List (List ℕ)) (e : List ℕ × List ℕ) (rest : Store) (q : List ℕ) (goes : Bool) → list_any (bytes_eq e.0) keys ≡ goes →
    (is_member bytes_eq (keys_of rest) q ≡ true → is_member bytes_eq keys q ≡ true) →
    is_member bytes_eq (keys_of (cond goes (e ∷ rest) rest)) q ≡ true → is_member bytes_eq keys q ≡ true
among_first keys e rest q false is others h = others h
among_first keys e rest q true is others h =
    elim (or_cases (bytes_eq q e.0) (is_member bytes_eq (keys_of rest) q) h) as (λ _. is_member bytes_eq keys q ≡ true) [
      | inl same ↦ subst (λ k. list_any (bytes_eq k) keys ≡ true) (sym ((bytes_decides q e.0).0 same)) is
      | inr later ↦ others later
    ]

-- the key of an entry that goes is among the keys that are named
among : (keys : List (List ℕ)) (store : Store) (q : List ℕ) →
    is_member bytes_eq (keys_of (filter (λ (e : List ℕ × List ℕ). list_any (bytes_eq e.0) keys) store)) q ≡ true → is_member bytes_eq keys q ≡ true
among keys [] q h = absurd (cc)
among keys (e ∷ es) q h =
    among_first keys e (filter (λ (e : List ℕ × List ℕ). list_any (bytes_eq e.0) keys) es) q (list_any (bytes_eq e.0) keys) refl (among keys es q) h

-- no more entries go than keys are named
pub few_go : (store : Store) (keys : List (List ℕ)) → IsDistinct bytes_eq (keys_of store) → length store - length (store_without store keys) ≤ length keys
few_go store keys distinct =
    let goes = λ (e : List ℕ × List ℕ). list_any (bytes_eq e.0) keys in
    let gone = filter goes store in
    let both = length-filter_both goes (λ e. not (goes e)) (λ e. refl) store in
    let fewer : length (keys_of gone) ≤ length keys = length-le_from_is_member nat_list_eq_equiv (keys_of gone) keys
    (IsDistinct-keys_filter bytes_eq goes store distinct) (among keys store) in
    let same = length-keys_of gone in
    omega (arith, both, fewer, same)
