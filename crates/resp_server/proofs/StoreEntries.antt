-- A store's entries, as bytes.
use Rattle.std.proofs.Common.{◌≡◌, ℕ, ◌||◌, Bool, true, false, not, cond, filter, List, [], ◌∷◌, Vec, Global, refl, sym, ap, ◌∙◌}
use Rattle.std.specs.List.{list_any}
use Rattle.std.specs.Str.{bytes_eq}
use Rattle.resp_session.specs.Stores.{Store, store_without}

abbrev pub Bytes : Type 0
Bytes = Vec ℕ Global

stays_by : {es : Store} (a b : Bool) (e : List ℕ × List ℕ) (rest : Store) (q : List ℕ × List ℕ → Bool) → q e ≡ not b → es ≡ filter q rest →
    cond (not (a || b)) (e ∷ es) es ≡ filter q (cond (not a) (e ∷ rest) rest)
stays_by true b e rest q is h = h
stays_by false true e rest q is h = h ∙ sym (ap (λ c. cond c (e ∷ filter q rest) (filter q rest)) is)
stays_by false false e rest q is h = ap (λ l. e ∷ l) h ∙ sym (ap (λ c. cond c (e ∷ filter q rest) (filter q rest)) is)

or_false : (a : Bool) → (a || false) ≡ a
or_false true = refl
or_false false = refl

-- entries without a key, and then without others
pub without_first : (store : Store) (key : List ℕ) (keys : List (List ℕ)) →
    store_without store (key ∷ keys) ≡ store_without (store_without store (key ∷ [])) keys
without_first [] key keys = refl
without_first (e ∷ es) key keys =
    let others = λ (f : List ℕ × List ℕ). not (list_any (bytes_eq f.0) keys) in
    let left = store_without es (key ∷ []) in
    stays_by (bytes_eq e.0 key) (list_any (bytes_eq e.0) keys) e left others refl (without_first es key keys) ∙
    sym (ap (λ b. filter others (cond (not b) (e ∷ left) left)) (or_false (bytes_eq e.0 key)))

-- without any key named, all entries stay
pub without_none : (store : Store) → store_without store [] ≡ store
without_none [] = refl
without_none (e ∷ es) = ap (λ l. e ∷ l) (without_none es)
