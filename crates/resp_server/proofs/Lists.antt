-- Lists of databases.
use Rattle.std.proofs.Common.{◌≡◌, ℕ, zero, suc, ◌+◌, List, [], ◌∷◌, ◌++◌, length, map, replicate, None, Some, refl, ap, subst, sym, ◌∙◌, arith, length-append}
use Rattle.std.specs.List.{AllByRecursion}
use Rattle.std.specs.Option.{option_map}
use Rattle.std.specs.Prelude.{set, slice_get, unwrap_or}
use Rattle.std.proofs.lemmas.List.{length-map, map-append, map-set, set-get_or}
use Rattle.std.proofs.lemmas.Option.{slice_get-map, unwrap_or-slice_get}
use Rattle.std.specs.Str.{bytes_eq}
use Rattle.std.proofs.lemmas.Map.Keys.{IsDistinct-from_apart}
use Rattle.resp_value.specs.Bounds.{Bounds}
use Rattle.resp_server.specs.declared.database.Database.{Database}
use Rattle.resp_session.specs.Fitting.{FitsStore}
use Rattle.resp_session.specs.Stores.{Store}
use Rattle.resp_server.specs.Outcomes.{Standing, keys_in, store_of, stores_with}
use Rattle.resp_server.specs.Servers.{IsWithin, stores_in}

-- an element is replaced by another one of which this holds
pub all_set : {X : Type 0} (P : X → Type 0) (xs : List X) (i : ℕ) (x : X) → AllByRecursion P xs → P x → AllByRecursion P (set xs i x)
all_set P [] i x all here = tt
all_set P (y ∷ ys) zero x all here = (here, all.1)
all_set P (y ∷ ys) (suc i) x all here = (all.0, all_set P ys i x all.1 here)

-- what holds of all elements holds of this one
pub all_at : {X : Type 0} (P : X → Type 0) (xs : List X) (i : ℕ) (x : X) → slice_get xs i ≡ Some x → AllByRecursion P xs → P x
all_at P [] i x there all = absurd (cc)
all_at P (y ∷ ys) zero x there all = let same : y ≡ x = cc in subst P same all.0
all_at P (y ∷ ys) (suc i) x there all = all_at P ys i x there all.1

-- what holds of all elements and of one more holds of all with this one
pub all_pushed : {X : Type 0} (P : X → Type 0) (xs : List X) (x : X) → AllByRecursion P xs → P x → AllByRecursion P (xs ++ x ∷ [])
all_pushed P [] x all here = (here, tt)
all_pushed P (y ∷ ys) x all here = (all.0, all_pushed P ys x all.1 here)

-- one more of the same
pub pushed_replicate : {X : Type 0} (n : ℕ) (x : X) → replicate n x ++ x ∷ [] ≡ replicate (suc n) x
pushed_replicate zero x = refl
pushed_replicate (suc n) x = ap (λ l. x ∷ l) (pushed_replicate n x)

-- the stores of which the first ones have been emptied
abbrev pub emptied : ℕ → List Store → List Store
emptied zero stores = stores
emptied (suc n) [] = []
emptied (suc n) (store ∷ stores) = [] ∷ emptied n stores

-- one more store is emptied
pub emptied_more : (n : ℕ) (stores : List Store) → set (emptied n stores) n [] ≡ emptied (suc n) stores
emptied_more zero [] = refl
emptied_more zero (store ∷ stores) = refl
emptied_more (suc n) [] = refl
emptied_more (suc n) (store ∷ stores) = ap (λ rest. [] ∷ rest) (emptied_more n stores)

-- all stores are emptied
pub emptied_all : (stores : List Store) → emptied (length stores) stores ≡ map (λ store. []) stores
emptied_all [] = refl
emptied_all (store ∷ stores) = ap (λ rest. [] ∷ rest) (emptied_all stores)

-- the store of a client is that of its database
pub store_there : {S H : Type 0} (databases : List (Database S H)) (c : Standing) (d : Database S H) → slice_get databases c.database ≡ Some d →
    store_of (stores_in databases) c ≡ d.store
store_there {S} {H} databases c d there =
    ap (λ o. unwrap_or o []) (slice_get-map (λ (e : Database S H). e.store) databases c.database ∙ ap (option_map (λ (e : Database S H). e.store)) there)

-- a client without a database has no store
pub no_store : {S H : Type 0} (databases : List (Database S H)) (c : Standing) → slice_get databases c.database ≡ None → store_of (stores_in databases) c ≡ []
no_store {S} {H} databases c there =
    ap (λ o. unwrap_or o []) (slice_get-map (λ (e : Database S H). e.store) databases c.database ∙ ap (option_map (λ (e : Database S H). e.store)) there)

-- a store that is put back changes nothing
pub same_stores : (stores : List Store) (c : Standing) → stores_with stores c (store_of stores c) ≡ stores
same_stores stores c = ap (λ s. set stores c.database s) (unwrap_or-slice_get stores c.database []) ∙ set-get_or stores c.database []

-- a database without a key is within the limits
pub empty_within : {S H : Type 0} (limits : Bounds) (d : Database S H) → d.limits ≡ limits → d.store ≡ [] → IsWithin limits d
empty_within limits d same none = record {
  same_limits = same;
  fits = subst (FitsStore limits) (sym none) (record {
    distinct = IsDistinct-from_apart bytes_eq [] (λ i j d before within. absurd (omega (arith, within)));
    values = tt;
  });
}

-- the first databases have these limits and no key
pub record AreEmpty {S H : Type 0} (limits : Bounds) (n : ℕ) (databases : List (Database S H)) : Type 0 where
  pub count : length databases ≡ n
  pub within : AllByRecursion (IsWithin limits) databases
  pub stores : stores_in databases ≡ replicate n []

-- no database was made
pub none_empty : {S H : Type 0} (limits : Bounds) (databases : List (Database S H)) → databases ≡ [] → AreEmpty limits 0 databases
none_empty limits [] none = record { count = refl; within = tt; stores = refl }
none_empty limits (d ∷ databases) none = absurd (cc)

-- one more database has no key
pub one_more_empty : {S H : Type 0} (limits : Bounds) (n : ℕ) (databases : List (Database S H)) (d : Database S H) → AreEmpty limits n databases →
    d.limits ≡ limits → d.store ≡ [] → AreEmpty limits (n + 1) (databases ++ d ∷ [])
one_more_empty {S} {H} limits n databases d e same none = record {
  count = length-append databases (d ∷ []) ∙ (let c = e.count in omega (arith, c));
  within = all_pushed (IsWithin limits) databases d e.within (empty_within limits d same none);
  stores = map-append (λ (x : Database S H). x.store) databases (d ∷ []) ∙ ap (λ l. l ++ d.store ∷ []) e.stores ∙
      ap (λ x. replicate n [] ++ x ∷ []) none ∙ pushed_replicate n [] ∙ (let one : suc n ≡ n + 1 = omega arith in ap (λ k. replicate k []) one);
}

-- a database is replaced by one without a key
pub emptied_at : {S H : Type 0} (databases : List (Database S H)) (i : ℕ) (d : Database S H) → d.store ≡ [] →
    stores_in (set databases i d) ≡ set (stores_in databases) i []
emptied_at {S} {H} databases i d none =
    map-set (λ (e : Database S H). e.store) databases i d ∙ ap (λ s. set (stores_in databases) i s) none

-- each database has a store
pub stores_count : {S H : Type 0} (databases : List (Database S H)) → length (stores_in databases) ≡ length databases
stores_count {S} {H} databases = length-map databases (λ (e : Database S H). e.store)

-- an empty store has none of these keys
pub no_keys : (keys : List (List ℕ)) → keys_in [] keys ≡ []
no_keys [] = refl
no_keys (key ∷ keys) = no_keys keys
