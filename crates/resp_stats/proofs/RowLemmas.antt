-- Rows at their places.
use Rattle.std.proofs.Common.{◌≡◌, ◌≢◌, ℕ, ◌<◌, true, List, [], ◌∷◌, ◌++◌, length, set, refl, ap, zero, suc, sym, subst, arith, length-set}
use Rattle.std.specs.Prelude.{slice_get, Option, Some, IsSomeAnd}
use Rattle.std.specs.Str.{bytes_eq}
use Rattle.std.proofs.lemmas.Bool.Decides.{nat_tests}
use Rattle.resp_stats.specs.Rows.{AddsCall, CountsCall, has_name}
use Rattle.resp_stats.specs.declared.row.Call.{Call}
use Rattle.resp_stats.specs.declared.row.CommandRow.{CommandRow}

get-set_same : (rows : List CommandRow) (i : ℕ) (row : CommandRow) → i < length rows → slice_get (set rows i row) i ≡ Some row
get-set_same [] i row within = absurd (omega (arith, within))
get-set_same (x ∷ rows) zero row within = refl
get-set_same (x ∷ rows) (suc i) row within = get-set_same rows i row (omega (arith, within))

get-set_other : (rows : List CommandRow) (i j : ℕ) (row : CommandRow) → j ≢ i → slice_get (set rows i row) j ≡ slice_get rows j
get-set_other [] i j row apart = refl
get-set_other (x ∷ rows) zero zero row apart = absurd (apart refl)
get-set_other (x ∷ rows) zero (suc j) row apart = refl
get-set_other (x ∷ rows) (suc i) zero row apart = refl
get-set_other (x ∷ rows) (suc i) (suc j) row apart = get-set_other rows i j row (λ e. apart (ap suc e))

pub counts_call : (place : ℕ) (call : Call) (rows : List CommandRow) (before after : CommandRow) → place < length rows →
    slice_get rows place ≡ Some before → AddsCall call before after → CountsCall place call rows (set rows place after)
counts_call place call rows before after within is adds = record {
  counted = subst (λ (o : Option CommandRow). IsSomeAnd o (λ old. IsSomeAnd (slice_get (set rows place after) place) (AddsCall call old))) (sym is)
      (subst (λ (o : Option CommandRow). IsSomeAnd o (AddsCall call before)) (sym (get-set_same rows place after within)) adds);
  others = λ other apart. get-set_other rows place other after apart;
  number = length-set rows place after;
}

bytes_eq-same : (xs : List ℕ) → bytes_eq xs xs ≡ true
bytes_eq-same [] = refl
bytes_eq-same (x ∷ xs) = grind (arith, nat_tests, bytes_eq-same xs)

-- a row that was added has its name
pub added_has : (name : List ℕ) (rows : List CommandRow) (row : CommandRow) → row.name.text.items ≡ name → has_name name (rows ++ row ∷ []) (length rows) ≡ true
added_has name [] row is = subst (λ (text : List ℕ). bytes_eq text name ≡ true) (sym is) (bytes_eq-same name)
added_has name (x ∷ rows) row is = added_has name rows row is
