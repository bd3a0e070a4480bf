-- Rows of errors at their places.
use Rattle.std.proofs.Common.{◌≡◌, ◌≢◌, ℕ, ◌<◌, true, List, [], ◌∷◌, ◌++◌, length, set, refl, ap, zero, suc, sym, subst, arith, length-set}
use Rattle.std.specs.Prelude.{slice_get, Option, Some, IsSomeAnd}
use Rattle.std.specs.Cmp.Lexicographic.{bytes_decides}
use Rattle.std.specs.Str.{bytes_eq}
use Rattle.resp_proxy.specs.ErrorRows.{AddsError, CountsError, has_word}
use Rattle.resp_proxy.specs.declared.error_counts.ErrorRow.{ErrorRow}

get-set_same : (rows : List ErrorRow) (i : ℕ) (row : ErrorRow) → i < length rows → slice_get (set rows i row) i ≡ Some row
get-set_same [] i row within = absurd (omega (arith, within))
get-set_same (x ∷ rows) zero row within = refl
get-set_same (x ∷ rows) (suc i) row within = get-set_same rows i row (omega (arith, within))

get-set_other : (rows : List ErrorRow) (i j : ℕ) (row : ErrorRow) → j ≢ i → slice_get (set rows i row) j ≡ slice_get rows j
get-set_other [] i j row apart = refl
get-set_other (x ∷ rows) zero zero row apart = absurd (apart refl)
get-set_other (x ∷ rows) zero (suc j) row apart = refl
get-set_other (x ∷ rows) (suc i) zero row apart = refl
get-set_other (x ∷ rows) (suc i) (suc j) row apart = get-set_other rows i j row (λ e. apart (ap suc e))

pub counts_error : (place : ℕ) (rows : List ErrorRow) (before after : ErrorRow) → place < length rows →
    slice_get rows place ≡ Some before → AddsError before after → CountsError place rows (set rows place after)
counts_error place rows before after within is adds = record {
  counted = subst (λ (o : Option ErrorRow). IsSomeAnd o (λ old. IsSomeAnd (slice_get (set rows place after) place) (AddsError old))) (sym is)
      (subst (λ (o : Option ErrorRow). IsSomeAnd o (AddsError before)) (sym (get-set_same rows place after within)) adds);
  others = λ other apart. get-set_other rows place other after apart;
  number = length-set rows place after;
}

-- a row that was added is that of its word
pub added_has : (word : List ℕ) (rows : List ErrorRow) (row : ErrorRow) → row.word.items ≡ word → has_word word (rows ++ row ∷ []) (length rows) ≡ true
added_has word [] row is = subst (λ (text : List ℕ). bytes_eq text word ≡ true) (sym is) ((bytes_decides word word).1 refl)
added_has word (x ∷ rows) row is = added_has word rows row is
