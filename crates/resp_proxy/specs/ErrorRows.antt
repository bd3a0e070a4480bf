-- Errors that are counted by the first words of their texts.
use Rattle.std.specs.Prelude.{◌≡◌, ◌≢◌, ◌⊎◌, ℕ, ◌+◌, Bool, false, List, [], ◌∷◌, ◌++◌, length, min, slice_get, Option, None, Some, IsSomeAnd}
use Rattle.std.specs.Str.{bytes_eq}
use Rattle.resp_proxy.specs.declared.error_counts.ErrorRow.{ErrorRow}

-- the greatest count
abbrev pub last_count : ℕ
last_count = 18446744073709551615

-- one error more; a count stays at its greatest value
pub record AddsError (old new : ErrorRow) : Type 0 where
  pub word : new.word ≡ old.word
  pub count : new.count ≡ min (old.count + 1) last_count

-- one error more is counted in the row at this place, and the other rows stay as they are
pub record CountsError (place : ℕ) (old new : List ErrorRow) : Type 0 where
  pub counted : IsSomeAnd (slice_get old place) (λ before. IsSomeAnd (slice_get new place) (AddsError before))
  pub others : (other : ℕ) → other ≢ place → slice_get new other ≡ slice_get old other
  pub number : length new ≡ length old

-- a row of this word, without errors
abbrev pub IsNewRow : List ℕ → ErrorRow → Type 0
IsNewRow word row = (row.word.items ≡ word) × (row.count ≡ 0)

-- the rows stay as they are, or a row of this word is added at the end
abbrev pub MayAddRow : List ℕ → List ErrorRow → List ErrorRow → Type 0
MayAddRow word old new = (new ≡ old) ⊎ ((row : ErrorRow) × IsNewRow word row × (new ≡ old ++ row ∷ []))

-- whether a row is that of this word
abbrev pub row_has : List ℕ → Option ErrorRow → Bool
row_has word None = false
row_has word (Some row) = bytes_eq row.word.items word

-- whether the row at this place is that of this word
abbrev pub has_word : List ℕ → List ErrorRow → ℕ → Bool
has_word word rows place = row_has word (slice_get rows place)
