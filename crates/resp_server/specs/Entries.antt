-- The entries of the store as data, and their places.
use Rattle.std.specs.Prelude.{◌≡◌, ℕ, ◌*◌, ◌+◌, ◌≤◌, Bool, List, [], ◌∷◌, length, map, Option, None, Some, Vec}
use Rattle.std.specs.List.{IsDistinct, position, slice_get}
use Rattle.std.specs.Map.{keys_of}
use Rattle.std.specs.Option.{option_map}
use Rattle.std.specs.Str.{bytes_eq}
use Rattle.std.proofs.Common.{Global}
use Rattle.resp_session.specs.Stores.{store_without}
use Rattle.resp_server.specs.declared.row.Row.{Row}

-- whether two keys are the same bytes
abbrev pub same_bytes : Vec ℕ Global → Vec ℕ Global → Bool
same_bytes a b = bytes_eq a.items b.items

-- rows of a map by their indices
abbrev pub Rows : Type 0
Rows = List (Vec ℕ Global × Row)

-- a row's key and value as bytes
abbrev pub entry_of : Vec ℕ Global × Row → List ℕ × List ℕ
entry_of row = (row.0.items, row.1.value)

-- the first row with this key has this index
abbrev pub IsKeyAt : Rows → ℕ → List ℕ → Type 0
IsKeyAt rows index key = position (λ (k : Vec ℕ Global). bytes_eq key k.items) (keys_of rows) ≡ Some index

-- the entry in a place: that of the row with this index, or no entry
abbrev pub entry_at : Rows → Option ℕ → Option (List ℕ × List ℕ)
entry_at rows None = None
entry_at rows (Some index) = option_map entry_of (slice_get rows index)

abbrev pub and_some : {X : Type 0} → Option X → List X → List X
and_some None xs = xs
and_some (Some x) xs = x ∷ xs

-- those that exist, in order
abbrev pub somes : {X : Type 0} → List (Option X) → List X
somes [] = []
somes (o ∷ os) = and_some o (somes os)

-- the entries of rows in their places, in order
abbrev pub entries_in : Rows → List (Option ℕ) → List (List ℕ × List ℕ)
entries_in rows places = somes (map (entry_at rows) places)

-- each key is in one row, the place of each row has the row's index, and an index in a place belongs to a row with this
-- place
pub record AreInPlace (rows : Rows) (places : List (Option ℕ)) : Type 0 where
  pub distinct : IsDistinct same_bytes (keys_of rows)
  pub there : (i : ℕ) (row : Vec ℕ Global × Row) → slice_get rows i ≡ Some row →
      slice_get places row.1.place ≡ Some (Some i)
  pub alone : (place i : ℕ) → slice_get places place ≡ Some (Some i) →
      (row : Vec ℕ Global × Row) × (slice_get rows i ≡ Some row) × (row.1.place ≡ place)

-- the row with this index is gone, and the entries are those without its key
pub record LosesRow (rows rows' : Rows) (places places' : List (Option ℕ)) (index : ℕ) : Type 0 where
  pub removed : (key : List ℕ) → IsKeyAt rows index key →
      entries_in rows' places' ≡ store_without (entries_in rows places) (key ∷ [])
  pub count : length (entries_in rows' places') + 1 ≡ length (entries_in rows places)
  pub in_place : AreInPlace rows' places'

-- the rows are in their places, and no more than half of the places are empty, or one more
pub record HoldsRows (rows : Rows) (places : List (Option ℕ)) : Type 0 where
  pub in_place : AreInPlace rows places
  pub few : length places ≤ 2 * length rows + 1
