-- The store's rows in their places.
use Rattle.std.proofs.Common.{◌≡◌, ℕ, zero, suc, ◌+◌, ◌-◌, ◌<◌, ◌≤◌, Bool, true, false, cond, set, map, take, List, [], ◌∷◌, ◌++◌, length, get_or, Option, None, Some, refl, sym, ap, subst, ◌∙◌, inl, inr, arith}
use Rattle.std.specs.Cmp.Lexicographic.{bytes_decides}
use Rattle.std.specs.List.{AllByRecursion, IsDistinct, position, slice_get, swap_remove}
use Rattle.std.specs.Map.{lookup, keys_of, values_of}
use Rattle.std.specs.Option.{is_some, option_map}
use Rattle.std.specs.Str.{bytes_eq}
use Rattle.std.proofs.lemmas.Bool.{cases_eq, cases_lt}
use Rattle.std.proofs.lemmas.List.{length-set, length-take, map-append}
use Rattle.std.proofs.lemmas.List.Quantifiers.{position-Some}
use Rattle.std.proofs.lemmas.Map.Keys.{IsDistinct-head, IsDistinct-tail}
use Rattle.std.proofs.lemmas.Map.Entries.{place_from_lookup}
use Rattle.std.proofs.lemmas.Option.{slice_get-map, slice_get_within, slice_get-get_or, get_or_from_slice_get}
use Rattle.indexmap.specs.IndexMap.{set_value_at}
use Rattle.resp_session.specs.Stores.{store_with, store_without, value_at}
use Rattle.resp_server.specs.Entries.{Rows, AreInPlace, LosesRow, same_bytes, entry_of, entry_at, entries_in, somes}
use Rattle.resp_server.specs.declared.row.Row.{Row}
use Rattle.resp_server.proofs.Slots.{Slots, IsOnly, IsAbsent, get_set_same, get_set_other, get_take, same_slots, lookup_absent, lookup_only, with_only, with_new, without_absent, without_only, fewer}
use Rattle.resp_server.proofs.StoreEntries.{Bytes}

abbrev pub slots_of : Rows → List (Option ℕ) → Slots
slots_of rows places = map (entry_at rows) places

-- ---- rows and slots

-- the slot of a place
pub slot_of : (rows : Rows) (places : List (Option ℕ)) (place : ℕ) (o : Option ℕ) → slice_get places place ≡ Some o →
    slice_get (slots_of rows places) place ≡ Some (entry_at rows o)
slot_of rows places place o at = slice_get-map (entry_at rows) places place ∙ ap (option_map (entry_at rows)) at

-- the slot of a row's place
pub slot_is : (rows : Rows) (places : List (Option ℕ)) (place i : ℕ) (row : Bytes × Row) → slice_get places place ≡ Some (Some i) →
    slice_get rows i ≡ Some row → slice_get (slots_of rows places) place ≡ Some (Some (entry_of row))
slot_is rows places place i row at found =
    slot_of rows places place (Some i) at ∙ ap (λ (o : Option (Bytes × Row)). Some (option_map entry_of o)) found

-- the row of a slot
pub record HasRow (rows : Rows) (place : ℕ) (entry : List ℕ × List ℕ) : Type 0 where
  pub i : ℕ
  pub row : Bytes × Row
  pub found : slice_get rows i ≡ Some row
  pub placed : row.1.place ≡ place
  pub is : entry_of row ≡ entry

row_by : {rows : Rows} {places : List (Option ℕ)} → AreInPlace rows places → {place : ℕ} {entry : List ℕ × List ℕ} (o : Option (Option ℕ)) →
    slice_get places place ≡ o → option_map (entry_at rows) o ≡ Some (Some entry) → HasRow rows place entry
row_by h None at is = absurd (cc)
row_by h (Some None) at is = absurd (cc)
row_by h {place} {entry} (Some (Some i)) at is =
    let (row, found, placed) = h.alone place i at in
    let same : Some (Some (entry_of row)) ≡ Some (Some entry) = ap (λ (o : Option (Bytes × Row)). Some (option_map entry_of o)) (sym found) ∙ is in
    record { i = i; row = row; found = found; placed = placed; is = cc }

pub row_of : {rows : Rows} {places : List (Option ℕ)} → AreInPlace rows places → {place : ℕ} {entry : List ℕ × List ℕ} →
    slice_get (slots_of rows places) place ≡ Some (Some entry) → HasRow rows place entry
row_of {rows} {places} h {place} at =
    row_by h (slice_get places place) refl (sym (slice_get-map (entry_at rows) places place) ∙ at)

-- ---- keys

not_later : (rows : Rows) (key : Bytes) → AllByRecursion (λ (k : Bytes). same_bytes key k ≡ false) (keys_of rows) → (j : ℕ) (row : Bytes × Row) →
    slice_get rows j ≡ Some row → key.items ≡ row.0.items → ⊥
not_later [] key others j row at same = absurd (cc)
not_later (r ∷ rows) key others zero row at same =
    let is : r ≡ row = cc in
    let equal : bytes_eq key.items r.0.items ≡ true = (bytes_decides key.items r.0.items).1 (same ∙ ap (λ (f : Bytes × Row). f.0.items) (sym is)) in
    let differ = others.0 in
    absurd (cc)
not_later (r ∷ rows) key others (suc j) row at same = not_later rows key others.1 j row at same

-- a key stands in one row
pub one_row : (rows : Rows) → IsDistinct same_bytes (keys_of rows) → (i j : ℕ) (row other : Bytes × Row) → slice_get rows i ≡ Some row →
    slice_get rows j ≡ Some other → row.0.items ≡ other.0.items → i ≡ j
one_row [] distinct i j row other at at' same = absurd (cc)
one_row (r ∷ rows) distinct zero zero row other at at' same = refl
one_row (r ∷ rows) distinct zero (suc j) row other at at' same =
    let is : r ≡ row = cc in
    absurd (not_later rows r.0 (IsDistinct-head same_bytes r.0 (keys_of rows) distinct) j other at' (ap (λ (f : Bytes × Row). f.0.items) is ∙ same))
one_row (r ∷ rows) distinct (suc i) zero row other at at' same =
    let is : r ≡ other = cc in
    absurd (not_later rows r.0 (IsDistinct-head same_bytes r.0 (keys_of rows) distinct) i row at (ap (λ (f : Bytes × Row). f.0.items) is ∙ sym same))
one_row (r ∷ rows) distinct (suc i) (suc j) row other at at' same =
    ap suc (one_row rows (IsDistinct-tail same_bytes r.0 (keys_of rows) distinct) i j row other at at' same)

-- and in one slot
pub only_slot : {rows : Rows} {places : List (Option ℕ)} → AreInPlace rows places → (i : ℕ) (row : Bytes × Row) → slice_get rows i ≡ Some row →
    IsOnly row.0.items row.1.place (slots_of rows places)
only_slot {rows} h i row at s v slot =
    let other = row_of h slot in
    let key : other.row.0.items ≡ row.0.items = ap (λ (e : List ℕ × List ℕ). e.0) other.is in
    let index : other.i ≡ i = one_row rows h.distinct other.i i other.row row other.found at key in
    let same : Some other.row ≡ Some row = sym other.found ∙ ap (slice_get rows) index ∙ at in
    let is : other.row ≡ row = cc in
    sym other.placed ∙ ap (λ (f : Bytes × Row). f.1.place) is

none_by : (test : Bytes → Bool) (r : Bytes × Row) (rows : Rows) (b : Bool) → test r.0 ≡ b → cond b (Some r.1) (lookup test rows) ≡ None → (j : ℕ)
    (row : Bytes × Row) → slice_get (r ∷ rows) j ≡ Some row → test row.0 ≡ true →
    (lookup test rows ≡ None → (k : ℕ) → slice_get rows k ≡ Some row → ⊥) → ⊥
none_by test r rows true e none j row at is later = absurd (cc)
none_by test r rows false e none zero row at is later =
    let same : r ≡ row = cc in
    let no : test row.0 ≡ false = ap (λ (f : Bytes × Row). test f.0) (sym same) ∙ e in absurd (cc)
none_by test r rows false e none (suc j) row at is later = later none j at

none_at : (test : Bytes → Bool) (rows : Rows) → lookup test rows ≡ None → {row : Bytes × Row} (j : ℕ) → slice_get rows j ≡ Some row → test row.0 ≡ true → ⊥
none_at test [] none j at is = absurd (cc)
none_at test (r ∷ rows) none {row} j at is =
    none_by test r rows (test r.0) refl none j row at is (λ rest k found. none_at test rows rest k found is)

-- a key that no row has
pub absent_slot : {rows : Rows} {places : List (Option ℕ)} → AreInPlace rows places → (key : List ℕ) →
    lookup (λ (k : Bytes). bytes_eq key k.items) rows ≡ None → IsAbsent key (slots_of rows places)
absent_slot {rows} h key none s v slot =
    let other = row_of h slot in
    none_at (λ (k : Bytes). bytes_eq key k.items) rows none other.i other.found
    ((bytes_decides key other.row.0.items).1 (sym (ap (λ (e : List ℕ × List ℕ). e.0) other.is)))

-- ---- a look-up

pub found_value : {rows : Rows} {places : List (Option ℕ)} → AreInPlace rows places → (key : List ℕ) (i : ℕ) (row : Bytes × Row) →
    slice_get rows i ≡ Some row → key ≡ row.0.items → value_at (entries_in rows places) key ≡ Some row.1.value
found_value {rows} {places} h key i row at same =
    ap (value_at (entries_in rows places)) same ∙ lookup_only row.0.items row.1.place (slots_of rows places)
    (only_slot h i row at) (slot_is rows places row.1.place i row (h.there i row at) at)

pub looked_up : {rows : Rows} {places : List (Option ℕ)} → AreInPlace rows places → {row : Row} (key : List ℕ) →
    Some row ≡ lookup (λ (k : Bytes). bytes_eq key k.items) rows → Some row.value ≡ value_at (entries_in rows places) key
looked_up {rows} h {row} key found =
    let (i, k, at, is) = place_from_lookup (λ (k : Bytes). bytes_eq key k.items) rows row (sym found) in
    sym (found_value h key i (k, row) at ((bytes_decides key k.items).0 is))

pub no_value : {rows : Rows} {places : List (Option ℕ)} → AreInPlace rows places → (key : List ℕ) → lookup (λ (k : Bytes). bytes_eq key k.items) rows ≡ None →
    value_at (entries_in rows places) key ≡ None
no_value {rows} {places} h key none = lookup_absent key (slots_of rows places) (absent_slot h key none)

no_row_by : {rows : Rows} {places : List (Option ℕ)} → AreInPlace rows places → (key : List ℕ) → value_at (entries_in rows places) key ≡ None →
    (o : Option Row) → o ≡ lookup (λ (k : Bytes). bytes_eq key k.items) rows → lookup (λ (k : Bytes). bytes_eq key k.items) rows ≡ None
no_row_by h key none None is = sym is
no_row_by h key none (Some row) is =
    let there : Some row.value ≡ None = looked_up h key is ∙ none in absurd (cc)

-- a key without a value has no row
pub no_row : {rows : Rows} {places : List (Option ℕ)} → AreInPlace rows places → (key : List ℕ) → value_at (entries_in rows places) key ≡ None →
    lookup (λ (k : Bytes). bytes_eq key k.items) rows ≡ None
no_row {rows} h key none = no_row_by h key none (lookup (λ (k : Bytes). bytes_eq key k.items) rows) refl

-- ---- changes

same_by : (rows rows' : Rows) (o : Option (Option ℕ)) → ((j : ℕ) → o ≡ Some (Some j) → slice_get rows' j ≡ slice_get rows j) →
    option_map (entry_at rows') o ≡ option_map (entry_at rows) o
same_by rows rows' None same = refl
same_by rows rows' (Some None) same = refl
same_by rows rows' (Some (Some j)) same = ap (λ (r : Option (Bytes × Row)). Some (option_map entry_of r)) (same j refl)

-- a slot whose place and row stay
pub same_slot : (rows rows' : Rows) (places places' : List (Option ℕ)) (s : ℕ) → slice_get places' s ≡ slice_get places s →
    ((j : ℕ) → slice_get places s ≡ Some (Some j) → slice_get rows' j ≡ slice_get rows j) →
    slice_get (slots_of rows' places') s ≡ slice_get (slots_of rows places) s
same_slot rows rows' places places' s same stays =
    slice_get-map (entry_at rows') places' s ∙ ap (option_map (entry_at rows')) same ∙ same_by rows rows' (slice_get places s) stays ∙
    sym (slice_get-map (entry_at rows) places s)

pub value_same : (rows : Rows) (i : ℕ) (key : Bytes) (old new : Row) → slice_get rows i ≡ Some (key, old) →
    slice_get (set_value_at rows i new) i ≡ Some (key, new)
value_same [] i key old new at = absurd (cc)
value_same (r ∷ rows) zero key old new at =
    let same : r ≡ (key, old) = cc in ap (λ (f : Bytes × Row). Some (f.0, new)) same
value_same (r ∷ rows) (suc i) key old new at = value_same rows i key old new at

pub value_other : (rows : Rows) (i j : ℕ) (new : Row) → (j ≡ i → ⊥) → slice_get (set_value_at rows i new) j ≡ slice_get rows j
value_other [] i j new apart = refl
value_other (r ∷ rows) zero zero new apart = absurd (apart refl)
value_other (r ∷ rows) zero (suc j) new apart = refl
value_other (r ∷ rows) (suc i) zero new apart = refl
value_other (r ∷ rows) (suc i) (suc j) new apart = value_other rows i j new (λ same. apart (ap suc same))

pub keys_stay : (rows : Rows) (i : ℕ) (new : Row) → keys_of (set_value_at rows i new) ≡ keys_of rows
keys_stay [] i new = refl
keys_stay (r ∷ rows) zero new = refl
keys_stay (r ∷ rows) (suc i) new = ap (λ ks. r.0 ∷ ks) (keys_stay rows i new)

pub as_many_stay : (rows : Rows) (i : ℕ) (new : Row) → length (set_value_at rows i new) ≡ length rows
as_many_stay [] i new = refl
as_many_stay (r ∷ rows) zero new = refl
as_many_stay (r ∷ rows) (suc i) new = let rest = as_many_stay rows i new in omega (arith, rest)

-- the value of a row, which keeps its place
pub written_in_place : {rows : Rows} {places : List (Option ℕ)} → AreInPlace rows places → (i : ℕ) (key : Bytes) (old new : Row) →
    slice_get rows i ≡ Some (key, old) → new.place ≡ old.place → AreInPlace (set_value_at rows i new) places
written_in_place {rows} {places} h i key old new at same = record {
  distinct = subst (IsDistinct same_bytes) (sym (keys_stay rows i new)) h.distinct;
  there = λ j row found. elim (cases_eq j i) [
    | inl here ↦
        let e : Some row ≡ Some (key, new) = sym found ∙ ap (slice_get (set_value_at rows i new)) here ∙ value_same rows i key old new at in
        let is : row ≡ (key, new) = cc in
        ap (slice_get places) (ap (λ (f : Bytes × Row). f.1.place) is ∙ same) ∙ h.there i (key, old) at ∙ ap (λ k. Some (Some k)) (sym here)
    | inr apart ↦ h.there j row (sym (value_other rows i j new apart) ∙ found)
  ];
  alone = λ place j found. let (row, there, placed) = h.alone place j found in elim (cases_eq j i) [
    | inl here ↦
        let e : Some row ≡ Some (key, old) = sym there ∙ ap (slice_get rows) here ∙ at in
        let is : row ≡ (key, old) = cc in (
          (key, new),
          ap (slice_get (set_value_at rows i new)) here ∙ value_same rows i key old new at,
          same ∙ sym (ap (λ (f : Bytes × Row). f.1.place) is) ∙ placed,
        )
    | inr apart ↦ (row, value_other rows i j new apart ∙ there, placed)
  ];
}

written_slot : {rows : Rows} {places : List (Option ℕ)} → AreInPlace rows places → (i : ℕ) (key : Bytes) (old new : Row) →
    slice_get rows i ≡ Some (key, old) → (s : ℕ) → slice_get (slots_of (set_value_at rows i new) places) s ≡ slice_get
    (set (slots_of rows places) old.place (Some (key.items, new.value))) s
written_slot {rows} {places} h i key old new at s = elim (cases_eq s old.place) [
  | inl here ↦
      let place = h.there i (key, old) at in
      subst (λ p. slice_get (slots_of (set_value_at rows i new) places) p ≡ slice_get (set (slots_of rows places) old.place (Some (key.items, new.value))) p)
      (sym here) (slot_is (set_value_at rows i new) places old.place i (key, new) place (value_same rows i key old new at) ∙
      sym (get_set_same (slots_of rows places) old.place (Some (key.items, old.value)) (slot_is rows places old.place i (key, old) place at)))
  | inr apart ↦
      same_slot rows (set_value_at rows i new) places places s refl (λ j found. value_other rows i j new (λ same.
      let (row, there, placed) = h.alone s j found in
      let e : Some row ≡ Some (key, old) = sym there ∙ ap (slice_get rows) same ∙ at in
      let is : row ≡ (key, old) = cc in
      apart (sym placed ∙ ap (λ (f : Bytes × Row). f.1.place) is))) ∙
      sym (get_set_other (slots_of rows places) old.place s (Some (key.items, new.value)) apart)
]

pub written_entries : {rows : Rows} {places : List (Option ℕ)} → AreInPlace rows places → (i : ℕ) (key : Bytes) (old new : Row) →
    slice_get rows i ≡ Some (key, old) → entries_in (set_value_at rows i new) places ≡ store_with (entries_in rows places) key.items new.value
written_entries {rows} {places} h i key old new at =
    ap somes (same_slots _ _ (written_slot h i key old new at)) ∙
    sym (with_only key.items old.value new.value old.place (slots_of rows places) (only_slot h i (key, old) at)
    (slot_is rows places old.place i (key, old) (h.there i (key, old) at) at))

-- ---- a new row

before : {X : Type 0} (xs ys : List X) (j : ℕ) → j < length xs → slice_get (xs ++ ys) j ≡ slice_get xs j
before [] ys j within = absurd (omega (arith, within))
before (x ∷ xs) ys zero within = refl
before (x ∷ xs) ys (suc j) within = before xs ys j (omega (arith, within))

last : {X : Type 0} {x : X} (xs : List X) → slice_get (xs ++ x ∷ []) (length xs) ≡ Some x
last [] = refl
last (y ∷ xs) = last xs

past_last : {X : Type 0} {x y : X} (xs : List X) (j : ℕ) → length xs ≤ j → slice_get (xs ++ x ∷ []) j ≡ Some y → (j ≡ length xs) × (x ≡ y)
past_last [] zero past at = (refl, cc)
past_last [] (suc j) past at = absurd (cc)
past_last (z ∷ xs) zero past at = absurd (omega (arith, past))
past_last (z ∷ xs) (suc j) past at = let (index, is) = past_last xs j (omega (arith, past)) at in (ap suc index, is)

pub added_in_place : {rows : Rows} {places : List (Option ℕ)} → AreInPlace rows places → (key : Bytes) (row : Row) → row.place ≡ length places →
    IsDistinct same_bytes (keys_of (rows ++ (key, row) ∷ [])) → AreInPlace (rows ++ (key, row) ∷ []) (places ++ Some (length rows) ∷ [])
added_in_place {rows} {places} h key row placed distinct = record {
  distinct = distinct;
  there = λ i other at. elim (cases_lt i (length rows)) [
    | inl within ↦
        let place = h.there i other (sym (before rows ((key, row) ∷ []) i within) ∙ at) in
        before places (Some (length rows) ∷ []) other.1.place (slice_get_within places other.1.place (Some i) place) ∙ place
    | inr past ↦
        let (index, is) = past_last rows i past at in
        ap (slice_get (places ++ Some (length rows) ∷ [])) (sym (ap (λ (f : Bytes × Row). f.1.place) is) ∙ placed) ∙
        last places ∙ ap (λ k. Some (Some k)) (sym index)
  ];
  alone = λ place i at. elim (cases_lt place (length places)) [
    | inl within ↦
        let (other, found, its) = h.alone place i (sym (before places (Some (length rows) ∷ []) place within) ∙ at) in
        (other, before rows ((key, row) ∷ []) i (slice_get_within rows i other found) ∙ found, its)
    | inr past ↦
        let (index, is) = past_last places place past at in
        let same : length rows ≡ i = cc in
        ((key, row), ap (slice_get (rows ++ (key, row) ∷ [])) (sym same) ∙ last rows, placed ∙ sym index)
  ];
}

pub added_entries : {rows : Rows} {places : List (Option ℕ)} → AreInPlace rows places → (key : Bytes) (row : Row) → lookup (λ (k : Bytes). bytes_eq key.items
    k.items) rows ≡ None → entries_in (rows ++ (key, row) ∷ []) (places ++ Some (length rows) ∷ []) ≡ store_with (entries_in rows places) key.items row.value
added_entries {rows} {places} h key row none =
    let all = rows ++ (key, row) ∷ [] in
    let kept : slots_of all places ≡ slots_of rows places = same_slots _ _ (λ s. same_slot rows all places places s refl (λ j found.
    let (other, there, its) = h.alone s j found in before rows ((key, row) ∷ []) j (slice_get_within rows j other there))) in
    ap somes (map-append (entry_at all) places (Some (length rows) ∷ []) ∙ ap (λ slots. slots ++ entry_at all (Some (length rows)) ∷ []) kept ∙
    ap (λ (o : Option (Bytes × Row)). slots_of rows places ++ option_map entry_of o ∷ []) (last rows)) ∙
    sym (with_new key.items row.value (slots_of rows places) (absent_slot h key.items none))

-- ---- a row that goes

swap_length : (rows : Rows) (i : ℕ) (gone : Bytes × Row) → length (swap_remove rows i gone) ≡ length rows - 1
swap_length rows i gone =
    let whole = length-set rows i (get_or rows (length rows - 1) gone) in
    length-take (length rows - 1) (set rows i (get_or rows (length rows - 1) gone)) ∙ omega (arith, whole)

-- the rows but the last and the one that goes stay
swap_other : (rows : Rows) (i : ℕ) (gone : Bytes × Row) (j : ℕ) → j + 1 < length rows → (j ≡ i → ⊥) → slice_get (swap_remove rows i gone) j ≡ slice_get rows j
swap_other rows i gone j within apart =
    get_take (set rows i (get_or rows (length rows - 1) gone)) (length rows - 1) j (omega (arith, within)) ∙
    get_set_other rows i j (get_or rows (length rows - 1) gone) apart

-- the last takes its index
swap_here : (rows : Rows) (i : ℕ) (gone : Bytes × Row) → slice_get rows i ≡ Some gone → i + 1 < length rows →
    slice_get (swap_remove rows i gone) i ≡ slice_get rows (length rows - 1)
swap_here rows i gone at within =
    get_take (set rows i (get_or rows (length rows - 1) gone)) (length rows - 1) i (omega (arith, within)) ∙
    get_set_same rows i gone at ∙ sym (slice_get-get_or rows (length rows - 1) gone (omega (arith, within)))

-- a row that is left stood in the same index, or else it was the last
left_row : (rows : Rows) (i : ℕ) (gone : Bytes × Row) → slice_get rows i ≡ Some gone → (j : ℕ) (row : Bytes × Row) →
    slice_get (swap_remove rows i gone) j ≡ Some row → j + 1 < length rows
left_row rows i gone at j row found =
    let within = slice_get_within (swap_remove rows i gone) j row found in
    let n = swap_length rows i gone in
    let some = slice_get_within rows i gone at in
    omega (arith, within, n, some)

-- a place other than that of a row has another row's index
other_index : {rows : Rows} {places : List (Option ℕ)} → AreInPlace rows places → (i : ℕ) (row : Bytes × Row) → slice_get rows i ≡ Some row → (s j : ℕ) →
    (s ≡ row.1.place → ⊥) → slice_get places s ≡ Some (Some j) → j ≡ i → ⊥
other_index {rows} h i row at s j apart found same =
    let (other, there, placed) = h.alone s j found in
    let e : Some other ≡ Some row = sym there ∙ ap (slice_get rows) same ∙ at in
    let is : other ≡ row = cc in
    apart (sym placed ∙ ap (λ (f : Bytes × Row). f.1.place) is)

-- another row has another place
other_place : {rows : Rows} {places : List (Option ℕ)} → AreInPlace rows places → (i j : ℕ) (row other : Bytes × Row) → slice_get rows i ≡ Some row →
    slice_get rows j ≡ Some other → (j ≡ i → ⊥) → other.1.place ≡ row.1.place → ⊥
other_place {places} h i j row other at at' apart same =
    let e : Some (Some j) ≡ Some (Some i) = sym (h.there j other at') ∙ ap (slice_get places) same ∙ h.there i row at in
    let is : j ≡ i = cc in
    apart is

-- the last row goes
module _ (rows : Rows) (places : List (Option ℕ)) (h : AreInPlace rows places) (i : ℕ) (gone : Bytes × Row) (at : slice_get rows i ≡ Some gone)
    (is_last : i + 1 ≡ length rows) (distinct : IsDistinct same_bytes (keys_of (swap_remove rows i gone))) where
  abbrev left : Rows
  left = swap_remove rows i gone

  abbrev emptied : List (Option ℕ)
  emptied = set places gone.1.place None

  stays : (j : ℕ) (row : Bytes × Row) → slice_get rows j ≡ Some row → (j ≡ i → ⊥) → slice_get left j ≡ Some row
  stays j row found apart =
      let within = slice_get_within rows j row found in
      swap_other rows i gone j (omega (arith, within, is_last, apart)) apart ∙ found

  pub last_gone_in_place : AreInPlace left emptied
  last_gone_in_place = record {
    distinct = distinct;
    there = λ j row found.
        let within = left_row rows i gone at j row found in
        let apart : j ≡ i → ⊥ = λ same. omega (arith, within, is_last, same) in
        let was = sym (swap_other rows i gone j within apart) ∙ found in
        get_set_other places gone.1.place row.1.place None (other_place h i j gone row at was apart) ∙ h.there j row was;
    alone = λ place j found. elim (cases_eq place gone.1.place) [
      | inl here ↦
          let none : Some None ≡ Some (Some j) =
          sym (get_set_same places gone.1.place (Some i) (h.there i gone at)) ∙ ap (slice_get emptied) (sym here) ∙ found in absurd (cc)
      | inr apart ↦
          let was = sym (get_set_other places gone.1.place place None apart) ∙ found in
          let (row, there, placed) = h.alone place j was in
          (row, stays j row there (other_index h i gone at place j apart was), placed)
    ];
  }

  last_gone_slot : (s : ℕ) → slice_get (slots_of left emptied) s ≡ slice_get (set (slots_of rows places) gone.1.place None) s
  last_gone_slot s = elim (cases_eq s gone.1.place) [
    | inl here ↦
        subst (λ p. slice_get (slots_of left emptied) p ≡ slice_get (set (slots_of rows places) gone.1.place None) p) (sym here)
        (slot_of left emptied gone.1.place None (get_set_same places gone.1.place (Some i) (h.there i gone at)) ∙
        sym (get_set_same (slots_of rows places) gone.1.place (Some (entry_of gone)) (slot_is rows places gone.1.place i gone (h.there i gone at) at)))
    | inr apart ↦
        same_slot rows left places emptied s (get_set_other places gone.1.place s None apart) (λ j found.
        let (row, there, placed) = h.alone s j found in
        stays j row there (other_index h i gone at s j apart found) ∙ sym there) ∙
        sym (get_set_other (slots_of rows places) gone.1.place s None apart)
  ]

  pub last_gone_slots : slots_of left emptied ≡ set (slots_of rows places) gone.1.place None
  last_gone_slots = same_slots _ _ last_gone_slot

-- another row goes, and the last takes its index
module _ (rows : Rows) (places : List (Option ℕ)) (h : AreInPlace rows places) (i : ℕ) (gone : Bytes × Row) (at : slice_get rows i ≡ Some gone)
    (within : i + 1 < length rows) (moved : Bytes × Row) (there : slice_get rows (length rows - 1) ≡ Some moved)
    (distinct : IsDistinct same_bytes (keys_of (swap_remove rows i gone))) where
  abbrev left' : Rows
  left' = swap_remove rows i gone

  abbrev emptied' : List (Option ℕ)
  emptied' = set (set places gone.1.place None) moved.1.place (Some i)

  apart_rows : length rows - 1 ≡ i → ⊥
  apart_rows same = omega (arith, same, within)

  apart_places : moved.1.place ≡ gone.1.place → ⊥
  apart_places = other_place h i (length rows - 1) gone moved at there apart_rows

  here_now : slice_get left' i ≡ Some moved
  here_now = swap_here rows i gone at within ∙ there

  -- the place of the moved row has its new index
  moved_place : slice_get emptied' moved.1.place ≡ Some (Some i)
  moved_place = get_set_same (set places gone.1.place None) moved.1.place (Some (length rows - 1))
      (get_set_other places gone.1.place moved.1.place None apart_places ∙ h.there (length rows - 1) moved there)

  -- the place of the row that went is empty
  gone_place : slice_get emptied' gone.1.place ≡ Some None
  gone_place = get_set_other (set places gone.1.place None) moved.1.place gone.1.place (Some i) (λ same. apart_places (sym same)) ∙
      get_set_same places gone.1.place (Some i) (h.there i gone at)

  -- the others stay
  other_place_stays : (s : ℕ) → (s ≡ moved.1.place → ⊥) → (s ≡ gone.1.place → ⊥) → slice_get emptied' s ≡ slice_get places s
  other_place_stays s apart apart' = get_set_other (set places gone.1.place None) moved.1.place s (Some i) apart ∙
      get_set_other places gone.1.place s None apart'

  stays' : {row : Bytes × Row} (j : ℕ) → slice_get rows j ≡ Some row → (j ≡ i → ⊥) → (j ≡ length rows - 1 → ⊥) → slice_get left' j ≡ Some row
  stays' {row} j found apart before_last =
      let near = slice_get_within rows j row found in
      swap_other rows i gone j (omega (arith, near, before_last)) apart ∙ found

  pub gone_in_place : AreInPlace left' emptied'
  gone_in_place = record {
    distinct = distinct;
    there = λ j row found. elim (cases_eq j i) [
      | inl same ↦
          let e : Some row ≡ Some moved = sym found ∙ ap (slice_get left') same ∙ here_now in
          let is : row ≡ moved = cc in
          ap (slice_get emptied') (ap (λ (f : Bytes × Row). f.1.place) is) ∙ moved_place ∙ ap (λ k. Some (Some k)) (sym same)
      | inr apart ↦
          let near = left_row rows i gone at j row found in
          let was = sym (swap_other rows i gone j near apart) ∙ found in
          let not_last : j ≡ length rows - 1 → ⊥ = λ same. omega (arith, near, same) in
          other_place_stays row.1.place (other_place h (length rows - 1) j moved row there was not_last)
          (other_place h i j gone row at was apart) ∙ h.there j row was
    ];
    alone = λ place j found. elim (cases_eq place moved.1.place) [
      | inl here ↦
          let e : Some (Some i) ≡ Some (Some j) = sym moved_place ∙ ap (slice_get emptied') (sym here) ∙ found in
          let same : i ≡ j = cc in
          (moved, ap (slice_get left') (sym same) ∙ here_now, sym here)
      | inr apart ↦ elim (cases_eq place gone.1.place) [
        | inl here ↦ let e : Some None ≡ Some (Some j) = sym gone_place ∙ ap (slice_get emptied') (sym here) ∙ found in absurd (cc)
        | inr apart' ↦
            let was = sym (other_place_stays place apart apart') ∙ found in
            let (row, its, placed) = h.alone place j was in (
              row,
              stays' j its (other_index h i gone at place j apart' was)
                  (other_index h (length rows - 1) moved there place j apart was),
              placed,
            )
      ]
    ];
  }

  gone_slot : (s : ℕ) → slice_get (slots_of left' emptied') s ≡ slice_get (set (slots_of rows places) gone.1.place None) s
  gone_slot s = elim (cases_eq s gone.1.place) [
    | inl here ↦
        subst (λ p. slice_get (slots_of left' emptied') p ≡ slice_get (set (slots_of rows places) gone.1.place None) p) (sym here)
        (slot_of left' emptied' gone.1.place None gone_place ∙ sym (get_set_same (slots_of rows places) gone.1.place (Some (entry_of gone))
        (slot_is rows places gone.1.place i gone (h.there i gone at) at)))
    | inr apart' ↦ elim (cases_eq s moved.1.place) [
      | inl here ↦
          subst (λ p. slice_get (slots_of left' emptied') p ≡ slice_get (set (slots_of rows places) gone.1.place None) p) (sym here)
          (slot_is left' emptied' moved.1.place i moved moved_place here_now ∙
          sym (get_set_other (slots_of rows places) gone.1.place moved.1.place None apart_places ∙
          slot_is rows places moved.1.place (length rows - 1) moved (h.there (length rows - 1) moved there) there))
      | inr apart ↦
          same_slot rows left' places emptied' s (other_place_stays s apart apart') (λ j found.
          let (row, its, placed) = h.alone s j found in
          stays' j its (other_index h i gone at s j apart' found)
          (other_index h (length rows - 1) moved there s j apart found) ∙ sym its) ∙
          sym (get_set_other (slots_of rows places) gone.1.place s None apart')
    ]
  ]

  pub gone_slots : slots_of left' emptied' ≡ set (slots_of rows places) gone.1.place None
  gone_slots = same_slots _ _ gone_slot

-- what is left of the entries without the row's key
gone_entries : {rows : Rows} {places : List (Option ℕ)} → AreInPlace rows places → (i : ℕ) (gone : Bytes × Row) → slice_get rows i ≡ Some gone →
    (rows' : Rows) (places' : List (Option ℕ)) → slots_of rows' places' ≡ set (slots_of rows places) gone.1.place None → (key : List ℕ) → key ≡ gone.0.items →
    (entries_in rows' places' ≡ store_without (entries_in rows places) (key ∷ [])) × (length (entries_in rows' places') + 1 ≡ length (entries_in rows places))
gone_entries {rows} {places} h i gone at rows' places' left key is =
    let slot = slot_is rows places gone.1.place i gone (h.there i gone at) at in (
      ap somes left ∙ sym (ap (λ k. store_without (entries_in rows places) (k ∷ [])) is ∙
          without_only gone.0.items gone.1.value gone.1.place (slots_of rows places) (only_slot h i gone at) slot),
      ap (λ slots. length (somes slots) + 1) left ∙ fewer (slots_of rows places) gone.1.place (entry_of gone) slot,
    )

pub none_gone : {rows : Rows} {places : List (Option ℕ)} → AreInPlace rows places → (key : List ℕ) →
    lookup (λ (k : Bytes). bytes_eq key k.items) rows ≡ None → entries_in rows places ≡ store_without (entries_in rows places) (key ∷ [])
none_gone {rows} {places} h key none = sym (without_absent key (slots_of rows places) (absent_slot h key none))

-- ---- a key by its index

-- the key at the index that was found
pub key_at : {i : ℕ} (test : Bytes → Bool) (rows : Rows) (row : Bytes × Row) → position test (keys_of rows) ≡ Some i → slice_get rows i ≡ Some row →
    test row.0 ≡ true
key_at {i} test rows row index at =
    let key : slice_get (keys_of rows) i ≡ Some row.0 = slice_get-map (λ (e : Bytes × Row). e.0) rows i ∙ ap (option_map (λ (e : Bytes × Row). e.0)) at in
    subst (λ k. test k ≡ true) (get_or_from_slice_get (keys_of rows) i row.0 row.0 key) (position-Some test (keys_of rows) i row.0 index).1

none_of : (o : Option Row) → false ≡ is_some o → o ≡ None
none_of None h = refl
none_of (Some row) h = absurd (cc)

-- where no key was found
pub not_found : (test : Bytes → Bool) (rows : Rows) → false ≡ is_some (lookup test rows) → lookup test rows ≡ None
not_found test rows h = none_of (lookup test rows) h

-- the row of a value
pub row_at : (rows : Rows) (i : ℕ) (row : Row) → Some row ≡ slice_get (values_of rows) i → (key : Bytes) × (slice_get rows i ≡ Some (key, row))
row_at [] i row at = absurd (cc)
row_at (r ∷ rows) zero row at =
    let same : row ≡ r.1 = cc in (r.0, ap (λ (v : Row). Some (r.0, v)) (sym same))
row_at (r ∷ rows) (suc i) row at = row_at rows i row at

-- ---- a removal

pub record IsGone (rows : Rows) (places : List (Option ℕ)) (rows' : Rows) (places' : List (Option ℕ)) (place : ℕ) : Type 0 where
  pub in_place : AreInPlace rows' places'
  pub slots : slots_of rows' places' ≡ set (slots_of rows places) place None

is_last : (rows : Rows) (i : ℕ) (gone : Bytes × Row) → slice_get rows i ≡ Some gone → slice_get (swap_remove rows i gone) i ≡ None → i + 1 ≡ length rows
is_last rows i gone at none = elim (cases_lt (i + 1) (length rows)) [
  | inl within ↦
      let e : Some (get_or rows (length rows - 1) gone) ≡ None =
      sym (swap_here rows i gone at within ∙ slice_get-get_or rows (length rows - 1) gone (omega (arith, within))) ∙ none in absurd (cc)
  | inr past ↦ let some = slice_get_within rows i gone at in omega (arith, past, some)
]

-- so it is lost
loses_row : {rows : Rows} {places : List (Option ℕ)} → AreInPlace rows places → {i : ℕ} (gone : Bytes × Row) → slice_get rows i ≡ Some gone →
    (rows' : Rows) (places' : List (Option ℕ)) → IsGone rows places rows' places' gone.1.place → LosesRow rows rows' places places' i
loses_row {rows} h {i} gone at rows' places' left = record {
  removed = λ key found.
      let is = (bytes_decides key gone.0.items).0 (key_at (λ (k : Bytes). bytes_eq key k.items) rows gone found at) in
      (gone_entries h i gone at rows' places' left.slots key is).0;
  count = (gone_entries h i gone at rows' places' left.slots gone.0.items refl).1;
  in_place = left.in_place;
}

-- the last row goes
pub gone_last : {rows : Rows} {places : List (Option ℕ)} → AreInPlace rows places → {i : ℕ} (gone : Bytes × Row) → slice_get rows i ≡ Some gone →
    (rows' : Rows) → rows' ≡ swap_remove rows i gone → IsDistinct same_bytes (keys_of rows') → slice_get rows' i ≡ None →
    LosesRow rows rows' places (set places gone.1.place None) i
gone_last {rows} {places} h {i} gone at rows' is distinct none =
    let all : IsDistinct same_bytes (keys_of (swap_remove rows i gone)) = subst (λ r. IsDistinct same_bytes (keys_of r)) is distinct in
    let end : i + 1 ≡ length rows = is_last rows i gone at (ap (λ r. slice_get r i) (sym is) ∙ none) in
    loses_row h gone at rows' (set places gone.1.place None) (subst
    (λ r. IsGone rows places r (set places gone.1.place None) gone.1.place) (sym is) (record {
      in_place = last_gone_in_place rows places h i gone at end all;
      slots = last_gone_slots rows places h i gone at end all;
    }))

-- the row that takes the index was the last
pub was_last : (rows : Rows) (i : ℕ) (gone : Bytes × Row) → slice_get rows i ≡ Some gone → (rows' : Rows) → rows' ≡ swap_remove rows i gone →
    (moved : Bytes × Row) → slice_get rows' i ≡ Some moved → slice_get rows (length rows - 1) ≡ Some moved
was_last rows i gone at rows' is moved found =
    let now : slice_get (swap_remove rows i gone) i ≡ Some moved = ap (λ r. slice_get r i) (sym is) ∙ found in
    sym (swap_here rows i gone at (left_row rows i gone at i moved now)) ∙ now

-- another goes
pub gone_moved : {rows : Rows} {places : List (Option ℕ)} → AreInPlace rows places → {i : ℕ} (gone : Bytes × Row) → slice_get rows i ≡ Some gone →
    (rows' : Rows) → rows' ≡ swap_remove rows i gone → IsDistinct same_bytes (keys_of rows') → (moved : Bytes × Row) → slice_get rows' i ≡ Some moved →
    LosesRow rows rows' places (set (set places gone.1.place None) moved.1.place (Some i)) i
gone_moved {rows} {places} h {i} gone at rows' is distinct moved found =
    let all : IsDistinct same_bytes (keys_of (swap_remove rows i gone)) = subst (λ r. IsDistinct same_bytes (keys_of r)) is distinct in
    let within : i + 1 < length rows = left_row rows i gone at i moved (ap (λ r. slice_get r i) (sym is) ∙ found) in
    let there = was_last rows i gone at rows' is moved found in
    loses_row h gone at rows' (set (set places gone.1.place None) moved.1.place (Some i))
    (subst (λ r. IsGone rows places r (set (set places gone.1.place None) moved.1.place (Some i)) gone.1.place) (sym is) (record {
      in_place = gone_in_place rows places h i gone at within moved there all;
      slots = gone_slots rows places h i gone at within moved there all;
    }))

-- ---- an addition

pub added : {rows : Rows} {places : List (Option ℕ)} → AreInPlace rows places → (key : Bytes) (row : Row) → row.place ≡ length places →
    lookup (λ (k : Bytes). bytes_eq key.items k.items) rows ≡ None → {rows' : Rows} → rows' ≡ rows ++ (key, row) ∷ [] →
    IsDistinct same_bytes (keys_of rows') → {n : ℕ} → n ≡ length rows → {places' : List (Option ℕ)} → places' ≡ places ++ Some n ∷ [] →
    AreInPlace rows' places' × (entries_in rows' places' ≡ store_with (entries_in rows places) key.items row.value)
added {rows} {places} h key row placed none is distinct size {places'} is' =
    let all : IsDistinct same_bytes (keys_of (rows ++ (key, row) ∷ [])) = subst (λ r. IsDistinct same_bytes (keys_of r)) is distinct in
    let end : places' ≡ places ++ Some (length rows) ∷ [] = is' ∙ ap (λ k. places ++ Some k ∷ []) size in (
      subst (λ r. AreInPlace r places') (sym is) (subst (AreInPlace (rows ++ (key, row) ∷ [])) (sym end) (added_in_place h key row placed all)),
      ap (λ r. entries_in r places') is ∙ ap (entries_in (rows ++ (key, row) ∷ [])) end ∙ added_entries h key row none,
    )

front : {X : Type 0} (xs : List X) (x : X) → take (length xs) (xs ++ x ∷ []) ≡ xs
front [] x = refl
front (y ∷ xs) x = ap (λ l. y ∷ l) (front xs x)
