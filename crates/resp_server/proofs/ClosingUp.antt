-- Empty places that are closed up.
use Rattle.std.proofs.Common.{◌≡◌, ℕ, zero, suc, ◌*◌, ◌+◌, ◌<◌, ◌≤◌, ◌⊎◌, set, map, take, drop, List, [], ◌∷◌, ◌++◌, length, get_or, Option, None, Some, refl, sym, ap, subst, ◌∙◌, inl, inr, append-nil, drop-cons, arith}
use Rattle.std.specs.List.{IsDistinct, slice_get}
use Rattle.std.specs.Map.{keys_of}
use Rattle.std.specs.Option.{option_map}
use Rattle.std.proofs.lemmas.Bool.{cases_eq}
use Rattle.std.proofs.lemmas.List.{length-map, length-take, take_more}
use Rattle.std.proofs.lemmas.Option.{slice_get-map, slice_get_within, slice_get-get_or, get_or_from_slice_get}
use Rattle.indexmap.specs.IndexMap.{set_value_at}
use Rattle.resp_session.specs.Stores.{Store}
use Rattle.resp_server.specs.Entries.{Rows, AreInPlace, same_bytes, entry_at, entries_in, and_some, somes}
use Rattle.resp_server.specs.declared.row.Row.{Row}
use Rattle.resp_server.proofs.Slots.{Slots, get_set_same, get_set_other, get_take, same_slots}
use Rattle.resp_server.proofs.StoreEntries.{Bytes}
use Rattle.resp_server.proofs.StorePlaces.{slots_of, slot_of, slot_is, same_slot, keys_stay, value_same, value_other}

-- The rows of the first places, and of those from a place on: what lies between is stale.
pub record IsClosingUp (rows : Rows) (places : List (Option ℕ)) (filled place : ℕ) (entries : Store) : Type 0 where
  pub distinct : IsDistinct same_bytes (keys_of rows)
  pub not_past : filled ≤ place
  pub there : (i : ℕ) (row : Bytes × Row) → slice_get rows i ≡ Some row →
      (slice_get places row.1.place ≡ Some (Some i)) × ((row.1.place < filled) ⊎ (place ≤ row.1.place))
  pub alone : (s i : ℕ) → (s < filled) ⊎ (place ≤ s) → slice_get places s ≡ Some (Some i) →
      (row : Bytes × Row) × (slice_get rows i ≡ Some row) × (row.1.place ≡ s)
  -- no place before `filled` is empty
  pub full : (s : ℕ) → s < filled → (i : ℕ) × (slice_get places s ≡ Some (Some i))
  pub shows : somes (take filled (slots_of rows places)) ++ somes (drop place (slots_of rows places)) ≡ entries

pub begins : {rows : Rows} {places : List (Option ℕ)} → AreInPlace rows places → IsClosingUp rows places 0 0 (entries_in rows places)
begins h = record {
  distinct = h.distinct;
  not_past = omega arith;
  there = λ i row at. (h.there i row at, inr (omega arith));
  alone = λ s i region at. h.alone s i at;
  full = λ s none. absurd (omega (arith, none));
  shows = refl;
}

map_take : {X Y : Type 0} (f : X → Y) (xs : List X) (n : ℕ) → map f (take n xs) ≡ take n (map f xs)
map_take f [] zero = refl
map_take f [] (suc n) = refl
map_take f (x ∷ xs) zero = refl
map_take f (x ∷ xs) (suc n) = ap (λ ys. f x ∷ ys) (map_take f xs n)

drop_past : {X : Type 0} (xs : List X) (n : ℕ) → length xs ≤ n → drop n xs ≡ []
drop_past [] zero past = refl
drop_past [] (suc n) past = refl
drop_past (x ∷ xs) zero past = absurd (omega (arith, past))
drop_past (x ∷ xs) (suc n) past = drop_past xs n (omega (arith, past))

take_within : {X : Type 0} (xs : List X) (n s : ℕ) (x : X) → slice_get (take n xs) s ≡ Some x → s < n
take_within [] zero s x at = absurd (cc)
take_within [] (suc n) s x at = absurd (cc)
take_within (y ∷ xs) zero s x at = absurd (cc)
take_within (y ∷ xs) (suc n) zero x at = omega arith
take_within (y ∷ xs) (suc n) (suc s) x at = let rest = take_within xs n s x at in omega (arith, rest)

pub ends_in_place : {rows : Rows} {places : List (Option ℕ)} {filled place : ℕ} {entries : Store} → IsClosingUp rows places filled place entries →
    length places ≤ place → AreInPlace rows (take filled places)
ends_in_place {places} {filled} {place} h past = record {
  distinct = h.distinct;
  there = λ i row at.
      let (found, region) = h.there i row at in
      let within = slice_get_within places row.1.place (Some i) found in
      elim region [
        | inl near ↦ get_take places filled row.1.place near ∙ found
        | inr far ↦ absurd (omega (arith, within, far, past))
      ];
  alone = λ s i at.
      let within = take_within places filled s (Some i) at in h.alone s i (inl within) (sym (get_take places filled s within) ∙ at);
}

slots_length : (rows : Rows) (places : List (Option ℕ)) → length (slots_of rows places) ≡ length places
slots_length rows [] = refl
slots_length rows (p ∷ places) = let rest = slots_length rows places in omega (arith, rest)

pub ends_as : {rows : Rows} {places : List (Option ℕ)} {filled place : ℕ} {entries : Store} → IsClosingUp rows places filled place entries →
    length places ≤ place → entries_in rows (take filled places) ≡ entries
ends_as {rows} {places} {filled} {place} h past =
    let size = slots_length rows places in
    ap somes (map_take (entry_at rows) places filled) ∙ sym (append-nil (somes (take filled (slots_of rows places)))) ∙
    ap (λ rest. somes (take filled (slots_of rows places)) ++ somes rest) (sym (drop_past (slots_of rows places) place (omega (arith, past, size)))) ∙ h.shows

-- the slots from a place on
from_here : {o : Option (List ℕ × List ℕ)} (slots : Slots) (place : ℕ) → slice_get slots place ≡ Some o →
    somes (drop place slots) ≡ and_some o (somes (drop (place + 1) slots))
from_here {o} slots place at =
    let within = slice_get_within slots place o at in
    let next : suc place ≡ place + 1 = omega arith in
    let rest : drop (suc place) slots ≡ drop (place + 1) slots = ap (λ n. drop n slots) next in
    ap somes (drop-cons slots place o within) ∙ ap (λ xs. and_some (get_or slots place o) (somes xs)) rest ∙
    ap (λ x. and_some x (somes (drop (place + 1) slots))) (get_or_from_slice_get slots place o o at)

pub passes_empty : {rows : Rows} {places : List (Option ℕ)} {filled place : ℕ} {entries : Store} → IsClosingUp rows places filled place entries →
    slice_get places place ≡ Some None → IsClosingUp rows places filled (place + 1) entries
passes_empty {rows} {places} {filled} {place} h empty = record {
  distinct = h.distinct;
  not_past = let b = h.not_past in omega (arith, b);
  there = λ i row at.
      let (found, region) = h.there i row at in
      let apart : row.1.place ≡ place → ⊥ = λ same.
      (let e : Some (Some i) ≡ Some None = sym found ∙ ap (slice_get places) same ∙ empty in absurd (cc)) in (
        found,
        elim region [
          | inl near ↦ inl near
          | inr far ↦ inr (omega (arith, far, apart))
        ],
      );
  alone = λ s i region at. h.alone s i (elim region [
    | inl near ↦ inl near
    | inr far ↦ inr (omega (arith, far))
  ]) at;
  full = h.full;
  shows = ap (λ rest. somes (take filled (slots_of rows places)) ++ rest)
      (sym (from_here (slots_of rows places) place (slot_of rows places place None empty))) ∙ h.shows;
}

take_same : {X : Type 0} (xs ys : List X) (n : ℕ) → ((k : ℕ) → k < n → slice_get xs k ≡ slice_get ys k) → take n xs ≡ take n ys
take_same [] [] n h = refl
take_same [] (y ∷ ys) zero h = refl
take_same [] (y ∷ ys) (suc n) h = let e : None ≡ Some y = h 0 (omega arith) in absurd (cc)
take_same (x ∷ xs) [] zero h = refl
take_same (x ∷ xs) [] (suc n) h = let e : Some x ≡ None = h 0 (omega arith) in absurd (cc)
take_same (x ∷ xs) (y ∷ ys) zero h = refl
take_same (x ∷ xs) (y ∷ ys) (suc n) h =
    let first : Some x ≡ Some y = h 0 (omega arith) in
    let same : x ≡ y = cc in
    ap (λ z. z ∷ take n xs) same ∙ ap (λ zs. y ∷ zs) (take_same xs ys n (λ k within. h (suc k) (omega (arith, within))))

drop_same : {X : Type 0} (xs ys : List X) (n : ℕ) → ((k : ℕ) → n ≤ k → slice_get xs k ≡ slice_get ys k) → drop n xs ≡ drop n ys
drop_same xs ys zero h = same_slots xs ys (λ k. h k (omega arith))
drop_same [] [] (suc n) h = refl
drop_same [] (y ∷ ys) (suc n) h = sym (drop_past [] n (omega arith)) ∙ drop_same [] ys n (λ k past. h (suc k) (omega (arith, past)))
drop_same (x ∷ xs) [] (suc n) h = drop_same xs [] n (λ k past. h (suc k) (omega (arith, past))) ∙ drop_past [] n (omega arith)
drop_same (x ∷ xs) (y ∷ ys) (suc n) h = drop_same xs ys n (λ k past. h (suc k) (omega (arith, past)))

somes_append : (slots : Slots) (e : List ℕ × List ℕ) (rest : Store) → somes (slots ++ Some e ∷ []) ++ rest ≡ somes slots ++ e ∷ rest
somes_append [] e rest = refl
somes_append (None ∷ slots) e rest = somes_append slots e rest
somes_append (Some x ∷ slots) e rest = ap (λ l. x ∷ l) (somes_append slots e rest)

-- a row goes down to the first place that isn't filled
module _ (rows : Rows) (places : List (Option ℕ)) (filled place : ℕ) (entries : Store) (h : IsClosingUp rows places filled place entries) (i : ℕ)
    (at : slice_get places place ≡ Some (Some i)) (key : Bytes) (old new : Row) (row_at : slice_get rows i ≡ Some (key, old))
    (value : new.value ≡ old.value) (now : new.place ≡ filled) where
  abbrev rows' : Rows
  rows' = set_value_at rows i new

  abbrev places' : List (Option ℕ)
  places' = set places filled (Some i)

  some_there : slice_get places filled ≡ Some (get_or places filled None)
  some_there =
      let b = h.not_past in let within = slice_get_within places place (Some i) at in slice_get-get_or places filled None (omega (arith, b, within))

  old_place : old.place ≡ place
  old_place =
      let (row, found, placed) = h.alone place i (inr (omega arith)) at in
      let e : Some row ≡ Some (key, old) = sym found ∙ row_at in
      let same : row ≡ (key, old) = cc in
      sym (ap (λ (f : Bytes × Row). f.1.place) same) ∙ placed

  filled_now : slice_get places' filled ≡ Some (Some i)
  filled_now = get_set_same places filled (get_or places filled None) some_there

  -- a place of another row in either region
  other_row : {s : ℕ} {row : Bytes × Row} (j : ℕ) → slice_get rows j ≡ Some row → row.1.place ≡ s → (s ≡ place → ⊥) → j ≡ i → ⊥
  other_row {row} j found placed apart same =
      let e : Some row ≡ Some (key, old) = sym found ∙ ap (slice_get rows) same ∙ row_at in
      let is : row ≡ (key, old) = cc in
      apart (sym placed ∙ ap (λ (f : Bytes × Row). f.1.place) is ∙ old_place)

  slot_stays : (s : ℕ) → (s < filled) ⊎ (place + 1 ≤ s) → slice_get (slots_of rows' places') s ≡ slice_get (slots_of rows places) s
  slot_stays s region =
      let b = h.not_past in
      let apart : s ≡ filled → ⊥ = λ same. elim region [
        | inl near ↦ omega (arith, near, same)
        | inr far ↦ omega (arith, far, same, b)
      ] in
      let elsewhere : s ≡ place → ⊥ = λ same. elim region [
        | inl near ↦ omega (arith, near, same, b)
        | inr far ↦ omega (arith, far, same)
      ] in
      same_slot rows rows' places places' s (get_set_other places filled s (Some i) apart) (λ j found.
      let (row, its, placed) = h.alone s j (elim region [
        | inl near ↦ inl near
        | inr far ↦ inr (omega (arith, far))
      ]) found in
      value_other rows i j new (other_row j its placed elsewhere))

  pub goes_down : IsClosingUp rows' places' (filled + 1) (place + 1) entries
  goes_down = record {
    distinct = subst (IsDistinct same_bytes) (sym (keys_stay rows i new)) h.distinct;
    not_past = let b = h.not_past in omega (arith, b);
    there = λ j row found. elim (cases_eq j i) [
      | inl same ↦
          let e : Some row ≡ Some (key, new) = sym found ∙ ap (slice_get rows') same ∙ value_same rows i key old new row_at in
          let is : row ≡ (key, new) = cc in
          let placed : row.1.place ≡ filled = ap (λ (f : Bytes × Row). f.1.place) is ∙ now in
          (ap (slice_get places') placed ∙ filled_now ∙ ap (λ k. Some (Some k)) (sym same), inl (omega (arith, placed)))
      | inr other ↦
          let was = sym (value_other rows i j new other) ∙ found in
          let (its, region) = h.there j row was in
          let apart : row.1.place ≡ place → ⊥ = λ same.
          (let e : Some (Some j) ≡ Some (Some i) = sym its ∙ ap (slice_get places) same ∙ at in let is : j ≡ i = cc in other is) in
          let b = h.not_past in
          elim region [
            | inl near ↦ (get_set_other places filled row.1.place (Some i) (λ same. omega (arith, near, same)) ∙ its, inl (omega (arith, near)))
            | inr far ↦ (
              get_set_other places filled row.1.place (Some i) (λ same. apart (omega (arith, far, same, b))) ∙ its,
              inr (omega (arith, far, apart)),
            )
          ]
    ];
    alone = λ s j region found. elim (cases_eq s filled) [
      | inl here ↦
          let e : Some (Some i) ≡ Some (Some j) = sym filled_now ∙ ap (slice_get places') (sym here) ∙ found in
          let same : i ≡ j = cc in
          ((key, new), ap (slice_get rows') (sym same) ∙ value_same rows i key old new row_at, now ∙ sym here)
      | inr apart ↦
          let was = sym (get_set_other places filled s (Some i) apart) ∙ found in
          let b = h.not_past in
          let before : (s < filled) ⊎ (place + 1 ≤ s) = elim region [
            | inl near ↦ inl (omega (arith, near, apart))
            | inr far ↦ inr far
          ] in
          let (row, its, placed) = h.alone s j (elim before [
            | inl near ↦ inl near
            | inr far ↦ inr (omega (arith, far))
          ]) was in
          let elsewhere : s ≡ place → ⊥ = λ same. elim before [
            | inl near ↦ omega (arith, near, same, b)
            | inr far ↦ omega (arith, far, same)
          ] in
          (row, value_other rows i j new (other_row j its placed elsewhere) ∙ its, placed)
    ];
    full = λ s near. elim (cases_eq s filled) [
      | inl here ↦ (i, ap (slice_get places') here ∙ filled_now)
      | inr apart ↦ let (j, found) = h.full s (omega (arith, near, apart)) in (j, get_set_other places filled s (Some i) apart ∙ found)
    ];
    shows =
        let e : List ℕ × List ℕ = (key.items, old.value) in
        let slots = slots_of rows places in
        let slots' = slots_of rows' places' in
        let here : slice_get slots' filled ≡ Some (Some e) = slot_is rows' places' filled i (key, new) filled_now (value_same rows i key old new row_at) ∙
        ap (λ (v : List ℕ). Some (Some (key.items, v))) value in
        let front : take (filled + 1) slots' ≡ take filled slots ++ Some e ∷ [] = take_more slots' filled None (slice_get_within slots' filled (Some e) here) ∙
        ap (λ x. take filled slots' ++ x ∷ []) (get_or_from_slice_get slots' filled (Some e) None here) ∙
        ap (λ xs. xs ++ Some e ∷ []) (take_same slots' slots filled (λ k within. slot_stays k (inl within))) in
        let back : drop (place + 1) slots' ≡ drop (place + 1) slots = drop_same slots' slots (place + 1) (λ k past. slot_stays k (inr past)) in
        ap (λ xs. somes xs ++ somes (drop (place + 1) slots')) front ∙ ap (λ xs. somes (take filled slots ++ Some e ∷ []) ++ somes xs) back ∙
        somes_append (take filled slots) e (somes (drop (place + 1) slots)) ∙ ap (λ rest. somes (take filled slots) ++ rest)
        (sym (from_here slots place (slot_is rows places place i (key, old) at row_at))) ∙ h.shows;
  }

-- one more place, with its row
pub goes_on : {rows : Rows} {places : List (Option ℕ)} {filled place : ℕ} {entries : Store} → IsClosingUp rows places filled place entries → {i : ℕ} →
    slice_get places place ≡ Some (Some i) → (rows' : Rows) (places' : List (Option ℕ)) (filled' : ℕ) →
    ((key : Bytes) (row : Row) → slice_get rows i ≡ Some (key, row) → rows' ≡ set_value_at rows i (record row { place = filled })) →
    places' ≡ set places filled (Some i) → filled' ≡ filled + 1 → IsClosingUp rows' places' filled' (place + 1) entries
goes_on {rows} {places} {filled} {place} {entries} h {i} at rows' places' filled' moved written counted =
    let (row, found, placed) = h.alone place i (inr (omega arith)) at in
    let new : Row = record row.1 { place = filled } in
    subst (λ r. IsClosingUp r places' filled' (place + 1) entries) (sym (moved row.0 row.1 found))
    (subst (λ p. IsClosingUp (set_value_at rows i new) p filled' (place + 1) entries) (sym written)
    (subst (λ n. IsClosingUp (set_value_at rows i new) (set places filled (Some i)) n (place + 1) entries) (sym counted)
    (goes_down rows places filled place entries h i at row.0 row.1 new found refl refl)))

-- one more place, which is empty
pub goes_past : {rows : Rows} {places : List (Option ℕ)} {filled place : ℕ} {entries : Store} → IsClosingUp rows places filled place entries →
    slice_get places place ≡ Some None → {rows' : Rows} {places' : List (Option ℕ)} {filled' : ℕ} → rows' ≡ rows → places' ≡ places → filled' ≡ filled →
    IsClosingUp rows' places' filled' (place + 1) entries
goes_past {rows} {places} {place} {entries} h empty {places'} {filled'} same same' counted =
    subst (λ r. IsClosingUp r places' filled' (place + 1) entries) (sym same)
    (subst (λ p. IsClosingUp rows p filled' (place + 1) entries) (sym same')
    (subst (λ n. IsClosingUp rows places n (place + 1) entries) (sym counted) (passes_empty h empty)))

-- ---- how many places are left

-- a list without one of its numbers
abbrev without : List ℕ → ℕ → List ℕ
without [] j = []
without (x ∷ xs) zero = xs
without (x ∷ xs) (suc j) = x ∷ without xs j

one_fewer : (xs : List ℕ) (j x : ℕ) → slice_get xs j ≡ Some x → length (without xs j) + 1 ≡ length xs
one_fewer [] j x at = absurd (cc)
one_fewer (y ∷ xs) zero x at = omega arith
one_fewer (y ∷ xs) (suc j) x at = let rest = one_fewer xs j x at in omega (arith, rest)

still_there : {y : ℕ} (xs : List ℕ) (j k x : ℕ) → slice_get xs j ≡ Some x → slice_get xs k ≡ Some y → (y ≡ x → ⊥) →
    (l : ℕ) × (slice_get (without xs j) l ≡ Some y)
still_there [] j k x at found apart = absurd (cc)
still_there {y} (z ∷ xs) zero zero x at found apart = let e : Some y ≡ Some x = sym found ∙ at in let same : y ≡ x = cc in absurd (apart same)
still_there (z ∷ xs) zero (suc k) x at found apart = (k, found)
still_there (z ∷ xs) (suc j) zero x at found apart = (zero, found)
still_there (z ∷ xs) (suc j) (suc k) x at found apart = let (l, later) = still_there xs j k x at found apart in (suc l, later)

-- a list that has every number below n has at least n numbers
as_many : (n : ℕ) (xs : List ℕ) → ((x : ℕ) → x < n → (k : ℕ) × (slice_get xs k ≡ Some x)) → n ≤ length xs
as_many zero xs each = omega arith
as_many (suc n) xs each =
    let (j, at) = each n (omega arith) in
    let fewer = one_fewer xs j n at in
    let rest = as_many n (without xs j) (λ x less. let (k, found) = each x (omega (arith, less)) in
    still_there xs j k n at found (λ same. omega (arith, less, same))) in
    omega (arith, rest, fewer)

pub ends_with_few : {rows : Rows} {places : List (Option ℕ)} {filled place : ℕ} {entries : Store} → IsClosingUp rows places filled place entries →
    length (take filled places) ≤ 2 * length rows + 1
ends_with_few {rows} {places} {filled} {place} h =
    let place_of : Bytes × Row → ℕ = λ row. row.1.place in
    let enough = as_many filled (map place_of rows) (λ s near. let (i, found) = h.full s near in
    let (row, its, placed) = h.alone s i (inl near) found in
    (i, slice_get-map place_of rows i ∙ ap (option_map place_of) its ∙ ap Some placed)) in
    let size = length-map rows place_of in
    let taken = length-take filled places in
    omega (arith, enough, size, taken)
