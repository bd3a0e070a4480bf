-- Keys that are names, one key after another.
use Rattle.std.proofs.Common.{◌≡◌, ◌⊎◌, inl, inr, ℕ, suc, ◌≤◌, ◌==◌, nat_le, ◌&&◌, ◌||◌, not, Bool, true, false, cond, List, [], ◌∷◌, ◌++◌, map, length, refl, sym, ap, ◌∙◌, arith}
use Rattle.std.proofs.lemmas.Bool.{and_left, and_parts, and_right, false≢true, ne_eqb, or_cases, or_left, or_right}
use Rattle.std.proofs.lemmas.List.{length-map}
use Rattle.std.proofs.lemmas.Map.Made.{distinct_count-le}
use Rattle.std.specs.List.{list_all, list_any}
use Rattle.std.specs.Set.{distinct_count, is_member, unique_keys}
use Rattle.std.specs.Str.{bytes_eq}
use Rattle.resp_value.specs.Data.{Datum, Data, scalar, data_of_list, in_turn}
use Rattle.resp_value.specs.Data as d
use Rattle.resp_value.specs.Values.{datum_of, pair_data}
use Rattle.resp_value.specs.declared.value.Value.{Value}
use Rattle.resp_json.specs.Json.{are_names, is_name, is_object, keys, name_text}
use Rattle.resp_json.specs.Pairs.{is_bulk}

-- the keys of pairs in memory
abbrev pub pair_keys : List (Value × Value) → List Datum
pair_keys pairs = keys (data_of_list (in_turn (map pair_data pairs)))

pub length-pair_keys : (pairs : List (Value × Value)) → length (pair_keys pairs) ≡ length pairs
length-pair_keys [] = refl
length-pair_keys (p ∷ ps) = ap suc (length-pair_keys ps)

-- a name is a text if their bytes are equal
name_is_bulk : (text : List ℕ) (k : Datum) → is_name k ≡ true → bytes_eq text (name_text k) ≡ is_bulk text k
name_is_bulk text (scalar (d.Bulk other)) h = refl
name_is_bulk text k h = absurd (false≢true h)

bulk_is_name : (text : List ℕ) (k : Datum) → is_bulk text k ≡ true → bytes_eq text (name_text k) ≡ true
bulk_is_name text (scalar (d.Bulk other)) h = h
bulk_is_name text k h = absurd (false≢true h)

-- a text among names
among_names : (text : List ℕ) (ks : List Datum) → list_all is_name ks ≡ true → is_member bytes_eq (map name_text ks) text ≡ list_any (is_bulk text) ks
among_names text [] h = refl
among_names text (k ∷ ks) h =
    let parts = and_parts (is_name k) (list_all is_name ks) h in
    ap (λ b. b || is_member bytes_eq (map name_text ks) text) (name_is_bulk text k parts.0) ∙ ap (λ b. is_bulk text k || b) (among_names text ks parts.1)

-- a text that is a key is among the texts of all keys
among_texts : (text : List ℕ) (ks : List Datum) → list_any (is_bulk text) ks ≡ true → is_member bytes_eq (map name_text ks) text ≡ true
among_texts text [] h = absurd (false≢true h)
among_texts text (k ∷ ks) h = by_cases (or_cases (is_bulk text k) (list_any (is_bulk text) ks) h) (among_texts text ks)
  where
    by_cases : (is_bulk text k ≡ true) ⊎ (list_any (is_bulk text) ks ≡ true) →
        (list_any (is_bulk text) ks ≡ true → is_member bytes_eq (map name_text ks) text ≡ true) → is_member bytes_eq (map name_text (k ∷ ks)) text ≡ true
    by_cases (inl here) later = or_left (bytes_eq text (name_text k)) (is_member bytes_eq (map name_text ks) text) (bulk_is_name text k here)
    by_cases (inr there) later = or_right (bytes_eq text (name_text k)) (is_member bytes_eq (map name_text ks) text) (later there)

-- the number of different texts, with one more
one_more : (text : List ℕ) (texts : List (List ℕ)) (there : Bool) → is_member bytes_eq texts text ≡ there →
    distinct_count bytes_eq (text ∷ texts) ≡ cond there (distinct_count bytes_eq texts) (suc (distinct_count bytes_eq texts))
one_more text texts true h = ap (λ b. length (cond b (unique_keys bytes_eq texts) (text ∷ unique_keys bytes_eq texts))) h
one_more text texts false h = ap (λ b. length (cond b (unique_keys bytes_eq texts) (text ∷ unique_keys bytes_eq texts))) h

-- a key that comes again
repeated : (k : Datum) (ks : List Datum) → list_any (is_bulk (name_text k)) ks ≡ true → are_names (k ∷ ks) ≡ false
repeated k ks h =
    let texts = map name_text ks in
    let same = one_more (name_text k) texts true (among_texts (name_text k) ks h) in
    let most : distinct_count bytes_eq texts ≤ length texts = distinct_count-le bytes_eq texts in
    let long : length texts ≡ length ks = length-map ks name_text in
    let fewer : (distinct_count bytes_eq (name_text k ∷ texts) == length (k ∷ ks)) ≡ false = ne_eqb _ _ (λ e. omega (arith, e, same, most, long)) in
    and_right (list_all is_name (k ∷ ks)) _ fewer

suc_eqb : (m n : ℕ) → (suc m == suc n) ≡ (m == n)
suc_eqb m n = grind arith

-- a name that does not come again, if the others are names or not
new_by : (k : Datum) (ks : List Datum) (others : Bool) → list_all is_name ks ≡ others → is_name k ≡ true →
    list_any (is_bulk (name_text k)) ks ≡ false → are_names (k ∷ ks) ≡ are_names ks
new_by k ks false o is_name_k h =
    and_left (is_name k && list_all is_name ks) _ (and_right (is_name k) (list_all is_name ks) o) ∙ sym (and_left (list_all is_name ks) _ o)
new_by k ks true o is_name_k h =
    let texts = map name_text ks in
    let more = one_more (name_text k) texts false (among_names (name_text k) ks o ∙ h) in
    ap (λ b. (b && list_all is_name ks) && (distinct_count bytes_eq (name_text k ∷ texts) == suc (length ks))) is_name_k ∙
    ap (λ n. list_all is_name ks && (n == suc (length ks))) more ∙
    ap (λ b. list_all is_name ks && b) (suc_eqb (distinct_count bytes_eq texts) (length ks))

-- one key, and the others
step : (k : Datum) (ks : List Datum) (is again : Bool) → is_name k ≡ is → list_any (is_bulk (name_text k)) ks ≡ again →
    are_names (k ∷ ks) ≡ ((is && not again) && are_names ks)
step k ks false again a b = and_left (is_name k && list_all is_name ks) _ (and_left (is_name k) (list_all is_name ks) a)
step k ks true true a b = repeated k ks b
step k ks true false a b = new_by k ks (list_all is_name ks) refl a b

-- the keys of pairs in memory that are a text
any_key : (text : List ℕ) (pairs : List (Value × Value)) → list_any (λ (pair : Value × Value). is_bulk text (datum_of pair.0)) pairs ≡
    list_any (is_bulk text) (pair_keys pairs)
any_key text [] = refl
any_key text (p ∷ ps) = ap (λ b. is_bulk text (datum_of p.0) || b) (any_key text ps)

-- the first pair, and the others
pub first_name : (whole : List (Value × Value)) (p : Value × Value) (ps : List (Value × Value)) (b : Bool) → whole ≡ p ∷ ps →
    b ≡ (is_name (datum_of p.0) && not (list_any (λ (pair : Value × Value). is_bulk (name_text (datum_of p.0)) (datum_of pair.0)) ps)) →
    are_names (pair_keys whole) ≡ (b && are_names (pair_keys ps))
first_name whole p ps b is e =
    let k = datum_of p.0 in
    ap (λ qs. are_names (pair_keys qs)) is ∙ step k (pair_keys ps) (is_name k) (list_any (is_bulk (name_text k)) (pair_keys ps)) refl refl ∙
    ap (λ z. (is_name k && not z) && are_names (pair_keys ps)) (sym (any_key (name_text k) ps)) ∙ ap (λ z. z && are_names (pair_keys ps)) (sym e)

-- what an attribute annotates is no key
pub keys_with : (pairs : List (Datum × Datum)) (x : Datum) → keys (data_of_list (in_turn pairs ++ x ∷ [])) ≡ keys (data_of_list (in_turn pairs))
keys_with [] x = refl
keys_with (pair ∷ pairs) x = ap (λ ks. pair.0 ∷ ks) (keys_with pairs x)

pub is_object_with : (pairs : List (Datum × Datum)) (x : Datum) →
    is_object (data_of_list (in_turn pairs ++ x ∷ [])) ≡ is_object (data_of_list (in_turn pairs))
is_object_with pairs x = ap (λ ks. nat_le (length ks) 512 && are_names ks) (keys_with pairs x)
