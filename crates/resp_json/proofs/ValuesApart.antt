-- Values can be read back, whatever follows them that is no digit.
use Rattle.std.proofs.Common.{◌≡◌, inl, inr, ℕ, Bool, true, false, List, [], ◌∷◌, ◌++◌, codes, drop, get_or, refl, sym, ap, ap₂, ◌∙◌, append_assoc, append-nil, subst, arith}
use Rattle.std.proofs.lemmas.Bool.{both_ways}
use Rattle.resp_value.specs.Canonical.{AreValues, IsValue, IsWhole}
use Rattle.resp_value.specs.Data.{Array, Set, Map, Attr, Push, Datum, Data, scalar, aggregate, none, more, count}
use Rattle.resp_json.specs.Json.{close_bracket, in_brackets, is_object, json_of, members_json, open_bracket, pair_json, pairs_json}
use Rattle.resp_json.specs.Laws.{EqualJsonMeansEqualValues}
use Rattle.resp_json.proofs.ValueKinds.{IsStop, kinds_differ, no_bracket, same_kind, value_no_stop}
use Rattle.resp_json.proofs.Numbers.{IsEnd}
use Rattle.resp_json.proofs.ScalarsApart.{scalars_apart}

-- what follows further members is no digit
members_end : (xs : Data) (rest : List ℕ) → IsEnd (members_json (codes ",") xs ++ 93 ∷ rest)
members_end none rest = λ low high. omega arith
members_end (more x xs) rest = λ low high. omega arith

-- a closing brace or bracket is no digit
stop_end : (rest : List ℕ) → IsStop rest → IsEnd rest
stop_end [] stop = tt
stop_end (b ∷ rest) (inl h) = λ low high. omega (arith, h, low, high)
stop_end (b ∷ rest) (inr h) = λ low high. omega (arith, h, low, high)

-- what comes after the pairs of a map, and before what an attribute annotates
close_stop : (named : Bool) (text : List ℕ) → IsStop (close_bracket named ++ text)
close_stop true text = inl refl
close_stop false text = inr refl

of_stop : (named : Bool) (text rest : List ℕ) → IsStop ((close_bracket named ++ text) ++ rest)
of_stop true text rest = inl refl
of_stop false text rest = inr refl

-- whether something is annotated by keys and values in turn
abbrev AreWhole : Bool → Data → Type 0
AreWhole annotates none = annotates ≡ false
AreWhole annotates (more x none) = annotates ≡ true
AreWhole annotates (more k (more x xs)) = AreWhole annotates xs

whole_map : (xs : Data) → IsWhole Map (count xs) → AreWhole false xs
whole_map none h = refl
whole_map (more x none) h = absurd (omega (arith, h))
whole_map (more k (more x xs)) h = whole_map xs (omega (arith, h))

whole_attribute : (xs : Data) → IsWhole Attr (count xs) → AreWhole true xs
whole_attribute none h = absurd (omega (arith, h))
whole_attribute (more x none) h = refl
whole_attribute (more k (more x xs)) h = whole_attribute xs (omega (arith, h))

-- what opens pairs shows whether they are an object
opened : (named named' : Bool) (text text' : List ℕ) → open_bracket named ++ text ≡ open_bracket named' ++ text' → (named ≡ named') × (text ≡ text')
opened true true text text' e = (refl, ap (drop 1) e)
opened true false text text' e = absurd (omega (arith, ap (λ z. get_or z 0 0) e))
opened false true text text' e = absurd (omega (arith, ap (λ z. get_or z 0 0) e))
opened false false text text' e = (refl, ap (drop 1) e)

closed : (named : Bool) (text text' : List ℕ) → close_bracket named ++ text ≡ close_bracket named ++ text' → text ≡ text'
closed true text text' e = ap (drop 1) e
closed false text text' e = ap (drop 1) e

-- a map and an attribute after their first letters, part after part
map_parts : (named : Bool) (pairs rest : List ℕ) →
    (in_brackets named pairs ++ codes "}") ++ rest ≡ open_bracket named ++ (pairs ++ (close_bracket named ++ 125 ∷ rest))
map_parts named pairs rest = simp append_assoc

attribute_parts : (named : Bool) (pairs rest : List ℕ) →
    (open_bracket named ++ (pairs ++ codes "}")) ++ rest ≡ open_bracket named ++ (pairs ++ 125 ∷ rest)
attribute_parts named pairs rest = simp append_assoc

-- a comma before a pair
comma_first : (named : Bool) (key value : List ℕ) → pair_json named (codes ",") key value ≡ 44 ∷ pair_json named [] key value
comma_first true key value = refl
comma_first false key value = refl

-- what an attribute annotates, after the pairs
annotated_part : (named : Bool) (x y rest rest' : List ℕ) →
    (close_bracket named ++ (codes ",\"of\":" ++ x)) ++ rest ≡ (close_bracket named ++ (codes ",\"of\":" ++ y)) ++ rest' → x ++ rest ≡ y ++ rest'
annotated_part true x y rest rest' e = ap (drop 7) e
annotated_part false x y rest rest' e = ap (drop 7) e

-- what follows a value in pairs is no digit
pairs_end : (named : Bool) (xs : Data) (rest : List ℕ) → IsEnd rest → IsEnd (pairs_json named (codes ",") xs ++ rest)
pairs_end named none rest f = f
pairs_end true (more x none) rest f = λ low high. omega arith
pairs_end false (more x none) rest f = λ low high. omega arith
pairs_end true (more k (more x xs)) rest f = λ low high. omega arith
pairs_end false (more k (more x xs)) rest f = λ low high. omega arith

-- no pair begins with a closing brace or bracket
stop_no_pair : (named : Bool) (k : Datum) (value pairs rest text : List ℕ) → IsValue k → IsStop text →
    text ≡ (pair_json named [] (json_of k) value ++ pairs) ++ rest → ⊥
stop_no_pair true k value pairs rest text p stop e =
    let parts : ((json_of k ++ (codes ":" ++ value)) ++ pairs) ++ rest ≡ json_of k ++ (((codes ":" ++ value) ++ pairs) ++ rest) =
    ap (λ z. z ++ rest) (append_assoc (json_of k) (codes ":" ++ value) pairs) ∙ append_assoc (json_of k) ((codes ":" ++ value) ++ pairs) rest in
    value_no_stop k (((codes ":" ++ value) ++ pairs) ++ rest) p (subst IsStop (e ∙ parts) stop)
stop_no_pair false k value pairs rest text p (inl h) e = omega (arith, h, ap (λ z. get_or z 0 0) e)
stop_no_pair false k value pairs rest text p (inr h) e = omega (arith, h, ap (λ z. get_or z 0 0) e)

stop_no_comma : (named : Bool) (key value pairs rest text : List ℕ) → IsStop text →
    text ≡ (pair_json named (codes ",") key value ++ pairs) ++ rest → ⊥
stop_no_comma true key value pairs rest text (inl h) e = omega (arith, h, ap (λ z. get_or z 0 0) e)
stop_no_comma true key value pairs rest text (inr h) e = omega (arith, h, ap (λ z. get_or z 0 0) e)
stop_no_comma false key value pairs rest text (inl h) e = omega (arith, h, ap (λ z. get_or z 0 0) e)
stop_no_comma false key value pairs rest text (inr h) e = omega (arith, h, ap (λ z. get_or z 0 0) e)

-- a pair, part after part
member_parts : (key value pairs rest : List ℕ) → ((key ++ (58 ∷ value)) ++ pairs) ++ rest ≡ key ++ (58 ∷ (value ++ (pairs ++ rest)))
member_parts key value pairs rest = simp append_assoc

pair_parts : (key value pairs rest : List ℕ) → ((key ++ (44 ∷ (value ++ 93 ∷ []))) ++ pairs) ++ rest ≡ key ++ (44 ∷ (value ++ (93 ∷ (pairs ++ rest))))
pair_parts key value pairs rest = simp append_assoc

-- two values are told apart whatever follows them
abbrev Apart : Datum → Datum → Type 0
Apart x y = (rest rest' : List ℕ) → IsEnd rest → IsEnd rest' → json_of x ++ rest ≡ json_of y ++ rest' → (x ≡ y) × (rest ≡ rest')

-- further pairs are told apart, with this after them
abbrev ArePairsApart : Bool → Data → Data → List ℕ → List ℕ → Type 0
ArePairsApart named xs ys rest rest' =
    pairs_json named (codes ",") xs ++ rest ≡ pairs_json named (codes ",") ys ++ rest' → (xs ≡ ys) × (rest ≡ rest')

-- two pairs, and further pairs
pair_apart : (named : Bool) (k l x y : Datum) (xs ys : Data) (rest rest' : List ℕ) → Apart k l → Apart x y → IsEnd rest → IsEnd rest' →
    ArePairsApart named xs ys rest rest' →
    (pair_json named [] (json_of k) (json_of x) ++ pairs_json named (codes ",") xs) ++ rest ≡
    (pair_json named [] (json_of l) (json_of y) ++ pairs_json named (codes ",") ys) ++ rest' →
    (more k (more x xs) ≡ more l (more y ys)) × (rest ≡ rest')
pair_apart true k l x y xs ys rest rest' key value f g pairs e =
    let one = pairs_json true (codes ",") xs in
    let other = pairs_json true (codes ",") ys in
    let whole = sym (member_parts (json_of k) (json_of x) one rest) ∙ e ∙ member_parts (json_of l) (json_of y) other rest' in
    let keys = key _ _ (λ low high. omega arith) (λ low high. omega arith) whole in
    let values = value (one ++ rest) (other ++ rest') (pairs_end true xs rest f) (pairs_end true ys rest' g) (ap (drop 1) keys.1) in
    let others = pairs values.1 in
    ((λ i. more (keys.0 i) (more (values.0 i) (others.0 i))), others.1)
pair_apart false k l x y xs ys rest rest' key value f g pairs e =
    let one = pairs_json false (codes ",") xs in
    let other = pairs_json false (codes ",") ys in
    let whole = sym (pair_parts (json_of k) (json_of x) one rest) ∙ ap (drop 1) e ∙ pair_parts (json_of l) (json_of y) other rest' in
    let keys = key _ _ (λ low high. omega arith) (λ low high. omega arith) whole in
    let values = value _ _ (λ low high. omega arith) (λ low high. omega arith) (ap (drop 1) keys.1) in
    let others = pairs (ap (drop 1) values.1) in
    ((λ i. more (keys.0 i) (more (values.0 i) (others.0 i))), others.1)

-- the same after commas
further_apart : (named : Bool) (k l x y : Datum) (xs ys : Data) (rest rest' : List ℕ) → Apart k l → Apart x y → IsEnd rest → IsEnd rest' →
    ArePairsApart named xs ys rest rest' →
    (pair_json named (codes ",") (json_of k) (json_of x) ++ pairs_json named (codes ",") xs) ++ rest ≡
    (pair_json named (codes ",") (json_of l) (json_of y) ++ pairs_json named (codes ",") ys) ++ rest' →
    (more k (more x xs) ≡ more l (more y ys)) × (rest ≡ rest')
further_apart named k l x y xs ys rest rest' key value f g pairs e =
    let one = comma_first named (json_of k) (json_of x) in
    let other = comma_first named (json_of l) (json_of y) in
    pair_apart named k l x y xs ys rest rest' key value f g pairs
    (ap (drop 1) (sym (ap (λ z. (z ++ pairs_json named (codes ",") xs) ++ rest) one) ∙ e ∙ ap (λ z. (z ++ pairs_json named (codes ",") ys) ++ rest') other))

mutual
  -- two values
  pub values_apart : (x y : Datum) (rest rest' : List ℕ) → IsValue x → IsValue y → IsEnd rest → IsEnd rest' → json_of x ++ rest ≡ json_of y ++ rest' →
      (x ≡ y) × (rest ≡ rest')
  values_apart (scalar s) (scalar s') rest rest' p q f g e = let h = scalars_apart s s' rest rest' p q f g e in (ap scalar h.0, h.1)
  values_apart (scalar s) (aggregate k ys) rest rest' p q f g e = absurd (kinds_differ s k (same_kind (scalar s) (aggregate k ys) rest rest' p q e))
  values_apart (aggregate k xs) (scalar s) rest rest' p q f g e = absurd (kinds_differ s k (sym (same_kind (aggregate k xs) (scalar s) rest rest' p q e)))
  values_apart (aggregate Array xs) (aggregate Array ys) rest rest' p q f g e =
      let h = first_members_apart xs ys rest rest' p.1 q.1
      (sym (append_assoc (members_json [] xs) (93 ∷ []) rest) ∙ ap (drop 1) e ∙ append_assoc (members_json [] ys) (93 ∷ []) rest') in
      (ap (aggregate Array) h.0, h.1)
  values_apart (aggregate Set xs) (aggregate Set ys) rest rest' p q f g e =
      let h = first_members_apart xs ys (125 ∷ rest) (125 ∷ rest') p.1 q.1
      (sym (append_assoc (members_json [] xs) (93 ∷ 125 ∷ []) rest) ∙ ap (drop 8) e ∙ append_assoc (members_json [] ys) (93 ∷ 125 ∷ []) rest') in
      (ap (aggregate Set) h.0, ap (drop 1) h.1)
  values_apart (aggregate Push xs) (aggregate Push ys) rest rest' p q f g e =
      let h = first_members_apart xs ys (125 ∷ rest) (125 ∷ rest') p.1 q.1
      (sym (append_assoc (members_json [] xs) (93 ∷ 125 ∷ []) rest) ∙ ap (drop 9) e ∙ append_assoc (members_json [] ys) (93 ∷ 125 ∷ []) rest') in
      (ap (aggregate Push) h.0, ap (drop 1) h.1)
  values_apart (aggregate Map xs) (aggregate Map ys) rest rest' p q f g e =
      let named = is_object xs in
      let o = opened named (is_object ys) _ _
      (sym (map_parts named (pairs_json named [] xs) rest) ∙ ap (drop 7) e ∙ map_parts (is_object ys) (pairs_json (is_object ys) [] ys) rest') in
      let h = first_pairs_apart named false xs ys (close_bracket named ++ 125 ∷ rest) (close_bracket named ++ 125 ∷ rest') p.1 q.1
      (whole_map xs p.0) (whole_map ys q.0) (close_stop named (125 ∷ rest)) (close_stop named (125 ∷ rest'))
      (o.1 ∙ ap (λ b. pairs_json b [] ys ++ (close_bracket b ++ 125 ∷ rest')) (sym o.0)) in
      (ap (aggregate Map) h.0, ap (drop 1) (closed named (125 ∷ rest) (125 ∷ rest') h.1))
  values_apart (aggregate Attr xs) (aggregate Attr ys) rest rest' p q f g e =
      let named = is_object xs in
      let o = opened named (is_object ys) _ _
      (sym (attribute_parts named (pairs_json named [] xs) rest) ∙ ap (drop 13) e ∙ attribute_parts (is_object ys) (pairs_json (is_object ys) [] ys) rest') in
      let h = first_pairs_apart named true xs ys (125 ∷ rest) (125 ∷ rest') p.1 q.1 (whole_attribute xs p.0) (whole_attribute ys q.0) (inl refl) (inl refl)
      (o.1 ∙ ap (λ b. pairs_json b [] ys ++ 125 ∷ rest') (sym o.0)) in
      (ap (aggregate Attr) h.0, ap (drop 1) h.1)
  values_apart (aggregate k xs) (aggregate k' ys) rest rest' p q f g e =
      let h = same_kind (aggregate k xs) (aggregate k' ys) rest rest' p q e in absurd (omega (arith, h))

  -- two lists of members, up to the bracket
  first_members_apart : (xs ys : Data) (rest rest' : List ℕ) → AreValues xs → AreValues ys →
      members_json [] xs ++ 93 ∷ rest ≡ members_json [] ys ++ 93 ∷ rest' → (xs ≡ ys) × (rest ≡ rest')
  first_members_apart none none rest rest' p q e = (refl, ap (drop 1) e)
  first_members_apart none (more y ys) rest rest' p q e =
      absurd (no_bracket y _ _ q.0 (e ∙ append_assoc (json_of y) (members_json (codes ",") ys) (93 ∷ rest')))
  first_members_apart (more x xs) none rest rest' p q e =
      absurd (no_bracket x _ _ p.0 (sym e ∙ append_assoc (json_of x) (members_json (codes ",") xs) (93 ∷ rest)))
  first_members_apart (more x xs) (more y ys) rest rest' p q e =
      let one = values_apart x y (members_json (codes ",") xs ++ 93 ∷ rest) (members_json (codes ",") ys ++ 93 ∷ rest') p.0 q.0 (members_end xs rest) (members_end ys rest')
      (sym (append_assoc (json_of x) (members_json (codes ",") xs) (93 ∷ rest)) ∙ e ∙ append_assoc (json_of y) (members_json (codes ",") ys) (93 ∷ rest')) in
      let others = members_apart xs ys rest rest' p.1 q.1 one.1 in
      (ap₂ more one.0 others.0, others.1)

  -- the same of further members
  members_apart : (xs ys : Data) (rest rest' : List ℕ) → AreValues xs → AreValues ys →
      members_json (codes ",") xs ++ 93 ∷ rest ≡ members_json (codes ",") ys ++ 93 ∷ rest' → (xs ≡ ys) × (rest ≡ rest')
  members_apart none none rest rest' p q e = (refl, ap (drop 1) e)
  members_apart none (more y ys) rest rest' p q e = absurd (omega (arith, ap (λ z. get_or z 0 0) e))
  members_apart (more x xs) none rest rest' p q e = absurd (omega (arith, ap (λ z. get_or z 0 0) e))
  members_apart (more x xs) (more y ys) rest rest' p q e =
      let one = values_apart x y (members_json (codes ",") xs ++ 93 ∷ rest) (members_json (codes ",") ys ++ 93 ∷ rest') p.0 q.0 (members_end xs rest) (members_end ys rest')
      (sym (append_assoc (json_of x) (members_json (codes ",") xs) (93 ∷ rest)) ∙ ap (drop 1) e ∙ append_assoc (json_of y) (members_json (codes ",") ys) (93 ∷ rest')) in
      let others = members_apart xs ys rest rest' p.1 q.1 one.1 in
      (ap₂ more one.0 others.0, others.1)

  -- two lists of pairs, with or without a value that they annotate
  first_pairs_apart : (named annotates : Bool) (xs ys : Data) (rest rest' : List ℕ) → AreValues xs → AreValues ys →
      AreWhole annotates xs → AreWhole annotates ys → IsStop rest → IsStop rest' →
      pairs_json named [] xs ++ rest ≡ pairs_json named [] ys ++ rest' → (xs ≡ ys) × (rest ≡ rest')
  first_pairs_apart named annotates none none rest rest' p q v w s t e = (refl, e)
  first_pairs_apart named annotates none (more y none) rest rest' p q v w s t e = absurd (both_ways annotates v w)
  first_pairs_apart named annotates none (more l (more y ys)) rest rest' p q v w s t e = absurd (stop_no_pair named l _ _ rest' rest q.0 s e)
  first_pairs_apart named annotates (more x none) none rest rest' p q v w s t e = absurd (both_ways annotates w v)
  first_pairs_apart named annotates (more x none) (more y none) rest rest' p q v w s t e =
      let one = values_apart x y rest rest' p.0 q.0 (stop_end rest s) (stop_end rest' t) (annotated_part named (json_of x) (json_of y) rest rest' e) in
      (ap (λ z. more z none) one.0, one.1)
  first_pairs_apart named annotates (more x none) (more l (more y ys)) rest rest' p q v w s t e =
      absurd (stop_no_pair named l _ _ rest' _ q.0 (of_stop named (codes ",\"of\":" ++ json_of x) rest) e)
  first_pairs_apart named annotates (more k (more x xs)) none rest rest' p q v w s t e = absurd (stop_no_pair named k _ _ rest rest' p.0 t (sym e))
  first_pairs_apart named annotates (more k (more x xs)) (more y none) rest rest' p q v w s t e =
      absurd (stop_no_pair named k _ _ rest _ p.0 (of_stop named (codes ",\"of\":" ++ json_of y) rest') (sym e))
  first_pairs_apart named annotates (more k (more x xs)) (more l (more y ys)) rest rest' p q v w s t e =
      pair_apart named k l x y xs ys rest rest' (λ r r'. values_apart k l r r' p.0 q.0) (λ r r'. values_apart x y r r' p.1.0 q.1.0)
      (stop_end rest s) (stop_end rest' t) (pairs_apart named annotates xs ys rest rest' p.1.1 q.1.1 v w s t) e

  -- the same of further pairs
  pairs_apart : (named annotates : Bool) (xs ys : Data) (rest rest' : List ℕ) → AreValues xs → AreValues ys →
      AreWhole annotates xs → AreWhole annotates ys → IsStop rest → IsStop rest' →
      pairs_json named (codes ",") xs ++ rest ≡ pairs_json named (codes ",") ys ++ rest' → (xs ≡ ys) × (rest ≡ rest')
  pairs_apart named annotates none none rest rest' p q v w s t e = (refl, e)
  pairs_apart named annotates none (more y none) rest rest' p q v w s t e = absurd (both_ways annotates v w)
  pairs_apart named annotates none (more l (more y ys)) rest rest' p q v w s t e = absurd (stop_no_comma named _ _ _ rest' rest s e)
  pairs_apart named annotates (more x none) none rest rest' p q v w s t e = absurd (both_ways annotates w v)
  pairs_apart named annotates (more x none) (more y none) rest rest' p q v w s t e =
      let one = values_apart x y rest rest' p.0 q.0 (stop_end rest s) (stop_end rest' t) (annotated_part named (json_of x) (json_of y) rest rest' e) in
      (ap (λ z. more z none) one.0, one.1)
  pairs_apart named annotates (more x none) (more l (more y ys)) rest rest' p q v w s t e =
      absurd (stop_no_comma named _ _ _ rest' _ (of_stop named (codes ",\"of\":" ++ json_of x) rest) e)
  pairs_apart named annotates (more k (more x xs)) none rest rest' p q v w s t e = absurd (stop_no_comma named _ _ _ rest rest' t (sym e))
  pairs_apart named annotates (more k (more x xs)) (more y none) rest rest' p q v w s t e =
      absurd (stop_no_comma named _ _ _ rest _ (of_stop named (codes ",\"of\":" ++ json_of y) rest') (sym e))
  pairs_apart named annotates (more k (more x xs)) (more l (more y ys)) rest rest' p q v w s t e =
      further_apart named k l x y xs ys rest rest' (λ r r'. values_apart k l r r' p.0 q.0) (λ r r'. values_apart x y r r' p.1.0 q.1.0)
      (stop_end rest s) (stop_end rest' t) (pairs_apart named annotates xs ys rest rest' p.1.1 q.1.1 v w s t) e

-- two values with one JSON text
pub equal_json : EqualJsonMeansEqualValues
equal_json x y p q e = (values_apart x y [] [] p q tt tt (append-nil (json_of x) ∙ e ∙ sym (append-nil (json_of y)))).0
