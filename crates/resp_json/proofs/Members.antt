-- The JSON texts of members and pairs, one after another.
use Rattle.std.specs.declared.boxed.Box.{Box}
use Rattle.std.proofs.Common.{Global, Bool, true, false, ◌≡◌, ◌<◌, ◌+◌, ℕ, List, [], ◌∷◌, ◌++◌, map, length, drop, get_or, codes, refl, sym, ap, ◌∙◌, append_assoc}
use Rattle.std.proofs.lemmas.List.{at_drop_more}
use Rattle.resp_value.specs.Data.{Datum, Data, Attr, aggregate, data_of_list, in_turn}
use Rattle.resp_value.specs.Values.{datum_of, pair_data, pairs_of}
use Rattle.resp_value.proofs.DatumOf.{datum_of-Attr}
use Rattle.resp_value.specs.declared.value.PairList.{PairList}
use Rattle.resp_value.specs.declared.value.Value.TheVariants as value
use Rattle.resp_value.specs.declared.value.Value.{Value}
use Rattle.resp_json.specs.Json.{close_bracket, in_brackets, is_object, json_of, members_json, open_bracket, pair_json, pairs_json}
use Rattle.resp_json.specs.Pairs.{after_value, before_key, before_value}
use Rattle.resp_json.proofs.Names.{is_object_with}

-- the next member, and the others
pub next_member : (separator : List ℕ) (xs : List Value) (i : ℕ) (x : Value) → i < length xs → x ≡ get_or xs i x →
    members_json separator (data_of_list (map datum_of (drop i xs))) ≡
    (separator ++ json_of (datum_of x)) ++ members_json (codes ",") (data_of_list (map datum_of (drop (i + 1) xs)))
next_member separator xs i x below is =
    let F = λ (ys : List Value). members_json separator (data_of_list (map datum_of ys)) in
    let rest = members_json (codes ",") (data_of_list (map datum_of (drop (i + 1) xs))) in
    at_drop_more F xs i x below ∙ ap (λ y. separator ++ (json_of (datum_of y) ++ rest)) (sym is) ∙ sym (append_assoc separator (json_of (datum_of x)) rest)

-- a pair, part after part
pair_parts : (named : Bool) (separator key value rest : List ℕ) →
    pair_json named separator key value ++ rest ≡
    separator ++ ((before_key named ++ key) ++ ((before_value named ++ value) ++ (after_value named ++ rest)))
pair_parts true separator key value rest = simp append_assoc
pair_parts false separator key value rest = simp append_assoc

-- the next pair, and the others
next_pair : (named : Bool) (separator : List ℕ) (xs : List (Value × Value)) (i : ℕ) (x : Value × Value) → i < length xs → x ≡ get_or xs i x →
    pairs_json named separator (data_of_list (in_turn (map pair_data (drop i xs)))) ≡
    separator ++ ((before_key named ++ json_of (datum_of x.0)) ++ ((before_value named ++ json_of (datum_of x.1)) ++
    (after_value named ++ pairs_json named (codes ",") (data_of_list (in_turn (map pair_data (drop (i + 1) xs)))))))
next_pair named separator xs i x below is =
    let F = λ (ys : List (Value × Value)). pairs_json named separator (data_of_list (in_turn (map pair_data ys))) in
    let rest = pairs_json named (codes ",") (data_of_list (in_turn (map pair_data (drop (i + 1) xs)))) in
    at_drop_more F xs i x below ∙
    ap (λ (y : Value × Value). pair_json named separator (json_of (datum_of y.0)) (json_of (datum_of y.1)) ++ rest) (sym is) ∙
    pair_parts named separator (json_of (datum_of x.0)) (json_of (datum_of x.1)) rest

-- the same with equal texts around the key and the value
pub next_pair_as : (named : Bool) (opening middle ending separator : List ℕ) (xs : List (Value × Value)) (i : ℕ) (x : Value × Value) →
    opening ≡ before_key named → middle ≡ before_value named → ending ≡ after_value named → i < length xs → x ≡ get_or xs i x →
    pairs_json named separator (data_of_list (in_turn (map pair_data (drop i xs)))) ≡
    separator ++ ((opening ++ json_of (datum_of x.0)) ++ ((middle ++ json_of (datum_of x.1)) ++
    (ending ++ pairs_json named (codes ",") (data_of_list (in_turn (map pair_data (drop (i + 1) xs)))))))
next_pair_as named opening middle ending separator xs i x e f g below is =
    let rest = pairs_json named (codes ",") (data_of_list (in_turn (map pair_data (drop (i + 1) xs)))) in
    let key = json_of (datum_of x.0) in
    let value = json_of (datum_of x.1) in
    next_pair named separator xs i x below is ∙
    ap (λ z. separator ++ ((z ++ key) ++ ((before_value named ++ value) ++ (after_value named ++ rest)))) (sym e) ∙
    ap (λ z. separator ++ ((opening ++ key) ++ ((z ++ value) ++ (after_value named ++ rest)))) (sym f) ∙
    ap (λ z. separator ++ ((opening ++ key) ++ ((middle ++ value) ++ (z ++ rest)))) (sym g)

-- pairs and an annotated value
pairs_with : (named : Bool) (separator : List ℕ) (pairs : List (Datum × Datum)) (x : Datum) →
    pairs_json named separator (data_of_list (in_turn pairs ++ x ∷ [])) ≡
    pairs_json named separator (data_of_list (in_turn pairs)) ++ (close_bracket named ++ (codes ",\"of\":" ++ json_of x))
pairs_with named separator [] x = refl
pairs_with named separator (pair ∷ pairs) x =
    let one = pair_json named separator (json_of pair.0) (json_of pair.1) in
    ap (λ z. one ++ z) (pairs_with named (codes ",") pairs x) ∙
    sym (append_assoc one (pairs_json named (codes ",") (data_of_list (in_turn pairs))) (close_bracket named ++ (codes ",\"of\":" ++ json_of x)))

-- pairs in their brackets, part after part, between two texts
pub bracketed_text : (front opening close after : List ℕ) (ps : List (Value × Value)) (named : Bool) →
    named ≡ is_object (data_of_list (in_turn (map pair_data ps))) → opening ≡ open_bracket named → close ≡ close_bracket named →
    let xs = data_of_list (in_turn (map pair_data ps)) in
    front ++ (opening ++ (pairs_json named [] xs ++ (close ++ after))) ≡ front ++ (in_brackets (is_object xs) (pairs_json (is_object xs) [] xs) ++ after)
bracketed_text front opening close after ps named is e f =
    let xs = data_of_list (in_turn (map pair_data ps)) in
    ap (λ z. front ++ (z ++ (pairs_json named [] xs ++ (close ++ after)))) e ∙
    ap (λ z. front ++ (open_bracket named ++ (pairs_json named [] xs ++ (z ++ after)))) f ∙
    ap (λ z. front ++ z) (brackets_first named (pairs_json named [] xs) after) ∙
    ap (λ b. front ++ (in_brackets b (pairs_json b [] xs) ++ after)) is
  where
    brackets_first : (b : Bool) (pairs rest : List ℕ) → open_bracket b ++ (pairs ++ (close_bracket b ++ rest)) ≡ in_brackets b pairs ++ rest
    brackets_first b pairs rest = simp append_assoc

attribute_parts : (front opening pairs close of x : List ℕ) →
    (front ++ ((opening ++ (pairs ++ close)) ++ of)) ++ (x ++ codes "}") ≡ front ++ (opening ++ ((pairs ++ (close ++ (of ++ x))) ++ codes "}"))
attribute_parts front opening pairs close of x = simp append_assoc

-- the text of an attribute up to the value that it annotates
abbrev pub attribute_front : Data → List ℕ
attribute_front xs = codes "{\"attribute\":" ++ (in_brackets (is_object xs) (pairs_json (is_object xs) [] xs) ++ codes ",\"of\":")

attribute_of : (ps : List (Datum × Datum)) (x : Datum) →
    attribute_front (data_of_list (in_turn ps)) ++ (json_of x ++ codes "}") ≡ json_of (aggregate Attr (data_of_list (in_turn ps ++ x ∷ [])))
attribute_of ps x =
    let named = is_object (data_of_list (in_turn ps)) in
    let text = λ (b : Bool). codes "{\"attribute\":" ++ (open_bracket b ++ (pairs_json b [] (data_of_list (in_turn ps ++ x ∷ [])) ++ codes "}")) in
    attribute_parts (codes "{\"attribute\":") (open_bracket named) (pairs_json named [] (data_of_list (in_turn ps))) (close_bracket named)
    (codes ",\"of\":") (json_of x) ∙
    ap (λ z. codes "{\"attribute\":" ++ (open_bracket named ++ (z ++ codes "}"))) (sym (pairs_with named [] ps x)) ∙ ap text (sym (is_object_with ps x))

-- an attribute, part after part
pub attribute_json : (v : Value) (pairs : PairList) (annotated : Box Value Global) (ps : List (Value × Value)) → ps ≡ pairs_of pairs → v ≡ value.Attr pairs annotated →
    attribute_front (data_of_list (in_turn (map pair_data ps))) ++ (json_of (datum_of annotated.value) ++ codes "}") ≡ json_of (datum_of v)
attribute_json v pairs annotated ps same is =
    let x = datum_of annotated.value in
    attribute_of (map pair_data ps) x ∙
    ap (λ qs. json_of (aggregate Attr (data_of_list (in_turn (map pair_data qs) ++ x ∷ [])))) same ∙
    ap json_of (sym (ap datum_of is ∙ datum_of-Attr pairs annotated))
