-- The data of a list up to a place, and with one more.
use Rattle.std.proofs.Common.{◌≡◌, ℕ, ◌+◌, ◌<◌, ◌≤◌, List, [], ◌∷◌, ◌++◌, length, map, take, drop, get_or, refl, sym, ap, ◌∙◌, arith, append_assoc, length-append}
use Rattle.std.proofs.Common.{Vec, Global}
use Rattle.std.proofs.lemmas.List.{take_more, map-append, take-append-drop, take-map}
use Rattle.resp_value.specs.Data.{Datum, data_of_list, in_turn}
use Rattle.resp_value.specs.Trees.{texts}
use Rattle.resp_value.specs.Canonical.{canonical_text, canonical_trees}
use Rattle.resp_value.specs.Values.{extended}
use Rattle.resp_value.specs.declared.version.Version.{Version}
use Rattle.resp_value.specs.declared.version.Version.TheVariants.{Two}
use Rattle.resp_value.specs.Words.{word_datum, texts_of}
use Rattle.resp_encode.proofs.Extended.{data_of_list-push, length-texts-extended, texts-extended}

-- one more member
pub data-take_more : {A : Type 0} (f : A → Datum) (xs : List A) (i : ℕ) (d : A) → i < length xs →
    data_of_list (map f (take (i + 1) xs)) ≡ extended (data_of_list (map f (take i xs))) (f (get_or xs i d))
data-take_more f xs i d h =
    ap (λ ys. data_of_list (map f ys)) (take_more xs i d h)
    ∙ ap data_of_list (map-append f (take i xs) (get_or xs i d ∷ []))
    ∙ data_of_list-push (map f (take i xs)) (f (get_or xs i d))

in_turn-append : (ps qs : List (Datum × Datum)) → in_turn (ps ++ qs) ≡ in_turn ps ++ in_turn qs
in_turn-append [] qs = refl
in_turn-append (p ∷ ps) qs = ap (λ rest. p.0 ∷ p.1 ∷ rest) (in_turn-append ps qs)

-- one more pair
pub pairs-take_more : {A : Type 0} (f : A → Datum × Datum) (xs : List A) (i : ℕ) (d : A) → i < length xs →
    data_of_list (in_turn (map f (take (i + 1) xs))) ≡
    extended (extended (data_of_list (in_turn (map f (take i xs)))) (f (get_or xs i d)).0) (f (get_or xs i d)).1
pairs-take_more f xs i d h =
    let pair = f (get_or xs i d) in
    let front = in_turn (map f (take i xs)) in
    ap (λ ys. data_of_list (in_turn (map f ys))) (take_more xs i d h)
    ∙ ap (λ ys. data_of_list (in_turn ys)) (map-append f (take i xs) (get_or xs i d ∷ []))
    ∙ ap data_of_list (in_turn-append (map f (take i xs)) (pair ∷ []))
    ∙ ap data_of_list (sym (append_assoc front (pair.0 ∷ []) (pair.1 ∷ [])))
    ∙ data_of_list-push (front ++ pair.0 ∷ []) pair.1
    ∙ ap (λ xs. extended xs pair.1) (data_of_list-push front pair.0)

-- where this is the pair that comes next
pub pairs-taken : {A : Type 0} (f : A → Datum × Datum) (xs : List A) (i : ℕ) (d : A) → i < length xs → d ≡ get_or xs i d →
    data_of_list (in_turn (map f (take (i + 1) xs))) ≡ extended (extended (data_of_list (in_turn (map f (take i xs)))) (f d).0) (f d).1
pairs-taken f xs i d h is = pairs-take_more f xs i d h ∙
    ap (λ pair. extended (extended (data_of_list (in_turn (map f (take i xs)))) (f pair).0) (f pair).1) (sym is)

texts-append : (version : Version) (xs ys : List Datum) → texts (canonical_trees version (data_of_list (xs ++ ys))) ≡
    texts (canonical_trees version (data_of_list xs)) ++ texts (canonical_trees version (data_of_list ys))
texts-append version [] ys = refl
texts-append version (x ∷ xs) ys =
    ap (λ rest. canonical_text version x ++ rest) (texts-append version xs ys)
    ∙ sym (append_assoc (canonical_text version x) (texts (canonical_trees version (data_of_list xs)))
    (texts (canonical_trees version (data_of_list ys))))

-- the first texts are no longer than all
length-texts-front : (version : Version) (xs ys : List Datum) →
    length (texts (canonical_trees version (data_of_list xs))) ≤ length
    (texts (canonical_trees version (data_of_list (xs ++ ys))))
length-texts-front version xs ys = omega (
  arith,
  ap length (texts-append version xs ys),
  length-append (texts (canonical_trees version (data_of_list xs))) (texts (canonical_trees version (data_of_list ys))),
)

map-split : {A B : Type 0} (f : A → B) (n : ℕ) (xs : List A) → map f xs ≡ map f (take n xs) ++ map f (drop n xs)
map-split f n xs = ap (map f) (sym (take-append-drop n xs)) ∙ map-append f (take n xs) (drop n xs)

-- after the texts up to a place there is room for one more
pub text_room : {A : Type 0} (version : Version) (f : A → Datum) (xs : List A) (i : ℕ) (d : A) → i < length xs →
    length (texts (canonical_trees version (data_of_list (map f (take i xs))))) + length
    (canonical_text version (f (get_or xs i d))) ≤ length
    (texts (canonical_trees version (data_of_list (map f xs))))
text_room version f xs i d h = omega (
  arith,
  length-texts-extended version (data_of_list (map f (take i xs))) (f (get_or xs i d)),
  ap (λ ys. length (texts (canonical_trees version ys))) (data-take_more f xs i d h),
  length-texts-front version (map f (take (i + 1) xs)) (map f (drop (i + 1) xs)),
  ap (λ ys. length (texts (canonical_trees version (data_of_list ys)))) (map-split f (i + 1) xs),
)

-- the text of the next pair stands within the text of all pairs
pub pair_room : {A : Type 0} (version : Version) (f : A → Datum × Datum) (xs : List A) (i : ℕ) (d : A) → i < length xs →
    length (texts (canonical_trees version (data_of_list (in_turn (map f (take i xs)))))) + length
    (canonical_text version (f (get_or xs i d)).0) + length
    (canonical_text version (f (get_or xs i d)).1) ≤ length
    (texts (canonical_trees version (data_of_list (in_turn (map f xs)))))
pair_room version f xs i d h =
    let pair = f (get_or xs i d) in
    let front = data_of_list (in_turn (map f (take i xs))) in
    omega (
      arith,
      length-texts-extended version front pair.0,
      length-texts-extended version (extended front pair.0) pair.1,
      ap (λ ys. length (texts (canonical_trees version ys))) (pairs-take_more f xs i d h),
      length-texts-front version (in_turn (map f (take (i + 1) xs))) (in_turn (map f (drop (i + 1) xs))),
      ap (λ ys. length (texts (canonical_trees version (data_of_list ys)))) (ap in_turn (map-split f (i + 1) xs) ∙
          in_turn-append (map f (take (i + 1) xs)) (map f (drop (i + 1) xs))),
    )

map-map : (words : List (Vec ℕ Global)) → map word_datum (map (λ word. word.items) words) ≡
    map (λ word. word_datum word.items) words
map-map [] = refl
map-map (word ∷ words) = ap (λ rest. word_datum word.items ∷ rest) (map-map words)

-- one more word
pub word_take_more : (words : List (Vec ℕ Global)) (i : ℕ) (d : Vec ℕ Global) {text : List ℕ} → i < length words →
    text ≡ (get_or words i d).items →
    data_of_list (map word_datum (take (i + 1) (texts_of words))) ≡
    extended (data_of_list (map word_datum (take i (texts_of words)))) (word_datum text)
word_take_more words i d {text = text} h e =
    ap (λ ws. data_of_list (map word_datum ws)) (take-map (λ word. word.items) (i + 1) words)
    ∙ ap data_of_list (map-map (take (i + 1) words))
    ∙ data-take_more (λ word. word_datum word.items) words i d h
    ∙ ap (λ x. extended (data_of_list (map (λ word. word_datum word.items) (take i words))) (word_datum x)) (sym e)
    ∙ ap (λ ws. extended (data_of_list ws) (word_datum text)) (sym (map-map (take i words)) ∙
    ap (map word_datum) (sym (take-map (λ word. word.items) i words)))

-- and its text
pub word_text_more : (words : List (Vec ℕ Global)) (i : ℕ) (d : Vec ℕ Global) {text : List ℕ} → i < length words →
    text ≡ (get_or words i d).items →
    texts (canonical_trees Two (data_of_list (map word_datum (take (i + 1) (texts_of words))))) ≡
    texts (canonical_trees Two (data_of_list (map word_datum (take i (texts_of words))))) ++ canonical_text Two (word_datum text)
word_text_more words i d {text = text} h e = ap (λ xs. texts (canonical_trees Two xs)) (word_take_more words i d h e)
    ∙ texts-extended Two (data_of_list (map word_datum (take i (texts_of words)))) (word_datum text)

-- after the words up to a place there is room for one more
pub word_room : (words : List (Vec ℕ Global)) (i : ℕ) (d : Vec ℕ Global) {text : List ℕ} → i < length words →
    text ≡ (get_or words i d).items →
    length (texts (canonical_trees Two (data_of_list (map word_datum (take i (texts_of words)))))) + length
    (canonical_text Two (word_datum text)) ≤ length
    (texts (canonical_trees Two (data_of_list (map word_datum (texts_of words)))))
word_room words i d {text = text} h e = omega (
  arith,
  text_room Two (λ word. word_datum word.items) words i d h,
  ap (λ ws. length (texts (canonical_trees Two (data_of_list ws)))) (map-map (take i words)),
  ap (λ ws. length (texts (canonical_trees Two (data_of_list (map word_datum ws)))))
      (take-map (λ word. word.items) i words),
  ap (λ ws. length (texts (canonical_trees Two (data_of_list ws)))) (map-map words),
  ap (λ t. length (canonical_text Two (word_datum t))) e,
)
