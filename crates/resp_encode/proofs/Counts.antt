-- How many members and pairs an aggregate counts.
use Rattle.std.proofs.Common.{◌≡◌, ℕ, ◌/◌, List, [], ◌∷◌, ◌++◌, length, map, ◌∙◌, arith, length-append}
use Rattle.std.proofs.Common.{Vec, Global}
use Rattle.std.proofs.lemmas.List.{length-map}
use Rattle.resp_value.specs.Data.{Datum, data_of_list, in_turn, count}
use Rattle.resp_value.proofs.DatumOf.{count-data_of_list, length-in_turn}
use Rattle.resp_value.specs.Words.{word_datum, texts_of}

pub count-map : {A : Type 0} (f : A → Datum) (xs : List A) → count (data_of_list (map f xs)) ≡ length xs
count-map f xs = count-data_of_list (map f xs) ∙ length-map xs f

pub count-in_turn : {A : Type 0} (f : A → Datum × Datum) (xs : List A) → count (data_of_list (in_turn (map f xs))) / 2 ≡
    length xs
count-in_turn f xs = omega (arith, count-data_of_list (in_turn (map f xs)), length-in_turn (map f xs), length-map xs f)

pub count-annotated : {A : Type 0} (f : A → Datum × Datum) (xs : List A) (x : Datum) →
    count (data_of_list (in_turn (map f xs) ++ x ∷ [])) / 2 ≡ length xs
count-annotated f xs x = omega (
  arith,
  count-data_of_list (in_turn (map f xs) ++ x ∷ []),
  length-append (in_turn (map f xs)) (x ∷ []),
  length-in_turn (map f xs),
  length-map xs f,
)

pub count-words : (words : List (Vec ℕ Global)) → count (data_of_list (map word_datum (texts_of words))) ≡ length words
count-words words = count-map word_datum (texts_of words) ∙ length-map words (λ word. word.items)
