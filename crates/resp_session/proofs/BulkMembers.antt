-- Bulk strings among the members of an array.
use Rattle.std.proofs.Common.{◌≡◌, ℕ, suc, ◌<◌, List, [], ◌∷◌, ◌++◌, length, map, take, drop, get_or, None, Some, refl, sym, ap, ◌∙◌, drop-cons}
use Rattle.std.proofs.lemmas.List.{take-append-drop}
use Rattle.std.specs.List.{AllByRecursion}
use Rattle.resp_value.specs.Data.{data_of_list}
use Rattle.resp_value.specs.Values.{datum_of}
use Rattle.resp_value.specs.declared.content.Content.{Content}
use Rattle.resp_value.specs.declared.value.Value.{Value}
use Rattle.resp_value.specs.declared.value.Value.TheVariants.{Null, Bool, Int, Simple, Error, Double, Bulk, BulkError, Verbatim, Big, Array', Set', Map', Attr', Push'}
use Rattle.resp_session.specs.Bulks.{bulk_bytes, IsBulk}
use Rattle.resp_session.specs.Commands.{bulk_content, contents_with, bulk_contents}

-- the contents of bulk strings are their bytes
pub contents_of_bulks : (xs : List Value) → AllByRecursion IsBulk xs → bulk_contents (data_of_list (map datum_of xs)) ≡ Some (map bulk_bytes xs)
contents_of_bulks [] h = refl
contents_of_bulks (x ∷ xs) h =
    ap (λ y. contents_with (bulk_content y) (bulk_contents (data_of_list (map datum_of xs)))) h.0 ∙
    ap (contents_with (Some (bulk_bytes x))) (contents_of_bulks xs h.1)

-- any other value has no bulk string's content
other_content : (x : Value) → ((content : Content) → x ≡ Bulk content → ⊥) → bulk_content (datum_of x) ≡ None
other_content Null other = refl
other_content (Bool b) other = refl
other_content (Int i) other = refl
other_content (Simple line) other = refl
other_content (Error line) other = refl
other_content (Double text) other = refl
other_content (Bulk content) other = absurd (other content refl)
other_content (BulkError content) other = refl
other_content (Verbatim format content) other = refl
other_content (Big digits) other = refl
other_content (Array' shape row) other = refl
other_content (Set' shape row) other = refl
other_content (Map' shape row) other = refl
other_content (Attr' shape row pairs annotated) other = refl
other_content (Push' shape row) other = refl

none_with : (x : _) → contents_with x None ≡ None
none_with None = refl
none_with (Some content) = refl

-- members with another value among them
no_contents : (xs ys : List Value) (x : Value) → bulk_content (datum_of x) ≡ None → bulk_contents (data_of_list (map datum_of (xs ++ x ∷ ys))) ≡ None
no_contents [] ys x none = ap (λ c. contents_with c (bulk_contents (data_of_list (map datum_of ys)))) none
no_contents (first ∷ xs) ys x none =
    ap (contents_with (bulk_content (datum_of first))) (no_contents xs ys x none) ∙ none_with (bulk_content (datum_of first))

pub other_member : (xs : List Value) (i : ℕ) (x : Value) → i < length xs → x ≡ get_or xs i x → ((content : Content) → x ≡ Bulk content → ⊥) →
    bulk_contents (data_of_list (map datum_of xs)) ≡ None
other_member xs i x within is other =
    let split : xs ≡ take i xs ++ (x ∷ drop (suc i) xs) =
    sym (take-append-drop i xs) ∙ ap (λ l. take i xs ++ l) (drop-cons xs i x within ∙ ap (λ y. y ∷ drop (suc i) xs) (sym is)) in
    ap (λ l. bulk_contents (data_of_list (map datum_of l))) split ∙ no_contents (take i xs) (drop (suc i) xs) x (other_content x other)
