-- Answers that arrived early, by their places.
use Rattle.std.proofs.Common.{◌≡◌, ℕ, zero, suc, ◌+◌, ◌-◌, ◌<◌, ◌≤◌, List, [], ◌∷◌, ◌++◌, length, drop, Option, None, Some, refl, sym, replicate, set, ap, ◌∙◌, arith, slice_index_or, subst}
use Rattle.std.proofs.lemmas.List.{drop-drop, drop_more, length-map, map-append, map-set}
use Rattle.std.proofs.Math.ListN.{drop_of_length-le}
use Rattle.resp_board.specs.declared.early.Early.{Early}
use Rattle.resp_board.specs.Answers.{BeginsMissing, answer_of, answers_of}

-- what a place has, if it is a place of these
mapped : (xs : List (Option Early)) (n : ℕ) (x : Option Early) → slice_index_or (answers_of xs) n (answer_of x) ≡ answer_of (slice_index_or xs n x)
mapped [] n x = refl
mapped (y ∷ xs) zero x = refl
mapped (y ∷ xs) (suc n) x = mapped xs n x

pub there : (items : List (Option Early)) (place : ℕ) (x : Option Early) (e : Early) (text : List ℕ) → place < length items → x ≡ slice_index_or items place x →
    x ≡ Some e → text ≡ e.bytes.items → drop place (answers_of items) ≡ Some text ∷ drop (place + 1) (answers_of items)
there items place x e text within at is same =
    drop_more (answers_of items) place (answer_of x) (omega (arith, within, length-map items answer_of)) ∙
    ap (λ a. a ∷ drop (place + 1) (answers_of items)) (mapped items place x ∙ ap answer_of (sym at ∙ is) ∙ ap (λ t. Some t) (sym same))

pub missing : (items : List (Option Early)) (place : ℕ) (x : Option Early) → place < length items → x ≡ slice_index_or items place x → x ≡ None →
    BeginsMissing (drop place (answers_of items))
missing items place x within at is =
    subst BeginsMissing (sym (drop_more (answers_of items) place (answer_of x) (omega (arith, within, length-map items answer_of)) ∙
    ap (λ a. a ∷ drop (place + 1) (answers_of items)) (mapped items place x ∙ ap answer_of (sym at ∙ is)))) tt

pub none_there : (items : List (Option Early)) (place : ℕ) → length items ≤ place → BeginsMissing (drop place (answers_of items))
none_there items place few = subst BeginsMissing (sym (drop_of_length-le (answers_of items) (omega (arith, few, length-map items answer_of)))) tt

-- behind the first one
pub behind : {A : Type 0} (xs : List A) (n : ℕ) → drop n (drop 1 xs) ≡ drop (n + 1) xs
behind xs n = let e : 1 + n ≡ n + 1 = omega arith in drop-drop n 1 xs ∙ ap (λ m. drop m xs) e

-- missing answers
pub all_missing : (n : ℕ) → answers_of (replicate n None) ≡ replicate n None
all_missing zero = refl
all_missing (suc n) = ap (λ xs. None ∷ xs) (all_missing n)

-- an answer is put at a place, behind missing ones if there is no such place
pub put_there : (old items : List (Option Early)) (count place : ℕ) (e : Early) (text : List ℕ) → items ≡ old ++ replicate count None →
    count ≡ place + 1 - length old → e.bytes.items ≡ text →
    answers_of (set items place (Some e)) ≡ set (answers_of old ++ replicate (place + 1 - length old) None) place (Some text)
put_there old items count place e text is number same =
    map-set answer_of items place (Some e) ∙
    ap (λ xs. set (answers_of xs) place (Some e.bytes.items)) is ∙
    ap (λ xs. set xs place (Some e.bytes.items)) (map-append answer_of old (replicate count None) ∙
    ap (λ xs. answers_of old ++ xs) (all_missing count ∙ ap (λ n. replicate n None) number)) ∙
    ap (λ t. set (answers_of old ++ replicate (place + 1 - length old) None) place (Some t)) same
