-- Answers that can be given behind the first one.
use Rattle.std.proofs.Common.{◌≡◌, ℕ, ◌+◌, List, [], ◌∷◌, ◌++◌, length, map, drop, Option, None, Some, refl, sym, ap, ◌∙◌, append_assoc, length-append}
use Rattle.std.specs.List.{concat}
use Rattle.std.proofs.lemmas.List.{append-nil}
use Rattle.std.proofs.lemmas.List.Folds.{concat-append}
use Rattle.resp_board.specs.Answers.{BeginsMissing, front_answers}

abbrev pub Texts : Type 0
Texts = List (Option (List ℕ))

-- this many answers are there, and were added to these bytes
pub record AreAdded (answers : Texts) (count : ℕ) (before out : List ℕ) : Type 0 where
  pub told : List (List ℕ)
  pub whole : answers ≡ map Some told ++ drop count answers
  pub number : count ≡ length told
  pub added : out ≡ before ++ concat told

-- nothing was added yet
pub none_added : (answers : Texts) (before : List ℕ) → AreAdded answers 0 before before
none_added answers before = record { told = []; whole = refl; number = refl; added = sym (append-nil before) }

told_more : (told : List (List ℕ)) (text : List ℕ) (rest : Texts) → map Some told ++ Some text ∷ rest ≡ map Some (told ++ text ∷ []) ++ rest
told_more [] text rest = refl
told_more (t ∷ told) text rest = ap (λ ts. Some t ∷ ts) (told_more told text rest)

-- one answer more is added
pub one_more : (answers : Texts) (count : ℕ) (before out new text : List ℕ) → AreAdded answers count before out →
    drop count answers ≡ Some text ∷ drop (count + 1) answers → new ≡ out ++ text → AreAdded answers (count + 1) before new
one_more answers count before out new text a next is = record {
  told = a.told ++ text ∷ [];
  whole = a.whole ∙ ap (λ xs. map Some a.told ++ xs) next ∙ told_more a.told text (drop (count + 1) answers);
  number = ap (λ n. n + 1) a.number ∙ sym (length-append a.told (text ∷ []));
  added = is ∙ ap (λ o. o ++ text) a.added ∙ append_assoc before (concat a.told) text ∙
      ap (λ t. before ++ (concat a.told ++ t)) (sym (append-nil text)) ∙ ap (λ t. before ++ t) (sym (concat-append a.told (text ∷ [])));
}

-- the answers up to the first missing one
pub front_told : (told : List (List ℕ)) (rest : Texts) → BeginsMissing rest → front_answers (map Some told ++ rest) ≡ told
front_told [] [] h = refl
front_told [] (None ∷ rest) h = refl
front_told [] (Some text ∷ rest) h = absurd h
front_told (t ∷ told) rest h = ap (λ ts. t ∷ ts) (front_told told rest h)

-- all are added once the next one is missing
pub all_told : (answers : Texts) (count : ℕ) (before out : List ℕ) → (a : AreAdded answers count before out) → BeginsMissing (drop count answers) →
    front_answers answers ≡ a.told
all_told answers count before out a h = ap front_answers a.whole ∙ front_told a.told (drop count answers) h

pub all_counted : (answers : Texts) (count : ℕ) (before out : List ℕ) → AreAdded answers count before out → BeginsMissing (drop count answers) →
    count ≡ length (front_answers answers)
all_counted answers count before out a h = a.number ∙ ap length (sym (all_told answers count before out a h))

pub all_added : (answers : Texts) (count : ℕ) (before out : List ℕ) → AreAdded answers count before out → BeginsMissing (drop count answers) →
    out ≡ before ++ concat (front_answers answers)
all_added answers count before out a h = a.added ∙ ap (λ told. before ++ concat told) (sym (all_told answers count before out a h))
