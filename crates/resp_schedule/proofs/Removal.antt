-- A queue that is passed once, without one of its places.
use Rattle.std.proofs.Common.{◌≡◌, ◌≢◌, inl, inr, ℕ, ◌+◌, ◌<◌, ◌≤◌, List, [], ◌∷◌, ◌++◌, length, get_or, take, drop, refl, sym, ap, ◌∙◌, arith, append_assoc}
use Rattle.std.proofs.lemmas.List.{take_more, drop_more, take_all, drop_all, length-take, length-take-le, length-append, get_or-take, take-append-drop, take_at}
use Rattle.std.proofs.lemmas.List.Elements.{filter-append}
use Rattle.std.proofs.lemmas.Bool.{cases_lt}
use Rattle.resp_schedule.specs.Places.{without}
use Rattle.resp_schedule.proofs.Lists.{without_push_same, without_push_other}

-- the place at an index is the first of what is left
pub first_left : (queue passed : List ℕ) (i other : ℕ) (rest : List ℕ) → i < length queue → drop i queue ++ passed ≡ other ∷ rest →
    (get_or queue i 0 ≡ other) × (drop (i + 1) queue ++ passed ≡ rest)
first_left queue passed i other rest within begins =
    let all : get_or queue i 0 ∷ (drop (i + 1) queue ++ passed) ≡ other ∷ rest =
    sym (ap (λ xs. xs ++ passed) (drop_more queue i 0 within)) ∙ begins in
    ((cc), (cc))

-- one more place was passed, and it is the one
pub passed_same : (place : ℕ) (queue : List ℕ) (i : ℕ) → i < length queue → get_or queue i 0 ≡ place →
    without place (take (i + 1) queue) ≡ without place (take i queue)
passed_same place queue i within is =
    ap (without place) (take_more queue i 0 within ∙ ap (λ x. take i queue ++ x ∷ []) is) ∙ without_push_same place (take i queue)

-- one more place was passed, and it is another
pub passed_other : (place other : ℕ) (queue : List ℕ) (i : ℕ) → i < length queue → get_or queue i 0 ≡ other → other ≢ place →
    without place (take (i + 1) queue) ≡ without place (take i queue) ++ other ∷ []
passed_other place other queue i within is apart =
    ap (without place) (take_more queue i 0 within ∙ ap (λ x. take i queue ++ x ∷ []) is) ∙ without_push_other place other (take i queue) apart

pub rest_same : (place : ℕ) (queue left : List ℕ) (i other : ℕ) (rest : List ℕ) → i < length queue →
    left ≡ drop i queue ++ without place (take i queue) → left ≡ other ∷ rest → other ≡ place →
    rest ≡ drop (i + 1) queue ++ without place (take (i + 1) queue)
rest_same place queue left i other rest within is begins same =
    let parts = first_left queue (without place (take i queue)) i other rest within (sym is ∙ begins) in
    sym parts.1 ∙ ap (λ xs. drop (i + 1) queue ++ xs) (sym (passed_same place queue i within (parts.0 ∙ same)))

pub rest_other : (place : ℕ) (queue left : List ℕ) (i other : ℕ) (rest : List ℕ) → i < length queue →
    left ≡ drop i queue ++ without place (take i queue) → left ≡ other ∷ rest → other ≢ place →
    rest ++ other ∷ [] ≡ drop (i + 1) queue ++ without place (take (i + 1) queue)
rest_other place queue left i other rest within is begins apart =
    let parts = first_left queue (without place (take i queue)) i other rest within (sym is ∙ begins) in
    ap (λ xs. xs ++ other ∷ []) (sym parts.1) ∙ append_assoc (drop (i + 1) queue) (without place (take i queue)) (other ∷ []) ∙
    ap (λ xs. drop (i + 1) queue ++ xs) (sym (passed_other place other queue i within parts.0 apart))

-- how many of the first places are left
pub count_same : (place : ℕ) (queue left : List ℕ) (due i other : ℕ) (rest : List ℕ) → i < length queue → due ≤ length queue →
    left ≡ drop i queue ++ without place (take i queue) → left ≡ other ∷ rest → other ≡ place →
    length (without place (take (i + 1) (take due queue))) ≡ length (without place (take i (take due queue)))
count_same place queue left due i other rest within fits is begins same =
    let parts = first_left queue (without place (take i queue)) i other rest within (sym is ∙ begins) in
    let size : length (take due queue) ≡ due = length-take-le due queue fits in
    elim (cases_lt i due) [
      | inl before ↦ ap length (passed_same place (take due queue) i (omega arith) (get_or-take due queue i 0 before ∙ parts.0 ∙ same))
      | inr after ↦ ap (λ xs. length (without place xs)) (take_all (i + 1) (take due queue) (omega arith) ∙ sym (take_all i (take due queue) (omega arith)))
    ]

pub count_other : (place : ℕ) (queue left : List ℕ) (due i other : ℕ) (rest : List ℕ) → i < length queue → due ≤ length queue → i < due →
    left ≡ drop i queue ++ without place (take i queue) → left ≡ other ∷ rest → other ≢ place →
    length (without place (take (i + 1) (take due queue))) ≡ length (without place (take i (take due queue))) + 1
count_other place queue left due i other rest within fits before is begins apart =
    let parts = first_left queue (without place (take i queue)) i other rest within (sym is ∙ begins) in
    let size : length (take due queue) ≡ due = length-take-le due queue fits in
    ap length (passed_other place other (take due queue) i (omega arith) (get_or-take due queue i 0 before ∙ parts.0) apart) ∙
    length-append (without place (take i (take due queue))) (other ∷ [])

pub count_late : (place : ℕ) (queue : List ℕ) (due i : ℕ) → due ≤ length queue → due ≤ i →
    length (without place (take (i + 1) (take due queue))) ≡ length (without place (take i (take due queue)))
count_late place queue due i fits after =
    let size : length (take due queue) ≡ due = length-take-le due queue fits in
    ap (λ xs. length (without place xs)) (take_all (i + 1) (take due queue) (omega arith) ∙ sym (take_all i (take due queue) (omega arith)))

-- the first places, and all, without the one
pub first_of : (place : ℕ) (queue : List ℕ) (due : ℕ) →
    take (length (without place (take due queue))) (without place queue) ≡ without place (take due queue)
first_of place queue due =
    ap (take (length (without place (take due queue))))
    (ap (without place) (sym (take-append-drop due queue)) ∙ filter-append _ (take due queue) (drop due queue)) ∙
    take_at (without place (take due queue)) (without place (drop due queue)) (length (without place (take due queue))) refl

pub first_within : (place : ℕ) (queue : List ℕ) (due : ℕ) → length (without place (take due queue)) ≤ length (without place queue)
first_within place queue due =
    omega (
      arith,
      ap length (ap (without place) (sym (take-append-drop due queue)) ∙ filter-append _ (take due queue) (drop due queue)),
      length-append (without place (take due queue)) (without place (drop due queue)),
    )

-- all places were passed
pub passed_all : (place : ℕ) (queue left : List ℕ) (due i n : ℕ) → length queue ≤ i → left ≡ drop i queue ++ without place (take i queue) →
    n ≡ length (without place (take i (take due queue))) → (take n left ≡ without place (take due queue)) × (n ≤ length left)
passed_all place queue left due i n past is count =
    let all : left ≡ without place queue =
    is ∙ ap (λ xs. xs ++ without place (take i queue)) (drop_all i queue past) ∙ ap (without place) (take_all i queue past) in
    let size : n ≡ length (without place (take due queue)) =
    count ∙ ap (λ xs. length (without place xs)) (take_all i (take due queue) (omega (arith, length-take due queue))) in (
      ap (λ m. take m left) size ∙ ap (take (length (without place (take due queue)))) all ∙ first_of place queue due,
      omega (arith, size, ap length all, first_within place queue due),
    )
