-- The answers after those that were given, as they arrive.
use Rattle.std.proofs.Common.{◌≡◌, ℕ, zero, suc, ◌+◌, ◌-◌, ◌<◌, ◌≤◌, List, [], ◌∷◌, ◌++◌, length, map, drop, Option, None, Some, Result, Ok, Err, refl, sym, ap, ◌∙◌, append_assoc, length-append, arith, replicate, set, slice_get, subst}
use Rattle.std.specs.List.{concat}
use Rattle.std.specs.Result.{OnErr, OnOk}
use Rattle.std.specs.declared.alloc.AllocError.{AllocError}
use Rattle.std.proofs.lemmas.List.{drop-drop, length-drop, length-map, length-replicate, length-set, replicate-append-replicate, set-append_left, set-append_right, set_at}
use Rattle.std.proofs.lemmas.List.Folds.{concat-append}
use Rattle.resp_board.specs.declared.early.Early.{Early}
use Rattle.resp_board.specs.Answers.{BeginsMissing, answer_of, answers_of, front_answers}
use Rattle.resp_board.proofs.Ready.{Texts}

-- the answers after the first `done` of `asked`, of which these have arrived
abbrev pub after : List (Option Early) → ℕ → ℕ → Texts
after items done asked = answers_of items ++ replicate (asked - (done + length items)) None

-- an answer more is missing
abbrev nones : ℕ → Texts
nones n = replicate n None

more_missing : (n m : ℕ) → n ≡ m + 1 → nones n ≡ None ∷ nones m
more_missing n m e = let f : n ≡ suc m = omega (arith, e) in ap nones f

-- the first one is missing
pub first_missing : (items : List (Option Early)) (done asked : ℕ) → done < asked → done + length items ≤ asked → BeginsMissing (after items done asked) →
    after items done asked ≡ None ∷ after (drop 1 items) (done + 1) asked
first_missing [] done asked some within h = more_missing (asked - (done + 0)) (asked - (done + 1 + 0)) (omega (arith, some))
first_missing (None ∷ items) done asked some within h =
    let e : asked - (done + suc (length items)) ≡ asked - (done + 1 + length items) = omega (arith, within) in
    ap (λ n. None ∷ (answers_of items ++ replicate n None)) e
first_missing (Some early ∷ items) done asked some within h = absurd h

pub front_within : (xs : Texts) → length (front_answers xs) ≤ length xs
front_within [] = omega arith
front_within (None ∷ xs) = omega arith
front_within (Some text ∷ xs) = let h = front_within xs in omega (arith, h)

-- the answers up to the first missing one, and the others
front_splits : (xs : Texts) → xs ≡ map Some (front_answers xs) ++ drop (length (front_answers xs)) xs
front_splits [] = refl
front_splits (None ∷ xs) = refl
front_splits (Some text ∷ xs) = ap (λ ys. Some text ∷ ys) (front_splits xs)

begins_missing : (n : ℕ) → BeginsMissing (replicate n None)
begins_missing zero = tt
begins_missing (suc n) = tt

rest_missing : (xs : Texts) (n : ℕ) → BeginsMissing (drop (length (front_answers xs)) xs ++ replicate n None)
rest_missing [] n = begins_missing n
rest_missing (None ∷ xs) n = tt
rest_missing (Some text ∷ xs) n = rest_missing xs n

answers_drop : (items : List (Option Early)) (n : ℕ) → answers_of (drop n items) ≡ drop n (answers_of items)
answers_drop items zero = refl
answers_drop [] (suc n) = refl
answers_drop (x ∷ items) (suc n) = answers_drop items n

-- the number of answers that are there from the first one on
abbrev pub ready : List (Option Early) → ℕ
ready items = length (front_answers (answers_of items))

pub ready_within : (items : List (Option Early)) → ready items ≤ length items
ready_within items = omega (arith, front_within (answers_of items), length-map items answer_of)

after_ready : (items : List (Option Early)) (done asked : ℕ) → after (drop (ready items) items) (done + ready items) asked ≡
    drop (ready items) (answers_of items) ++ replicate (asked - (done + length items)) None
after_ready items done asked =
    let e : asked - (done + ready items + length (drop (ready items) items)) ≡ asked - (done + length items) =
    omega (arith, length-drop (ready items) items, ready_within items) in
    ap (λ xs. xs ++ replicate (asked - (done + ready items + length (drop (ready items) items))) None) (answers_drop items (ready items)) ∙
    ap (λ n. drop (ready items) (answers_of items) ++ replicate n None) e

-- those that are there, and the others
pub ready_splits : (items : List (Option Early)) (done asked : ℕ) →
    after items done asked ≡ map Some (front_answers (answers_of items)) ++ after (drop (ready items) items) (done + ready items) asked
ready_splits items done asked =
    ap (λ xs. xs ++ replicate (asked - (done + length items)) None) (front_splits (answers_of items)) ∙
    append_assoc (map Some (front_answers (answers_of items))) (drop (ready items) (answers_of items)) (replicate (asked - (done + length items)) None) ∙
    ap (λ xs. map Some (front_answers (answers_of items)) ++ xs) (sym (after_ready items done asked))

pub others_missing : (items : List (Option Early)) (done asked : ℕ) → BeginsMissing (after (drop (ready items) items) (done + ready items) asked)
others_missing items done asked = subst BeginsMissing (sym (after_ready items done asked)) (rest_missing (answers_of items) (asked - (done + length items)))

-- the answers after the first one, and it
tail_answers : (items : List (Option Early)) → drop 1 (answers_of items) ≡ answers_of (drop 1 items)
tail_answers [] = refl
tail_answers (x ∷ items) = refl

-- how many answers become ready with the first one
abbrev pub ready_behind : List (Option Early) → ℕ
ready_behind items = length (front_answers (drop 1 (answers_of items)))

same_ready : (items : List (Option Early)) → ready_behind items ≡ ready (drop 1 items)
same_ready items = ap (λ xs. length (front_answers xs)) (tail_answers items)

pub behind_within : (items : List (Option Early)) → ready_behind items + 1 ≤ length items + 1
behind_within items = omega (arith, same_ready items, ready_within (drop 1 items), length-drop 1 items)

pub some_behind : (items : List (Option Early)) → 0 < length items → ready_behind items + 1 ≤ length items
some_behind items some = omega (arith, some, same_ready items, ready_within (drop 1 items), length-drop 1 items)

-- what is left after the first one and those behind it
abbrev pub left : List (Option Early) → ℕ → ℕ → Texts
left items done asked = after (drop (ready_behind items + 1) items) (done + (ready_behind items + 1)) asked

left_is : (items : List (Option Early)) (done asked : ℕ) →
    after (drop (ready (drop 1 items)) (drop 1 items)) (done + 1 + ready (drop 1 items)) asked ≡ left items done asked
left_is items done asked =
    let k = ready (drop 1 items) in
    let n : 1 + k ≡ ready_behind items + 1 = omega (arith, same_ready items) in
    let d : done + 1 + k ≡ done + (ready_behind items + 1) = omega (arith, same_ready items) in
    ap (λ xs. after xs (done + 1 + k) asked) (drop-drop k 1 items ∙ ap (λ m. drop m items) n) ∙
    ap (λ m. after (drop (ready_behind items + 1) items) m asked) d

-- the first answer has arrived: these are told, and the others are left
pub record IsFirst (items : List (Option Early)) (done asked : ℕ) (told : List (List ℕ)) (text : List ℕ) (answers : Texts) : Type 0 where
  pub whole : set answers done (Some text) ≡ map Some (told ++ text ∷ front_answers (drop 1 (answers_of items))) ++ left items done asked
  pub count : done + (ready_behind items + 1) ≡ length (told ++ text ∷ front_answers (drop 1 (answers_of items)))
  pub missing : BeginsMissing (left items done asked)

told_and : (told more : List (List ℕ)) (text : List ℕ) (rest : Texts) →
    map Some told ++ Some text ∷ (map Some more ++ rest) ≡ map Some (told ++ text ∷ more) ++ rest
told_and [] more text rest = refl
told_and (t ∷ told) more text rest = ap (λ xs. Some t ∷ xs) (told_and told more text rest)

pub first_arrives : (items : List (Option Early)) (done asked : ℕ) (told : List (List ℕ)) (text : List ℕ) (answers : Texts) →
    done < asked → done + length items ≤ asked → answers ≡ map Some told ++ after items done asked → done ≡ length told →
    BeginsMissing (after items done asked) → IsFirst items done asked told text answers
first_arrives items done asked told text answers some within whole count h =
    let rest = drop 1 items in
    let more = front_answers (drop 1 (answers_of items)) in
    let split : after rest (done + 1) asked ≡ map Some more ++ left items done asked =
    ready_splits rest (done + 1) asked ∙
    ap (λ xs. map Some (front_answers xs) ++ after (drop (ready rest) rest) (done + 1 + ready rest) asked) (sym (tail_answers items)) ∙
    ap (λ xs. map Some more ++ xs) (left_is items done asked) in
    record {
      whole = ap (λ xs. set xs done (Some text)) (whole ∙ ap (λ xs. map Some told ++ xs) (first_missing items done asked some within h)) ∙
          set_at (map Some told) None (after rest (done + 1) asked) (Some text) done (length-map told Some ∙ sym count) ∙
          ap (λ xs. map Some told ++ Some text ∷ xs) split ∙ told_and told more text (left items done asked);
      count = let n : length (told ++ text ∷ more) ≡ length told + length (text ∷ more) = length-append told (text ∷ more) in
          let m : length (text ∷ more) ≡ length more + 1 = omega arith in
          omega (arith, n, m, count);
      missing = subst BeginsMissing (left_is items done asked) (others_missing rest (done + 1) asked);
    }

-- the bytes that are given
pub first_given : (given out between new text : List ℕ) (told more : List (List ℕ)) → given ++ out ≡ concat told → between ≡ out ++ text →
    new ≡ between ++ concat more → given ++ new ≡ concat (told ++ text ∷ more)
first_given given out between new text told more all first then =
    ap (λ o. given ++ o) (then ∙ ap (λ o. o ++ concat more) first ∙ append_assoc out text (concat more)) ∙
    sym (append_assoc given out (text ++ concat more)) ∙ ap (λ o. o ++ (text ++ concat more)) all ∙
    sym (concat-append told (text ∷ more))

-- an answer is put at a later place
abbrev pub Put : List (Option Early) → List (Option Early) → ℕ → List ℕ → Type 0
Put old new place text = answers_of new ≡ set (answers_of old ++ replicate (place + 1 - length old) None) place (Some text)

pub put_length : (old new : List (Option Early)) (place : ℕ) (text : List ℕ) → Put old new place text →
    length new ≡ length old + (place + 1 - length old)
put_length old new place text h =
    let xs = answers_of old ++ nones (place + 1 - length old) in
    omega (
      arith,
      length-map new answer_of,
      length-map old answer_of,
      ap length h,
      length-set xs place (Some text),
      length-append (answers_of old) (nones (place + 1 - length old)),
      length-replicate {A = Option (List ℕ)} (place + 1 - length old) None,
    )

-- all answers but those that were told
later_put : (old new : List (Option Early)) (done asked place : ℕ) (text : List ℕ) → done + length old ≤ asked → place < asked - done → Put old new place text →
    after new done asked ≡ set (after old done asked) place (Some text)
later_put old new done asked place text within small h =
    let more = place + 1 - length old in
    let n = asked - (done + length old) in
    let m = asked - (done + length new) in
    let size = put_length old new place text h in
    let sum : more + m ≡ n = omega (arith, size, within, small) in
    let here : place < length (answers_of old ++ nones more) = omega (
      arith,
      length-map old answer_of,
      length-append (answers_of old) (nones more),
      length-replicate {A = Option (List ℕ)} more None,
    ) in
    ap (λ xs. xs ++ nones m) h ∙ sym (set-append_left (answers_of old ++ nones more) (nones m) place (Some text) here) ∙
    ap (λ xs. set xs place (Some text)) (append_assoc (answers_of old) (nones more) (nones m) ∙
    ap (λ xs. answers_of old ++ xs) (replicate-append-replicate more m None ∙ ap nones sum))

still_missing : (xs : Texts) (place : ℕ) (text : List ℕ) → 0 < place → BeginsMissing xs → BeginsMissing (set xs place (Some text))
still_missing [] place text behind h = tt
still_missing (x ∷ xs) zero text behind h = absurd (omega (arith, behind))
still_missing (None ∷ xs) (suc place) text behind h = tt
still_missing (Some t ∷ xs) (suc place) text behind h = absurd h

pub record IsLater (new : List (Option Early)) (done asked place : ℕ) (told : List (List ℕ)) (text : List ℕ) (answers : Texts) : Type 0 where
  pub whole : set answers (done + place) (Some text) ≡ map Some told ++ after new done asked
  pub missing : BeginsMissing (after new done asked)

pub later_arrives : (old new : List (Option Early)) (done asked place : ℕ) (told : List (List ℕ)) (text : List ℕ) (answers : Texts) →
    done + length old ≤ asked → 0 < place → place < asked - done → Put old new place text →
    answers ≡ map Some told ++ after old done asked → done ≡ length told → BeginsMissing (after old done asked) →
    IsLater new done asked place told text answers
later_arrives old new done asked place told text answers within behind small h whole count missing =
    let same = later_put old new done asked place text within small h in
    let at : done + place - done ≡ place = omega arith in
    record {
      whole = ap (λ xs. set xs (done + place) (Some text)) whole ∙
          set-append_right (map Some told) (after old done asked) done (done + place) (Some text) (length-map told Some ∙ sym count) (omega arith) ∙
          ap (λ n. map Some told ++ set (after old done asked) n (Some text)) at ∙
          ap (λ xs. map Some told ++ xs) (sym same);
      missing = subst BeginsMissing (sym same) (still_missing (after old done asked) place text behind missing);
    }

pub after_length : (items : List (Option Early)) (done asked : ℕ) → done + length items ≤ asked → length (after items done asked) ≡ asked - done
after_length items done asked within = omega (
  arith,
  within,
  length-append (answers_of items) (nones (asked - (done + length items))),
  length-map items answer_of,
  length-replicate {A = Option (List ℕ)} (asked - (done + length items)) None,
)

-- one command more
pub one_asked : (items : List (Option Early)) (done asked : ℕ) (told : List (List ℕ)) (answers : Texts) → done + length items ≤ asked →
    answers ≡ map Some told ++ after items done asked → answers ++ None ∷ [] ≡ map Some told ++ after items done (asked + 1)
one_asked items done asked told answers within whole =
    let n = asked - (done + length items) in
    let e : n + 1 ≡ asked + 1 - (done + length items) = omega (arith, within) in
    ap (λ xs. xs ++ None ∷ []) whole ∙ append_assoc (map Some told) (after items done asked) (None ∷ []) ∙
    ap (λ xs. map Some told ++ xs) (append_assoc (answers_of items) (nones n) (None ∷ []) ∙
    ap (λ xs. answers_of items ++ xs) (replicate-append-replicate n 1 None ∙ ap nones e))

pub one_missing : (items : List (Option Early)) (done asked : ℕ) → done + length items ≤ asked → BeginsMissing (after items done asked) →
    BeginsMissing (after items done (asked + 1))
one_missing [] done asked within h = begins_missing (asked + 1 - (done + 0))
one_missing (None ∷ items) done asked within h = tt
one_missing (Some early ∷ items) done asked within h = absurd h

-- the answers that become ready are among those that were asked for
pub ready_fits : (items : List (Option Early)) (done asked : ℕ) → done + length items ≤ asked → 0 < length (after items done asked) →
    (done + (ready_behind items + 1) ≤ asked) × (ready_behind items ≤ length items)
ready_fits items done asked within some =
    let size = after_length items done asked within in
    let few : ready_behind items ≤ length items - 1 = omega (arith, same_ready items, ready_within (drop 1 items), length-drop 1 items) in
    (omega (arith, size, few, within, some), omega (arith, few))

-- the answers are put among those that were asked for
pub put_within : (r : Result (Unit {0}) AllocError) (old new : List (Option Early)) (done asked place : ℕ) (text : List ℕ) → done + length old ≤ asked →
    place < asked - done → OnOk r (Put old new place text) → OnErr r (new ≡ old) → done + length new ≤ asked
put_within (Ok _) old new done asked place text within small put same = omega (arith, put_length old new place text put, within, small)
put_within (Err _) old new done asked place text within small put same = omega (arith, ap length same, within)

-- the command after all others is awaited
slice_get_seam : (xs : Texts) → slice_get (xs ++ None ∷ []) (length xs) ≡ Some None
slice_get_seam [] = refl
slice_get_seam (x ∷ xs) = slice_get_seam xs

last_awaited : (xs : Texts) (n : ℕ) → length xs ≡ n → slice_get (xs ++ None ∷ []) n ≡ Some None
last_awaited xs n e = ap (slice_get (xs ++ None ∷ [])) (sym e) ∙ slice_get_seam xs

-- all that are asked for, and one more
pub after_one_more : (items : List (Option Early)) (done asked : ℕ) → done + length items ≤ asked → after items done asked ++ None ∷ [] ≡ after items done (asked + 1)
after_one_more items done asked within =
    let n = asked - (done + length items) in
    let e : n + 1 ≡ asked + 1 - (done + length items) = omega (arith, within) in
    append_assoc (answers_of items) (nones n) (None ∷ []) ∙ ap (λ xs. answers_of items ++ xs) (replicate-append-replicate n 1 None ∙ ap nones e)

pub own_awaited : (items : List (Option Early)) (done asked : ℕ) → done + length items ≤ asked → slice_get (after items done (asked + 1)) (asked - done) ≡ Some None
own_awaited items done asked within =
    ap (λ xs. slice_get xs (asked - done)) (sym (after_one_more items done asked within)) ∙
    last_awaited (after items done asked) (asked - done) (after_length items done asked within)
