-- The times of the commands that wait.
use Rattle.std.proofs.Common.{arith, inl, inr, ◌≡◌, ◌≤◌, ℕ, zero, suc, ◌+◌, ◌-◌, true, false, List, [], ◌∷◌, ◌++◌, length, drop, nat_lt, Option, refl, sym, ap, subst, ◌∙◌}
use Rattle.std.proofs.lemmas.List.{length-drop, length-map, length_push, map-append}
use Rattle.std.specs.Prelude.{if◌then◌else◌, map}
use Rattle.resp_tap.specs.LinesOf.{DropsFirst, MayAdd, due_in, kept_after, kept_in}
use Rattle.resp_tap.specs.Times.{KeepsTimes, steady_of}
use Rattle.resp_tap.specs.declared.line.Line.{Line}
use Rattle.resp_tap.specs.declared.line.Pending.{Pending}
use Rattle.resp_tap.specs.declared.moment.Moment.{Moment}
use Rattle.resp_tap.specs.declared.tap.Tap.{Tap}

-- what is kept where as many commands wait
same_after : {A : Type 0} (x : A) (n : ℕ) (kept : List A) → kept_after x n n kept ≡ kept
same_after x n kept =
    ap (λ b. if b then kept ++ x ∷ [] else drop (n - n) kept) (let e : nat_lt n n ≡ false = grind arith in e) ∙
    ap (λ k. drop k kept) (let e : n - n ≡ 0 = omega arith in e)

-- where one more waits
more_after : {A : Type 0} (x : A) (n : ℕ) (kept : List A) → kept_after x n (n + 1) kept ≡ kept ++ x ∷ []
more_after x n kept =
    ap (λ b. if b then kept ++ x ∷ [] else drop (n - (n + 1)) kept) (let e : nat_lt n (n + 1) ≡ true = grind arith in e)

-- where no more wait
fewer_after : {A : Type 0} (x : A) (n m : ℕ) (kept : List A) → m ≤ n → kept_after x n m kept ≡ drop (n - m) kept
fewer_after x n m kept less =
    ap (λ b. if b then kept ++ x ∷ [] else drop (n - m) kept) (let e : nat_lt n m ≡ false = grind (arith, less) in e)

map-drop : {A B : Type 0} (f : A → B) (n : ℕ) (xs : List A) → map f (drop n xs) ≡ drop n (map f xs)
map-drop f zero xs = refl
map-drop f (suc n) [] = refl
map-drop f (suc n) (x ∷ xs) = map-drop f n xs

-- what a line keeps of each command that waits, where a command may have been added
pub kept_added : {A : Type 0} (x : A) (old new : Line A) → MayAdd x old new →
    kept_in new.pending.items ≡ kept_after x (length (due_in old.pending.items)) (length (due_in new.pending.items)) (kept_in old.pending.items)
kept_added {A} x old new (inl same) =
    let items = old.pending.items in
    subst (λ (z : List (Pending A)). kept_in z ≡ kept_after x (length (due_in items)) (length (due_in z)) (kept_in items)) (sym same)
    (sym (same_after x (length (due_in items)) (kept_in items)))
kept_added {A} x old new (inr (due, is)) =
    let items = old.pending.items in
    let last : Pending A = record { due = due; kept = x } in
    let long : length (due_in (items ++ last ∷ [])) ≡ length (due_in items) + 1 =
    ap length (map-append (λ (p : Pending A). p.due) items (last ∷ [])) ∙ length_push (due_in items) due in
    subst (λ (z : List (Pending A)). kept_in z ≡ kept_after x (length (due_in items)) (length (due_in z)) (kept_in items)) (sym is)
    (map-append (λ (p : Pending A). p.kept) items (last ∷ []) ∙ sym (more_after x (length (due_in items)) (kept_in items)) ∙
    ap (λ n. kept_after x (length (due_in items)) n (kept_in items)) (sym long))

-- and where the first commands wait no more
pub kept_dropped : {A : Type 0} (x : A) (old new : Line A) → DropsFirst old new →
    kept_in new.pending.items ≡ kept_after x (length (due_in old.pending.items)) (length (due_in new.pending.items)) (kept_in old.pending.items)
kept_dropped {A} x old new gone =
    let items = old.pending.items in
    let left = new.pending.items in
    let n : length (due_in items) ≡ length items = length-map items (λ (p : Pending A). p.due) in
    let m : length (due_in left) ≡ length left = length-map left (λ (p : Pending A). p.due) in
    let shorter : length left ≡ length items - (length items - length left) = ap length gone ∙ length-drop (length items - length left) items in
    let less : length left ≤ length items = omega (arith, shorter) in
    ap kept_in gone ∙ map-drop (λ (p : Pending A). p.kept) (length items - length left) items ∙
    sym (fewer_after x (length items) (length left) (kept_in items) less) ∙
    ap (λ k. kept_after x k (length left) (kept_in items)) (sym n) ∙
    ap (λ k. kept_after x (length (due_in items)) k (kept_in items)) (sym m)

-- the commands that wait, with one more
pub due_added : {A : Type 0} (old new : List (Pending A)) (last : Pending A) → new ≡ old ++ last ∷ [] → due_in new ≡ due_in old ++ last.due ∷ []
due_added {A} old new last is = ap due_in is ∙ map-append (λ (p : Pending A). p.due) old (last ∷ [])

-- the times of a tap
pub times_added : (now : Option Moment) (old new : Tap) → MayAdd (steady_of now) old.line new.line → KeepsTimes now old new
times_added now old new adds = kept_added (steady_of now) old.line new.line adds

pub times_dropped : (now : Option Moment) (old new : Tap) → DropsFirst old.line new.line → KeepsTimes now old new
times_dropped now old new gone = kept_dropped (steady_of now) old.line new.line gone

pub times_stay : (now : Option Moment) (old new : Tap) → new.line ≡ old.line → KeepsTimes now old new
times_stay now old new same = times_added now old new (inl (ap (λ (l : Line (Option ℕ)). l.pending.items) same))
