-- Two lines are replaced.
use Rattle.std.proofs.Common.{arith, ◌≡◌, ◌≢◌, ℕ, zero, suc, List, [], ◌∷◌, Option, Some, IfSome, OnErr, OnOk, Result, Ok, Err, is_some, slice_get, slice_index_or, slice_set, true, refl, sym, ap, subst, ◌∙◌, inl, inr}
use Rattle.std.proofs.lemmas.Bool.{cases_eq}
use Rattle.resp_board.specs.declared.queue.Queue.{Queue}
use Rattle.resp_board.specs.Queues.{HasQueued, KeepsQueued, Line, WhereQueued, nothing_queued, waiting_commands, with_commands}
use Rattle.resp_board.specs.Rows.{KeepsLines, ReleasesLine}

pub get-here : (xs : List Queue) (i : ℕ) (x y : Queue) → slice_get xs i ≡ Some y → slice_get (slice_set xs i x) i ≡ Some x
get-here [] i x y h = absurd (grind arith)
get-here (q ∷ xs) zero x y h = refl
get-here (q ∷ xs) (suc i) x y h = get-here xs i x y h

pub get-away : (xs : List Queue) (i j : ℕ) (x : Queue) → j ≢ i → slice_get (slice_set xs i x) j ≡ slice_get xs j
get-away [] i j x apart = refl
get-away (q ∷ xs) zero zero x apart = absurd (apart refl)
get-away (q ∷ xs) zero (suc j) x apart = refl
get-away (q ∷ xs) (suc i) zero x apart = refl
get-away (q ∷ xs) (suc i) (suc j) x apart = get-away xs i j x (λ e. apart (ap suc e))

pub read-at : (xs : List Queue) (i : ℕ) (x : Queue) → is_some (slice_get xs i) ≡ true → x ≡ slice_index_or xs i x → slice_get xs i ≡ Some x
read-at [] i x there e = absurd (grind arith)
read-at (q ∷ xs) zero x there e = ap Some (sym e)
read-at (q ∷ xs) (suc i) x there e = read-at xs i x there e

pub read-behind : (xs : List Queue) (from to : ℕ) (q x : Queue) → from ≢ to → is_some (slice_get xs to) ≡ true → x ≡ slice_index_or (slice_set xs from q) to x →
    slice_get xs to ≡ Some x
read-behind xs from to q x apart there e =
    let away = get-away xs from to q (λ s. apart (sym s)) in
    sym away ∙ read-at (slice_set xs from q) to x (ap is_some away ∙ there) e

-- one line is taken out, another is changed, and the first comes back
abbrev pub replaced : List Queue → ℕ → ℕ → Queue → Queue → Queue → List Queue
replaced lines from to q f t = slice_set (slice_set (slice_set lines from q) to t) from f

at-from : (lines : List Queue) (from to : ℕ) (q f f' t' : Queue) → from ≢ to → slice_get lines from ≡ Some f →
    slice_get (replaced lines from to q f' t') from ≡ Some f'
at-from lines from to q f f' t' apart here =
    get-here (slice_set (slice_set lines from q) to t') from f' q
    (get-away (slice_set lines from q) to from t' apart ∙ get-here lines from q f here)

at-to : (lines : List Queue) (from to : ℕ) (q t f' t' : Queue) → from ≢ to → slice_get lines to ≡ Some t →
    slice_get (replaced lines from to q f' t') to ≡ Some t'
at-to lines from to q t f' t' apart there =
    get-away (slice_set (slice_set lines from q) to t') from to f' (λ s. apart (sym s)) ∙
    get-here (slice_set lines from q) to t' t (get-away lines from to q (λ s. apart (sym s)) ∙ there)

at-other : (lines : List Queue) (from to other : ℕ) (q f' t' : Queue) → other ≢ from → other ≢ to →
    slice_get (replaced lines from to q f' t') other ≡ slice_get lines other
at-other lines from to other q f' t' off away =
    get-away (slice_set (slice_set lines from q) to t') from other f' off ∙
    get-away (slice_set lines from q) to other t' away ∙ get-away lines from other q off

still-there : (lines : List Queue) (from to : ℕ) (q f t f' t' : Queue) → from ≢ to → slice_get lines from ≡ Some f → slice_get lines to ≡ Some t →
    (line : ℕ) → is_some (slice_get (replaced lines from to q f' t') line) ≡ is_some (slice_get lines line)
still-there lines from to q f t f' t' apart here there line = elim (cases_eq line from) [
  | inl same ↦
      subst (λ l. is_some (slice_get (replaced lines from to q f' t') l) ≡ is_some (slice_get lines l)) (sym same)
      (ap is_some (at-from lines from to q f f' t' apart here) ∙ sym (ap is_some here))
  | inr off ↦ elim (cases_eq line to) [
    | inl same ↦
        subst (λ l. is_some (slice_get (replaced lines from to q f' t') l) ≡ is_some (slice_get lines l)) (sym same)
        (ap is_some (at-to lines from to q t f' t' apart there) ∙ sym (ap is_some there))
    | inr away ↦ ap is_some (at-other lines from to line q f' t' off away)
  ]
]

inside : (o : Option Queue) (x : Queue) (l : Line) → o ≡ Some x → IfSome o (λ q. HasQueued q l) → HasQueued x l
inside o x l is h = subst (λ p. IfSome p (λ q. HasQueued q l)) is h

outside : (o : Option Queue) (x : Queue) (l : Line) → o ≡ Some x → HasQueued x l → IfSome o (λ q. HasQueued q l)
outside o x l is h = subst (λ p. IfSome p (λ q. HasQueued q l)) (sym is) h

pub rows-released : {A B : Type 0} (r : Result A B) (lines : List Queue) (from to : ℕ) (q f t f' t' : Queue) → from ≢ to → slice_get lines from ≡ Some f →
    slice_get lines to ≡ Some t →
    OnOk r (WhereQueued f (λ x. WhereQueued t (λ l. HasQueued t' (with_commands (waiting_commands x) l)))) → OnOk r (HasQueued f' nothing_queued) →
    OnOk r (ReleasesLine lines (replaced lines from to q f' t') from to)
rows-released (Ok _) lines from to q f t f' t' apart here there moved emptied = record {
  others = λ other off away. at-other lines from to other q f' t' off away;
  emptied = outside (slice_get (replaced lines from to q f' t') from) f' nothing_queued (at-from lines from to q f f' t' apart here) emptied;
  moved = λ x l h k.
      outside (slice_get (replaced lines from to q f' t') to) t' (with_commands (waiting_commands x) l) (at-to lines from to q t f' t' apart there)
      (moved x (inside (slice_get lines from) f x here h) l (inside (slice_get lines to) t l there k));
  stays = still-there lines from to q f t f' t' apart here there;
}
rows-released (Err _) lines from to q f t f' t' apart here there moved emptied = tt

pub rows-kept : {A B : Type 0} (r : Result A B) (lines : List Queue) (from to : ℕ) (q f t f' t' : Queue) → from ≢ to → slice_get lines from ≡ Some f →
    slice_get lines to ≡ Some t → OnErr r (KeepsQueued f f') → OnErr r (KeepsQueued t t') →
    OnErr r (KeepsLines lines (replaced lines from to q f' t'))
rows-kept (Ok _) lines from to q f t f' t' apart here there kept kept-to = tt
rows-kept (Err _) lines from to q f t f' t' apart here there kept kept-to = record {
  each = λ line l h. elim (cases_eq line from) [
    | inl same ↦
        subst (λ k. IfSome (slice_get (replaced lines from to q f' t') k) (λ x. HasQueued x l)) (sym same)
        (outside (slice_get (replaced lines from to q f' t') from) f' l (at-from lines from to q f f' t' apart here)
        (kept l (inside (slice_get lines from) f l here (subst (λ k. IfSome (slice_get lines k) (λ x. HasQueued x l)) same h))))
    | inr off ↦ elim (cases_eq line to) [
      | inl same ↦
          subst (λ k. IfSome (slice_get (replaced lines from to q f' t') k) (λ x. HasQueued x l)) (sym same)
          (outside (slice_get (replaced lines from to q f' t') to) t' l (at-to lines from to q t f' t' apart there)
          (kept-to l (inside (slice_get lines to) t l there (subst (λ k. IfSome (slice_get lines k) (λ x. HasQueued x l)) same h))))
      | inr away ↦ subst (λ o. IfSome o (λ x. HasQueued x l)) (sym (at-other lines from to line q f' t' off away)) h
    ]
  ];
  stays = still-there lines from to q f t f' t' apart here there;
}
