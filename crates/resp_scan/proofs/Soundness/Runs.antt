-- Runs of content bytes.
use Rattle.std.specs.Prelude.{◌≡◌, ◌≢◌, ℕ, zero, suc, ◌+◌, ◌-◌, ◌<◌, ◌≤◌, Bool, true, false, cond, eqb, nat_le, Option, None, Some, List, [], ◌∷◌, length, take, min, refl}
use Rattle.std.proofs.Common.{sym, ◌∙◌, ap, arith, get_or, add-zero, add-one, zero-add}
use Rattle.std.proofs.lemmas.Grind.{common_steps}
use Rattle.std.proofs.lemmas.Bool.Decides.{nat_tests}
use Rattle.resp_value.specs.declared.cause.Cause.TheVariants as cause
use Rattle.resp_value.specs.DoubleStages.{and_then, stage_after, stage_after_all, stage_needs}
use Rattle.resp_value.specs.declared.double_stage.DoubleStage.{DoubleStage}
use Rattle.resp_scan.specs.declared.doubles.DoubleRun.{DoubleRun}
use Rattle.resp_scan.specs.Machine.Tokens.{Place, Token, Move, Go, Byte, Give, Refuse, at, Dead, InLine, InDouble, AtLineLf, InBig, InContent, AtContentCr, AtContentLf, InChunk, AtChunkCr, AtChunkLf}
use Rattle.resp_scan.specs.Machine.Room.{total_room}
use Rattle.resp_scan.specs.Machine.Heads.{content_at, chunk_at}
use Rattle.resp_scan.specs.Machine.Moves.{next, content_byte, double_next, is_digit, only_byte}
use Rattle.resp_value.proofs.Choices.{if_within}
use Rattle.resp_scan.specs.Machine.Scan.{Bad, content, and_more, answer, scan, Part}
use Rattle.resp_scan.specs.Machine.Runs.{run_to, plain_run, digit_run, run_on, double_run}

-- a run of plain bytes is no longer than the piece
pub plain_run_le : (p : List ℕ) → plain_run p ≤ length p
plain_run_le [] = omega arith
plain_run_le (b ∷ bs) = grind (arith, nat_tests, plain_run_le bs)

-- a run that ends within the first m bytes is that of these bytes
pub plain_run_take : (m : ℕ) (p : List ℕ) → plain_run p ≤ m → plain_run (take m p) ≡ plain_run p
plain_run_take zero [] few = refl
plain_run_take zero (b ∷ bs) few = grind (arith, nat_tests)
plain_run_take (suc m) [] few = refl
plain_run_take (suc m) (b ∷ bs) few = grind (arith, nat_tests, plain_run_take m bs)

-- the first CR or LF is the first LF before the first CR
pub plain_run-run_to : (p : List ℕ) → plain_run p ≡ run_to 10 (take (run_to 13 p) p)
plain_run-run_to [] = refl
plain_run-run_to (b ∷ bs) =
    elim (eqb b 13) as (λ v. eqb b 13 ≡ v → plain_run (b ∷ bs) ≡ run_to 10 (take (run_to 13 (b ∷ bs)) (b ∷ bs))) [
      | true ↦ λ e. simp e
      | false ↦ λ e. simp (e, add-one, plain_run-run_to bs)
    ] refl

-- the run to the first such byte
pub run_to_is : (c : ℕ) (p : List ℕ) (k : ℕ) → k ≤ length p → ((j : ℕ) → j < k → get_or p j 0 ≢ c) → (k < length p → get_or p k 0 ≡ c) → run_to c p ≡ k
run_to_is c [] k h f g = omega arith
run_to_is c (b ∷ bs) zero h f g = let e : b ≡ c = g (omega arith) in grind (arith, nat_tests)
run_to_is c (b ∷ bs) (suc k) h f g =
    let e : b ≢ c = f 0 (omega arith) in
    let r : run_to c bs ≡ k = run_to_is c bs k (omega arith) (λ j l. f (suc j) (omega arith)) (λ l. g (omega arith)) in
    grind (arith, nat_tests)

sub_zero : (n : ℕ) → n - 0 ≡ n
sub_zero n = omega arith

-- a byte is CR, or LF, or neither
line_cases : (b : ℕ) (P : Bool → Bool → Type 0) → ((y : Bool) → P true y) → P false true → P false false → P (eqb b 13) (eqb b 10)
line_cases b P cr lf other =
    elim (eqb b 13) as (λ v. P v (eqb b 10)) [
      | true ↦ cr (eqb b 10)
      | false ↦ elim (eqb b 10) as (λ v. P false v) [ true ↦ lf | false ↦ other ]
    ]

abbrev byte_move : Place → ℕ → (ℕ → Token) → Bool → Bool → Move
byte_move s room t x y = cond x (Refuse cause.Length) (cond y (Byte (at s (t (room - 1)))) (Refuse cause.Total))

-- where length or total leaves nothing, a byte is no content
byte_stops : (s : Place) (i room : ℕ) (t : Token) (f : ℕ → Token) (more : Place → ℕ × Place) → min room (total_room s - (i + 2)) ≡ 0 →
    and_more (content_byte (at s t) (i + 1) room f) (i, at s t) more ≡ (i, at s t)
byte_stops s i room t f more e =
    elim (eqb room 0) as (λ v. eqb room 0 ≡ v → and_more (byte_move (at s t) room f v (nat_le (i + 1 + 2) (total_room s))) (i, at s t) more ≡ (i, at s t)) [
      | true ↦ λ z. refl
      | false ↦ λ z.
          let n : nat_le (i + 1 + 2) (total_room s) ≡ false = grind (arith, nat_tests) in
          simp n
    ] refl

byte_goes : (s : Place) (i room m : ℕ) (t : Token) (f : ℕ → Token) → min room (total_room s - (i + 2)) ≡ suc m →
    content_byte (at s t) (i + 1) room f ≡ Byte (at s (f (room - 1)))
byte_goes s i room m t f e =
    let z : eqb room 0 ≡ false = grind (arith, nat_tests) in
    let n : nat_le (i + 1 + 2) (total_room s) ≡ true = grind (arith, nat_tests) in
    simp (z, n)

abbrev line_move : Place → ℕ → ℕ → Bool → Bool → Move
line_move s i room x y = cond x (Go (at s AtLineLf)) (cond y (Refuse cause.Syntax) (content_byte (at s (InLine room)) (i + 1) room InLine))

-- content of a line, as far as room and the piece allow
pub content_line : (s : Place) (i room m : ℕ) (p : List ℕ) → min room (total_room s - (i + 2)) ≡ m →
    content i (at s (InLine room)) p ≡ (i + plain_run (take m p), at s (InLine (room - plain_run (take m p))))
content_line s i room zero [] e = simp (add-zero, sub_zero)
content_line s i room (suc m) [] e = simp (add-zero, sub_zero)
content_line s i room zero (b ∷ bs) e =
    line_cases b (λ x y. and_more (line_move s i room x y) (i, at s (InLine room)) (λ t. content (i + 1) t bs) ≡ (i + 0, at s (InLine (room - 0))))
    (λ y. simp (add-zero, sub_zero)) (simp (add-zero, sub_zero)) (byte_stops s i room (InLine room) InLine (λ t. content (i + 1) t bs) e ∙
    simp (add-zero, sub_zero))
content_line s i room (suc m) (b ∷ bs) e =
    let g = byte_goes s i room m (InLine room) InLine e in
    let e' : min (room - 1) (total_room s - ((i + 1) + 2)) ≡ m = omega (arith, e) in
    let k = plain_run (take m bs) in
    let j : (i + 1) + k ≡ i + (k + 1) = omega arith in
    let q : (room - 1) - k ≡ room - (k + 1) = omega arith in
    line_cases b (λ x y. and_more (line_move s i room x y) (i, at s (InLine room)) (λ t. content (i + 1) t bs) ≡
    (i + cond x 0 (cond y 0 (k + 1)), at s (InLine (room - cond x 0 (cond y 0 (k + 1))))))
    (λ y. simp (add-zero, sub_zero)) (simp (add-zero, sub_zero))
    (ap (λ v. and_more v (i, at s (InLine room)) (λ t. content (i + 1) t bs)) g ∙ content_line s (i + 1) (room - 1) m bs e' ∙
    ap (λ n. (n, at s (InLine ((room - 1) - k)))) j ∙ ap (λ n. (i + (k + 1), at s (InLine n))) q)

abbrev big_move : Place → ℕ → ℕ → ℕ → Bool → Move
big_move s i room b x = cond x (content_byte (at s (InBig room)) (i + 1) room InBig) (only_byte 13 b (Go (at s AtLineLf)))

wants_stops : (x b : ℕ) (t : Place) (stop : ℕ × Place) (more : Place → ℕ × Place) → and_more (only_byte x b (Go t)) stop more ≡ stop
wants_stops x b t stop more = elim (eqb b x) as (λ v. and_more (cond v (Go t) (Refuse cause.Syntax)) stop more ≡ stop) [ true ↦ refl | false ↦ refl ]

-- digits of a big number, as far as room and the piece allow
pub content_big : (s : Place) (i room m : ℕ) (p : List ℕ) → min room (total_room s - (i + 2)) ≡ m →
    content i (at s (InBig room)) p ≡ (i + digit_run (take m p), at s (InBig (room - digit_run (take m p))))
content_big s i room zero [] e = simp (add-zero, sub_zero)
content_big s i room (suc m) [] e = simp (add-zero, sub_zero)
content_big s i room zero (b ∷ bs) e =
    elim (is_digit b) as (λ x. and_more (big_move s i room b x) (i, at s (InBig room)) (λ t. content (i + 1) t bs) ≡ (i + 0, at s (InBig (room - 0)))) [
      | true ↦ byte_stops s i room (InBig room) InBig (λ t. content (i + 1) t bs) e ∙ simp (add-zero, sub_zero)
      | false ↦ wants_stops 13 b (at s AtLineLf) (i, at s (InBig room)) (λ t. content (i + 1) t bs) ∙ simp (add-zero, sub_zero)
    ]
content_big s i room (suc m) (b ∷ bs) e =
    let g = byte_goes s i room m (InBig room) InBig e in
    let e' : min (room - 1) (total_room s - ((i + 1) + 2)) ≡ m = omega (arith, e) in
    let k = digit_run (take m bs) in
    let j : (i + 1) + k ≡ i + (k + 1) = omega arith in
    let q : (room - 1) - k ≡ room - (k + 1) = omega arith in
    elim (is_digit b) as (λ x. and_more (big_move s i room b x) (i, at s (InBig room)) (λ t. content (i + 1) t bs) ≡
    (i + cond x (k + 1) 0, at s (InBig (room - cond x (k + 1) 0)))) [
      | true ↦ ap (λ v. and_more v (i, at s (InBig room)) (λ t. content (i + 1) t bs)) g ∙ content_big s (i + 1) (room - 1) m bs e' ∙
          ap (λ n. (n, at s (InBig ((room - 1) - k)))) j ∙ ap (λ n. (i + (k + 1), at s (InBig n))) q
      | false ↦ wants_stops 13 b (at s AtLineLf) (i, at s (InBig room)) (λ t. content (i + 1) t bs) ∙ simp (add-zero, sub_zero)
    ]

-- a part, where the run isn't empty
scan_move : (v : Move) (i n : ℕ) (s t : Place) (bs : List ℕ) → i < n → and_more v (i, s) (λ u. content (i + 1) u bs) ≡ (n, t) →
    answer v i s (λ u. scan (i + 1) u bs) (λ u. content (i + 1) u bs) ≡ Part i n t
scan_move (Go u) i n s t bs h e = absurd (let z : i ≡ n = ap (λ o. o.0) e in omega arith)
scan_move (Byte u) i n s t bs h e = ap (λ o. Part i o.0 o.1) e
scan_move (Give x u) i n s t bs h e = absurd (let z : i ≡ n = ap (λ o. o.0) e in omega arith)
scan_move (Refuse c) i n s t bs h e = absurd (let z : i ≡ n = ap (λ o. o.0) e in omega arith)

-- a scan of content gives a part
pub scan_part : (i n : ℕ) (s t : Place) (p : List ℕ) → i < n → content i s p ≡ (n, t) → scan i s p ≡ Part i n t
scan_part i n s t [] h e = absurd (let z : i ≡ n = ap (λ o. o.0) e in omega arith)
scan_part i n s t (b ∷ bs) h e = scan_move (next s (i + 1) b) i n s t bs h e

take_min : (r : ℕ) (p : List ℕ) → take (min r (length p)) p ≡ take r p
take_min r p = grind (arith, common_steps)

-- a scan within a line gives a part
pub line_part : (s : Place) (room k : ℕ) (p : List ℕ) → k ≡ plain_run (take (min (min room (total_room s - 2)) (length p)) p) → 0 < k →
    scan 0 (at s (InLine room)) p ≡ Part 0 k (at s (InLine (room - k)))
line_part s room k p e h =
    let m = min room (total_room s - 2) in
    let q : k ≡ plain_run (take m p) = e ∙ ap plain_run (take_min m p) in
    scan_part 0 k (at s (InLine room)) (at s (InLine (room - k))) p h (content_line s 0 room m p refl ∙
    ap (λ j. (j, at s (InLine (room - plain_run (take m p))))) (zero-add (plain_run (take m p))) ∙ ap (λ j. (j, at s (InLine (room - j)))) (sym q))

-- a scan within a big number's digits gives a part
pub big_part : (s : Place) (room k : ℕ) (p : List ℕ) → k ≡ digit_run (take (min (min room (total_room s - 2)) (length p)) p) → 0 < k →
    scan 0 (at s (InBig room)) p ≡ Part 0 k (at s (InBig (room - k)))
big_part s room k p e h =
    let m = min room (total_room s - 2) in
    let q : k ≡ digit_run (take m p) = e ∙ ap digit_run (take_min m p) in
    scan_part 0 k (at s (InBig room)) (at s (InBig (room - k))) p h (content_big s 0 room m p refl ∙
    ap (λ j. (j, at s (InBig (room - digit_run (take m p))))) (zero-add (digit_run (take m p))) ∙ ap (λ j. (j, at s (InBig (room - j)))) (sym q))

-- Doubles.

-- where a run of a double goes on, length leaves a byte for the next
pub at_run : (P : DoubleRun → Type 0) (i total room : ℕ) (o : Option DoubleStage) (stop : DoubleRun) (more : DoubleStage → DoubleRun) → P stop →
    ((next : DoubleStage) → o ≡ Some next → P (more next)) → P (run_on i total room o stop more)
at_run P i total room None stop more stops goes = stops
at_run P i total room (Some next) stop more stops goes = case (nat_le room (stage_needs next)) (nat_le (i + 1 + (stage_needs next + 2)) total)
  where
    case : (x y : Bool) → P (cond x stop (cond y (more next) stop))
    case true y = stops
    case false true = goes next refl
    case false false = stops

-- a run ends no sooner than it begins
pub double_run_from : (i total room : ℕ) (stage : DoubleStage) (p : List ℕ) → i ≤ (double_run i total room stage p).count
double_run_from i total room stage [] = omega arith
double_run_from i total room stage (b ∷ bs) = case (λ next. double_run_from (i + 1) total (room - 1) next bs)
  where
    case : ((next : DoubleStage) → i + 1 ≤ (double_run (i + 1) total (room - 1) next bs).count) → i ≤ (double_run i total room stage (b ∷ bs)).count
    case h = at_run (λ r. i ≤ r.count) i total room (stage_after stage b) (record { count = i; stage = stage; room = room })
        (λ next. double_run (i + 1) total (room - 1) next bs) (omega arith) (λ next e. omega (arith, h next))

-- the bytes of a run lead to its stage
pub double_run_stage : (i total room : ℕ) (stage : DoubleStage) (p : List ℕ) →
    stage_after_all stage (take ((double_run i total room stage p).count - i) p) ≡ Some (double_run i total room stage p).stage
double_run_stage i total room stage [] = ap (λ n. stage_after_all stage (take n [])) (sub_self i)
  where
    sub_self : (n : ℕ) → n - n ≡ 0
    sub_self n = omega arith
double_run_stage i total room stage (b ∷ bs) = case (λ next. double_run_stage (i + 1) total (room - 1) next bs)
  where
    none : i - i ≡ 0
    none = omega arith

    case : ((next : DoubleStage) → stage_after_all next (take ((double_run (i + 1) total (room - 1) next bs).count - (i + 1)) bs) ≡
        Some (double_run (i + 1) total (room - 1) next bs).stage) → stage_after_all stage (take ((double_run i total room stage (b ∷ bs)).count - i) (b ∷ bs)) ≡
        Some (double_run i total room stage (b ∷ bs)).stage
    case h = at_run (λ r. stage_after_all stage (take (r.count - i) (b ∷ bs)) ≡ Some r.stage) i total room (stage_after stage b)
        (record { count = i; stage = stage; room = room }) (λ next. double_run (i + 1) total (room - 1) next bs)
        (ap (λ n. stage_after_all stage (take n (b ∷ bs))) none) (λ next e.
        let from = double_run_from (i + 1) total (room - 1) next bs in
        let one : (double_run (i + 1) total (room - 1) next bs).count - i ≡ suc ((double_run (i + 1) total (room - 1) next bs).count - (i + 1)) =
        omega (arith, from) in
        ap (λ n. stage_after_all stage (take n (b ∷ bs))) one ∙
        ap (λ o. and_then o (λ to. stage_after_all to (take ((double_run (i + 1) total (room - 1) next bs).count - (i + 1)) bs))) e ∙ h next)

-- the place after a run
abbrev after_run : Place → DoubleRun → ℕ × Place
after_run s r = (r.count, at s (InDouble r.stage r.room))

-- a byte of a double is content where the run goes on
double_byte_runs : (s : Place) (i room b : ℕ) (stage : DoubleStage) (bs : List ℕ) (o : Option DoubleStage) → ((next : DoubleStage) →
    content (i + 1) (at s (InDouble next (room - 1))) bs ≡ after_run s (double_run (i + 1) (total_room s) (room - 1) next bs)) →
    and_more (double_next (at s (InDouble stage room)) (i + 1) room stage b o) (i, at s (InDouble stage room)) (λ t. content (i + 1) t bs) ≡
    after_run s (run_on i (total_room s) room o (record { count = i; stage = stage; room = room })
    (λ next. double_run (i + 1) (total_room s) (room - 1) next bs))
double_byte_runs s i room b stage bs None h = case (eqb (stage_needs stage) 0)
  where
    case : (x : Bool) → and_more (cond x (only_byte 13 b (Go (at s AtLineLf))) (Refuse cause.Syntax)) (i, at s (InDouble stage room))
        (λ t. content (i + 1) t bs) ≡ (i, at s (InDouble stage room))
    case true = wants_stops 13 b (at s AtLineLf) (i, at s (InDouble stage room)) (λ t. content (i + 1) t bs)
    case false = refl
double_byte_runs s i room b stage bs (Some next) h = case (nat_le room (stage_needs next)) (nat_le (i + 1 + (stage_needs next + 2)) (total_room s))
  where
    case : (x y : Bool) → and_more (cond x (Refuse cause.Length) (cond y (Byte (at s (InDouble next (room - 1)))) (Refuse cause.Total)))
        (i, at s (InDouble stage room)) (λ t. content (i + 1) t bs) ≡
        after_run s (cond x (record { count = i; stage = stage; room = room })
        (cond y (double_run (i + 1) (total_room s) (room - 1) next bs) (record { count = i; stage = stage; room = room })))
    case true y = refl
    case false true = h next
    case false false = refl

-- content of a double, as far as room and the piece allow
pub content_double : (s : Place) (i room : ℕ) (stage : DoubleStage) (p : List ℕ) → content i (at s (InDouble stage room)) p ≡
    after_run s (double_run i (total_room s) room stage p)
content_double s i room stage [] = refl
content_double s i room stage (b ∷ bs) = double_byte_runs s i room b stage bs (stage_after stage b) (λ next. content_double s (i + 1) (room - 1) next bs)

-- a scan within a double gives a part
pub double_part : (s : Place) (room : ℕ) (stage : DoubleStage) (p : List ℕ) (r : DoubleRun) → r ≡ double_run 0 (total_room s) room stage p → 0 < r.count →
    scan 0 (at s (InDouble stage room)) p ≡ Part 0 r.count (at s (InDouble r.stage r.room))
double_part s room stage p r is some = scan_part 0 r.count (at s (InDouble stage room)) (at s (InDouble r.stage r.room)) p some
    (content_double s 0 room stage p ∙ ap (after_run s) (sym is))

-- the run of a double that has no byte, and its run after a byte
abbrev no_run : ℕ → DoubleStage → DoubleRun
no_run room stage = record { count = 0; stage = stage; room = room }

abbrev run_after : Place → ℕ → List ℕ → DoubleStage → DoubleRun
run_after s room bs to = double_run (0 + 1) (total_room s) (room - 1) to bs

over_total_byte : (s : Place) (room : ℕ) (stage to : DoubleStage) (bs : List ℕ) (y : Bool) →
    (cond y (run_after s room bs to) (no_run room stage)).count ≤ 0 → Bad 0 cause.Total (at s (Dead cause.Total)) ≡
    answer (cond y (Byte (at s (InDouble to (room - 1)))) (Refuse cause.Total)) 0 (at s (InDouble stage room)) (λ t. scan (0 + 1) t bs)
    (λ t. content (0 + 1) t bs)
over_total_byte s room stage to bs true none = absurd (omega (arith, none, double_run_from (0 + 1) (total_room s) (room - 1) to bs))
over_total_byte s room stage to bs false none = refl

-- where no run begins with a byte for which length leaves room, total refuses the byte
stops_at : (s : Place) (room b : ℕ) (stage next : DoubleStage) (bs : List ℕ) (o : Option DoubleStage) → o ≡ Some next → stage_needs next < room →
    (run_on 0 (total_room s) room o (no_run room stage) (run_after s room bs)).count ≤ 0 → Bad 0 cause.Total (at s (Dead cause.Total)) ≡
    answer (double_next (at s (InDouble stage room)) (0 + 1) room stage b o) 0 (at s (InDouble stage room)) (λ t. scan (0 + 1) t bs) (λ t. content (0 + 1) t bs)
stops_at s room b stage next bs None e roomy none = absurd (cc)
stops_at s room b stage next bs (Some to) e roomy none =
    let same : to ≡ next = cc in
    if_within room (stage_needs to) (λ x. (cond x (no_run room stage)
    (cond (nat_le (0 + 1 + (stage_needs to + 2)) (total_room s)) (run_after s room bs to) (no_run room stage))).count ≤ 0 →
    Bad 0 cause.Total (at s (Dead cause.Total)) ≡ answer (cond x (Refuse cause.Length) (cond (nat_le (0 + 1 + (stage_needs to + 2)) (total_room s))
    (Byte (at s (InDouble to (room - 1)))) (Refuse cause.Total))) 0 (at s (InDouble stage room)) (λ t. scan (0 + 1) t bs) (λ t. content (0 + 1) t bs))
    (λ within. absurd (omega (arith, within, roomy, ap stage_needs same)))
    (λ over. over_total_byte s room stage to bs (nat_le (0 + 1 + (stage_needs to + 2)) (total_room s))) none

-- a byte of a double for which length leaves room is over total where no run begins with it
pub double_stops : (s : Place) (room : ℕ) (stage next : DoubleStage) (p : List ℕ) → 0 < length p → stage_after stage (get_or p 0 0) ≡ Some next →
    stage_needs next < room → (double_run 0 (total_room s) room stage p).count ≤ 0 →
    Bad 0 cause.Total (at s (Dead cause.Total)) ≡ scan 0 (at s (InDouble stage room)) p
double_stops s room stage next [] some leads roomy none = absurd (omega (arith, some))
double_stops s room stage next (b ∷ bs) some leads roomy none = stops_at s room b stage next bs (stage_after stage b) leads roomy none

-- Counted content.

content_at_some : (s : Place) (n : ℕ) → 0 < n → content_at n s ≡ at s (InContent n)
content_at_some s n h = let e : eqb n 0 ≡ false = grind (arith, nat_tests) in simp e

content_some : (s : Place) (i k m : ℕ) (p : List ℕ) → k ≤ length p → (0 < m → k ≡ length p) → content i (content_at (k + m) s) p ≡ (i + k, content_at m s)
content_some s i zero m [] h f = simp (zero-add, add-zero)
content_some s i zero zero (b ∷ bs) h f = wants_stops 13 b (at s AtContentLf) (i, at s AtContentCr) (λ t. content (i + 1) t bs) ∙ simp add-zero
content_some s i zero (suc m) (b ∷ bs) h f = absurd (let e : 0 ≡ suc (length bs) = f (omega arith) in omega arith)
content_some s i (suc k) m [] h f = absurd (omega arith)
content_some s i (suc k) m (b ∷ bs) h f =
    ap (λ t. content i t (b ∷ bs)) (content_at_some s (suc k + m) (omega arith)) ∙
    ap (λ n. content (i + 1) (content_at n s) bs) (let e : (suc k + m) - 1 ≡ k + m = omega arith in e) ∙
    content_some s (i + 1) k m bs (omega arith) (λ l. let e : suc k ≡ suc (length bs) = f l in omega arith) ∙
    ap (λ n. (n, content_at m s)) (let e : (i + 1) + k ≡ i + suc k = omega arith in e)

-- a scan within a string's content gives a part
pub content_part : (s : Place) (i n k : ℕ) (p : List ℕ) → 0 < n → 0 < length p → k ≡ min (length p) n →
    scan i (at s (InContent n)) p ≡ Part i (i + k) (content_at (n - k) s)
content_part s i n k p h l e =
    let j : k + (n - k) ≡ n = omega arith in
    let q : content_at (k + (n - k)) s ≡ at s (InContent n) = ap (λ v. content_at v s) j ∙ content_at_some s n h in
    scan_part i (i + k) (at s (InContent n)) (content_at (n - k) s) p (omega arith) (ap (λ t. content i t p) (sym q) ∙
    content_some s i k (n - k) p (omega arith) (λ z. omega arith))

chunk_at_some : (s : Place) (room n : ℕ) → 0 < n → chunk_at room n s ≡ at s (InChunk room n)
chunk_at_some s room n h = let e : eqb n 0 ≡ false = grind (arith, nat_tests) in simp e

chunk_some : (s : Place) (room i k m : ℕ) (p : List ℕ) → k ≤ length p → (0 < m → k ≡ length p) →
    content i (chunk_at room (k + m) s) p ≡ (i + k, chunk_at room m s)
chunk_some s room i zero m [] h f = simp (zero-add, add-zero)
chunk_some s room i zero zero (b ∷ bs) h f = wants_stops 13 b (at s (AtChunkLf room)) (i, at s (AtChunkCr room)) (λ t. content (i + 1) t bs) ∙ simp add-zero
chunk_some s room i zero (suc m) (b ∷ bs) h f = absurd (let e : 0 ≡ suc (length bs) = f (omega arith) in omega arith)
chunk_some s room i (suc k) m [] h f = absurd (omega arith)
chunk_some s room i (suc k) m (b ∷ bs) h f =
    ap (λ t. content i t (b ∷ bs)) (chunk_at_some s room (suc k + m) (omega arith)) ∙
    ap (λ n. content (i + 1) (chunk_at room n s) bs) (let e : (suc k + m) - 1 ≡ k + m = omega arith in e) ∙
    chunk_some s room (i + 1) k m bs (omega arith) (λ l. let e : suc k ≡ suc (length bs) = f l in omega arith) ∙
    ap (λ n. (n, chunk_at room m s)) (let e : (i + 1) + k ≡ i + suc k = omega arith in e)

-- a scan within a chunk's content gives a part
pub chunk_part : (s : Place) (room i n k : ℕ) (p : List ℕ) → 0 < n → 0 < length p → k ≡ min (length p) n →
    scan i (at s (InChunk room n)) p ≡ Part i (i + k) (chunk_at room (n - k) s)
chunk_part s room i n k p h l e =
    let j : k + (n - k) ≡ n = omega arith in
    let q : chunk_at room (k + (n - k)) s ≡ at s (InChunk room n) = ap (λ v. chunk_at room v s) j ∙ chunk_at_some s room n h in
    scan_part i (i + k) (at s (InChunk room n)) (chunk_at room (n - k) s) p (omega arith) (ap (λ t. content i t p) (sym q) ∙
    chunk_some s room i k (n - k) p (omega arith) (λ z. omega arith))
