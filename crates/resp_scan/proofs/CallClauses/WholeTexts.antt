-- A text that lies in the piece: its head, its content and its CR LF.
use Rattle.std.specs.Prelude.{take, drop, get_or, min, eqb, cond}
use Rattle.std.specs.Str.{byte}
use Rattle.std.proofs.Common.{◌≡◌, ℕ, suc, ◌+◌, ◌-◌, ◌<◌, ◌≤◌, Some, List, [], ◌∷◌, ◌++◌, length, reverse, refl, sym, ap, subst, ◌∙◌, arith, zero-add, add-one, drop-cons, append_assoc, append-nil}
use Prim.Native.Nat.{zero}
use Rattle.std.proofs.lemmas.Grind.{common_steps}
use Rattle.std.proofs.lemmas.List.{drop-take, length-drop, length-take-le, take-append-drop}
use Rattle.resp_value.specs.Bytes.{IsLine, IsText}
use Rattle.resp_value.specs.Doubles.{IsDouble}
use Rattle.resp_value.specs.DoubleStages.{may_end, stage_after_all, stage_needs}
use Rattle.resp_value.specs.declared.double_stage.DoubleStage.{DoubleStage}
use Rattle.resp_value.specs.declared.double_stage.DoubleStage.TheVariants as stage
use Rattle.resp_value.proofs.Doubles.{completes_double}
use Rattle.resp_fronts.specs.Events as e
use Rattle.resp_scan.specs.declared.event.TextKind.{TextKind}
use Rattle.resp_scan.specs.declared.event.TextKind.TheVariants as kind
use Rattle.resp_scan.specs.declared.machine.State.{State}
use Rattle.resp_scan.specs.declared.machine.EventTag.{EventTag}
use Rattle.resp_scan.specs.declared.machine.EventTag.TheVariants as tag
use Rattle.resp_scan.specs.declared.machine.Advance.{Advance}
use Rattle.resp_scan.specs.declared.machine.Machine.{Machine}
use Rattle.resp_scan.specs.declared.machine.State.TheVariants as state
use Rattle.resp_scan.specs.Kinds.{content_events, rules_of, text_kind_of}
use Rattle.resp_scan.specs.Reading.{AreDue, Events, HasRead}
use Rattle.resp_scan.specs.Listening.{IsTextOf, whole_text_events}
use Rattle.resp_scan.specs.Machine.Fields.{out_by, out_of, place_of, token_at}
use Rattle.resp_scan.specs.Machine.Tokens.{Place, Text, TextEnd, at, at_boundary, InDouble, InLine, InContent}
use Rattle.resp_scan.specs.Machine.Heads.{content_at}
use Rattle.resp_scan.specs.Machine.Room.{total_room}
use Rattle.resp_scan.specs.Machine.Runs.{plain_run, double_run}
use Rattle.resp_scan.specs.Machine.Scan.{Bad, Gave, Part, out_from}
use Rattle.resp_scan.specs.Machine.Sound.{IsSound, IsTokenSound}
use Rattle.resp_scan.specs.Machine.StepOutcomes.{after_bytes}
use Rattle.resp_scan.specs.Machine.Passing.{TellsText}
use Rattle.resp_scan.specs.Machine.Turns.{EndsAt, EndsDouble, IsLineTag, LeavesContent}
use Rattle.resp_scan.proofs.CallClauses.Turns.{from_dead, reads_more, shows}
use Rattle.resp_scan.proofs.Soundness.Counted.{counted_out}
use Rattle.resp_scan.proofs.Soundness.Kept.{IsOut, is_advanced}
use Rattle.resp_scan.proofs.Soundness.Pieces.{used_within}
use Rattle.resp_scan.proofs.Soundness.Runs.{content_part, double_part, double_run_stage, line_part, plain_run_le}
use Rattle.resp_value.proofs.Choices.{if_equal}

-- the piece after a run that CR LF follow
rest_after_run : (p : List ℕ) (run : ℕ) → EndsAt p run → drop run p ≡ byte "\r" ∷ byte "\n" ∷ drop (run + 2) p
rest_after_run p run ends =
    let first : run < length p = omega (arith, ends.within) in
    let second : run + 1 < length p = omega (arith, ends.within) in
    let a : drop run p ≡ get_or p run 0 ∷ drop (run + 1) p = drop_next p run first in
    let b : drop (run + 1) p ≡ get_or p (run + 1) 0 ∷ drop ((run + 1) + 1) p = drop_next p (run + 1) second in
    a ∙ ap (λ z. z ∷ drop (run + 1) p) ends.cr ∙ ap (λ z. byte "\r" ∷ z) (b ∙ ap (λ z. z ∷ drop ((run + 1) + 1) p) ends.lf) ∙
    ap (λ n. byte "\r" ∷ byte "\n" ∷ drop n p) (let z : (run + 1) + 1 ≡ run + 2 = omega arith in z)
  where
    drop_next : (p : List ℕ) (i : ℕ) → i < length p → drop i p ≡ get_or p i 0 ∷ drop (i + 1) p
    drop_next p i within = rw (add-one, drop-cons p i 0) refl

pub text_after : (n : ℕ) (p : List ℕ) → IsText p → IsText (drop n p)
text_after zero p text = text
text_after (suc n) [] text = tt
text_after (suc n) (b ∷ bs) text = text_after n bs text.1

-- a token at which CR LF end the text
abbrev pub EndsText : Place → Type 0
EndsText t = (more : List ℕ) → Gave 2 TextEnd (at_boundary t) ≡ out_from t (byte "\r" ∷ byte "\n" ∷ more)

-- content of this many bytes leads from one place to another
abbrev pub RunsTo : Place → Place → List ℕ → ℕ → Type 0
RunsTo s t p run = (0 < run → Part 0 run t ≡ out_from s p) × (run ≡ 0 → s ≡ t)

-- Places stay sound.
sound_after_run : (s t : Place) (p : List ℕ) (run : ℕ) → IsSound s → RunsTo s t p run → IsSound (after_bytes run t)
sound_after_run s t p zero sound runs =
    subst IsSound (runs.1 refl ∙ ap (λ n. record t { taken = n }) (let z : t.taken ≡ t.taken + 0 = omega arith in z)) sound
sound_after_run s t p (suc n) sound runs =
    counted_out s (Part 0 (suc n) t) (subst (IsOut s) (sym (runs.0 (omega arith))) (is_advanced s p sound))

-- Content was read, the bytes of it counted.
after_run : (s t : Place) (front : List ℕ) (given : Events) (p : List ℕ) (run : ℕ) → IsText p → IsSound s → HasRead s front given → RunsTo s t p run →
    HasRead (after_bytes run t) (front ++ take run p) (given ++ content_events (take run p))
after_run s t front given p zero text sound w runs =
    subst (λ x. HasRead x (front ++ []) (given ++ []))
    (runs.1 refl ∙ ap (λ n. record t { taken = n }) (let z : t.taken ≡ t.taken + 0 = omega arith in z))
    (subst (λ z. HasRead s z (given ++ [])) (sym (append-nil front)) (subst (HasRead s front) (sym (append-nil given)) w))
after_run s t front given p (suc n) text sound w runs = reads_more s front given p (Part 0 (suc n) t) text sound (runs.0 (omega arith)) w

-- CR LF after content end the text.
ends_here : (t : Place) (p : List ℕ) (run : ℕ) → EndsAt p run → EndsText t → Gave 2 TextEnd (at_boundary t) ≡ out_from t (drop run p)
ends_here t p run ends ends_text = ends_text (drop (run + 2) p) ∙ ap (out_from t) (sym (rest_after_run p run ends))

pub sound_text_ends : (s t : Place) (p : List ℕ) (run : ℕ) → IsSound s → EndsAt p run → RunsTo s t p run → EndsText (after_bytes run t) →
    IsSound (after_bytes 2 (at_boundary (after_bytes run t)))
sound_text_ends s t p run sound ends runs ends_text =
    let u = after_bytes run t in
    counted_out u (Gave 2 TextEnd (at_boundary u))
    (subst (IsOut u) (sym (ends_here u p run ends ends_text)) (is_advanced u (drop run p) (sound_after_run s t p run sound runs)))

-- two runs of one list
pub taken_on : (n m : ℕ) (p : List ℕ) → take n p ++ take m (drop n p) ≡ take (n + m) p
taken_on n m p =
    let shorter : take n (take (n + m) p) ≡ take n p = grind (arith, common_steps) in
    ap (λ z. take n p ++ z) (sym (drop-take n m p)) ∙ ap (λ z. z ++ drop n (take (n + m) p)) (sym shorter) ∙ take-append-drop n (take (n + m) p)

-- After content and its CR LF the text has ended.
pub text_ends : (s t : Place) (front : List ℕ) (given : Events) (p : List ℕ) (run : ℕ) → IsText p → IsSound s → HasRead s front given → EndsAt p run →
    RunsTo s t p run → EndsText (after_bytes run t) →
    HasRead (after_bytes 2 (at_boundary (after_bytes run t))) (front ++ take (run + 2) p) (given ++ (content_events (take run p) ++ e.TextEnd ∷ []))
text_ends s t front given p run text sound w ends runs ends_text =
    let u = after_bytes run t in
    let last = at_boundary u in
    let rest = drop run p in
    let read = reads_more u (front ++ take run p) (given ++ content_events (take run p)) rest (Gave 2 TextEnd last) (text_after run p text)
    (sound_after_run s t p run sound runs) (ends_here u p run ends ends_text) (after_run s t front given p run text sound w runs) in
    let bytes : (front ++ take run p) ++ take 2 rest ≡ front ++ take (run + 2) p =
    append_assoc front (take run p) (take 2 rest) ∙ ap (λ z. front ++ z) (taken_on run 2 p) in
    subst (λ z. HasRead (after_bytes 2 last) z (given ++ (content_events (take run p) ++ e.TextEnd ∷ []))) bytes
    (subst (HasRead (after_bytes 2 last) ((front ++ take run p) ++ take 2 rest)) (append_assoc given (content_events (take run p)) (e.TextEnd ∷ [])) read)

-- Lines.

-- a line's content
pub line_runs : (t : Place) (n room run : ℕ) (p : List ℕ) →
    run ≡ plain_run (take (min (min room (total_room t - (n + 2))) (length p)) p) →
    RunsTo (after_bytes n (at t (InLine room))) (after_bytes n (at t (InLine (room - run)))) p run
line_runs t n room run p is =
    let u = after_bytes n t in
    let rooms : total_room t - (n + 2) ≡ total_room u - 2 = omega arith in
    let here : run ≡ plain_run (take (min (min room (total_room u - 2)) (length p)) p) =
    is ∙ ap (λ k. plain_run (take (min (min room k) (length p)) p)) rooms in
    (λ some. sym (line_part u room run p here some), λ none. ap (λ k. at u (InLine k)) (let z : room ≡ room - run = omega (arith, none) in z))

-- CR LF end a line
pub line_ends : (t : Place) (room : ℕ) → EndsText (at t (InLine room))
line_ends t room more = refl

-- the bytes of a run are those of a line
plain_line : (p : List ℕ) → IsLine (take (plain_run p) p)
plain_line [] = tt
plain_line (b ∷ bs) = if_equal b 13 (λ x. IsLine (take (cond x 0 (cond (eqb b 10) 0 (plain_run bs + 1))) (b ∷ bs))) (λ is. tt)
    (λ no_cr. if_equal b 10 (λ x. IsLine (take (cond x 0 (plain_run bs + 1)) (b ∷ bs))) (λ is. tt)
    (λ no_lf. subst (λ n. IsLine (take n (b ∷ bs))) (let z : suc (plain_run bs) ≡ plain_run bs + 1 = omega arith in z) ((no_cr, no_lf), plain_line bs)))

pub run_is_line : (p : List ℕ) (most run : ℕ) → run ≡ plain_run (take most p) → IsLine (take run p)
run_is_line p most run is =
    let few : plain_run (take most p) ≤ length (take most p) = plain_run_le (take most p) in
    let same : take (plain_run (take most p)) (take most p) ≡ take (plain_run (take most p)) p = taken_short (plain_run (take most p)) most p few in
    subst IsLine (ap (λ n. take n p) (sym is)) (subst IsLine same (plain_line (take most p)))
  where
    taken_short : (n most : ℕ) (p : List ℕ) → n ≤ length (take most p) → take n (take most p) ≡ take n p
    taken_short n most p few = grind (arith, common_steps)

-- The whole text.

-- a text whose head, content and CR LF lie in the piece leads from one place to another
pub whole_text : (s : Place) (m m' : Machine) (n run : ℕ) (k : TextKind) (t : Place) (p : List ℕ) → IsText p → IsSound s →
    Gave n (Text k) (place_of m) ≡ out_from s p → EndsAt (drop n p) run → RunsTo (after_bytes n (place_of m)) t (drop n p) run →
    EndsText (after_bytes run t) → rules_of t ≡ rules_of (place_of m) → after_bytes 2 (at_boundary (after_bytes run t)) ≡ place_of m' →
    n + run + 2 ≤ length p → TellsText s (place_of m') p (n + run + 2) k (take run (drop n p))
whole_text s m m' n run k t p text sound here ends runs ends_text rules there within =
    let u = after_bytes n (place_of m) in
    let kept : IsOut s (Gave n (Text k) (place_of m)) = subst (IsOut s) (sym here) (is_advanced s p sound) in
    let sound_u : IsSound u = counted_out s (Gave n (Text k) (place_of m)) kept in
    let last = after_bytes 2 (at_boundary (after_bytes run t)) in
    let bytes = take run (drop n p) in
    let used = n + run + 2 in
    let count : length bytes ≡ run = length-take-le run (drop n p) (omega (arith, ends.within)) in
    let head : n ≡ used - (run + 2) = omega arith in
    subst (λ x. TellsText s x p used k bytes) there (record {
      sound = sound_text_ends u t (drop n p) run sound_u ends runs ends_text;
      steps = record {
        same_rules = rules ∙ kept.0.rules;
        no_fault = λ fault f. absurd (let z : Gave n (Text k) (place_of m) ≡ Bad 0 fault.cause s = here ∙ from_dead s p fault f in cc);
        of_piece = record {
          within = within;
          has_end = omega (arith, count);
          lent = ap (λ j. take run (drop j p)) head ∙ ap (λ j. take j (drop (used - (j + 2)) p)) (sym count);
        };
        reads = λ front given w.
            let read = text_ends u t (front ++ take n p) (given ++ e.Text (text_kind_of k) ∷ []) (drop n p) run (text_after n p text) sound_u
            (reads_more s front given p (Gave n (Text k) (place_of m)) text sound here w) ends runs ends_text in
            let all : (front ++ take n p) ++ take (run + 2) (drop n p) ≡ front ++ take used p =
            append_assoc front (take n p) (take (run + 2) (drop n p)) ∙
            ap (λ z. front ++ z) (taken_on n (run + 2) p ∙ ap (λ j. take j p) (let z : n + (run + 2) ≡ used = omega arith in z)) in
            subst (λ z. HasRead last z (given ++ whole_text_events k bytes)) all
            (subst (HasRead last ((front ++ take n p) ++ take (run + 2) (drop n p)))
            (append_assoc given (e.Text (text_kind_of k) ∷ []) (content_events bytes ++ e.TextEnd ∷ [])) read);
        in_time = λ front given w some.
            let before : n - 1 ≡ used - (length bytes + 3) = omega (arith, count) in
            subst (λ j. AreDue (front ++ take j p) given) before
            ((shows s front given p (Gave n (Text k) (place_of m)) text sound here w).3 (omega (arith, count, some)));
      };
    })

-- The tags.

-- a line's tag stands for its text
pub line_tag : (w : EventTag) (k : TextKind) (n : ℕ) (m : Machine) → IsLineTag w k → out_by w n m ≡ Gave n (Text k) (place_of m)
line_tag tag.Simple k n m is = ap (λ x. Gave n (Text x) (place_of m)) (sym is)
line_tag tag.Error k n m is = ap (λ x. Gave n (Text x) (place_of m)) (sym is)
line_tag w k n m is = absurd is

-- a line is the text of its kind
pub line_text_is : (w : EventTag) (k : TextKind) (bytes : List ℕ) → IsLineTag w k → IsLine bytes → IsTextOf k bytes
line_text_is tag.Simple k bytes is line = subst (λ x. IsTextOf x bytes) (sym is) line
line_text_is tag.Error k bytes is line = subst (λ x. IsTextOf x bytes) (sym is) line
line_text_is w k bytes is line = absurd is

-- A line that lies in the piece.
pub line_tells : (s : Place) (m m' : Machine) (taken : Advance) (run : ℕ) (k : TextKind) (p : List ℕ) → IsText p → IsSound s → IsLineTag taken.tag k →
    out_of taken m ≡ out_from s p → m.state ≡ state.Line → EndsAt (drop taken.used p) run →
    run ≡ plain_run (take (min (min m.room (total_room (place_of m) - (taken.used + 2))) (length (drop taken.used p))) (drop taken.used p)) →
    m' ≡ record m { taken = m.taken + (taken.used + run + 2); state = state.Boundary } →
    TellsText s (place_of m') p (taken.used + run + 2) k (take run (drop taken.used p))
line_tells s m m' taken run k p text sound line out is_line ends run_is machine =
    let n = taken.used in
    let place : place_of m ≡ at (place_of m) (InLine m.room) = ap (λ x. record (place_of m) { token = token_at x m }) is_line in
    let t = after_bytes n (at (place_of m) (InLine (m.room - run))) in
    let runs : RunsTo (after_bytes n (place_of m)) t (drop n p) run =
    subst (λ x. RunsTo (after_bytes n x) t (drop n p) run) (sym place) (line_runs (place_of m) n m.room run (drop n p) run_is) in
    let there : after_bytes 2 (at_boundary (after_bytes run t)) ≡ place_of m' =
    ap (λ j. record (at_boundary (place_of m)) { taken = j }) (let z : ((m.taken + n) + run) + 2 ≡ m.taken + (n + run + 2) = omega arith in z) ∙
    ap place_of (sym machine) in
    let size : n ≤ length p = (used_within taken m s p sound out).0 in
    whole_text s m m' n run k t p text sound (sym (line_tag taken.tag k n m line) ∙ out) ends runs
    (line_ends (after_bytes run (after_bytes n (place_of m))) (m.room - run)) refl there
    (omega (arith, ends.within, length-drop n p, size))

-- Doubles.

-- CR LF end a double at a stage at which it may end
pub double_ends : (t : Place) (room : ℕ) (at_stage : DoubleStage) → stage_needs at_stage ≡ 0 → EndsText (at t (InDouble at_stage room))
double_ends t room stage.Whole none more = refl
double_ends t room stage.Fraction none more = refl
double_ends t room stage.Exponent none more = refl
double_ends t room stage.Named none more = refl
double_ends t room stage.Begun none more = absurd (omega (arith, none))
double_ends t room stage.Plus none more = absurd (omega (arith, none))
double_ends t room stage.Minus none more = absurd (omega (arith, none))
double_ends t room stage.Point none more = absurd (omega (arith, none))
double_ends t room stage.Mark none more = absurd (omega (arith, none))
double_ends t room stage.MarkSign none more = absurd (omega (arith, none))
double_ends t room stage.I none more = absurd (omega (arith, none))
double_ends t room stage.In none more = absurd (omega (arith, none))
double_ends t room stage.N none more = absurd (omega (arith, none))
double_ends t room stage.Na none more = absurd (omega (arith, none))

-- the bytes of a run that begins with a double lead to its stage
run_leads : (total room run : ℕ) (p : List ℕ) → EndsDouble (double_run 0 total room stage.Begun p) run →
    stage_after_all stage.Begun (take run p) ≡ Some (double_run 0 total room stage.Begun p).stage
run_leads total room run p ends =
    let r = double_run 0 total room stage.Begun p in
    let count : run ≡ r.count - 0 = omega (arith, ends.counts) in
    ap (λ n. stage_after_all stage.Begun (take n p)) count ∙ double_run_stage 0 total room stage.Begun p

-- they are the text of a double
pub run_is_double : (total room run : ℕ) (p : List ℕ) → EndsDouble (double_run 0 total room stage.Begun p) run → IsDouble (take run p)
run_is_double total room run p ends = completes_double (take run p) (ap may_end (run_leads total room run p ends) ∙ ap (λ n. eqb n 0) ends.may_end)

-- and there is at least one
run_has_some : (total room run : ℕ) (p : List ℕ) → EndsDouble (double_run 0 total room stage.Begun p) run → 0 < run
run_has_some total room zero p ends =
    let same : Some stage.Begun ≡ Some (double_run 0 total room stage.Begun p).stage = run_leads total room zero p ends in
    let begun : stage.Begun ≡ (double_run 0 total room stage.Begun p).stage = cc in
    absurd (omega (arith, ap stage_needs begun, ends.may_end))
run_has_some total room (suc run) p ends = omega arith

-- the content of a double
double_runs : (t : Place) (n room run : ℕ) (p : List ℕ) (ends : EndsDouble (double_run 0 (total_room t - n) room stage.Begun p) run) →
    RunsTo (after_bytes n (at t (InDouble stage.Begun room)))
    (after_bytes n (at t (InDouble (double_run 0 (total_room t - n) room stage.Begun p).stage (double_run 0 (total_room t - n) room stage.Begun p).room))) p run
double_runs t n room run p ends =
    let u = after_bytes n t in
    let r = double_run 0 (total_room t - n) room stage.Begun p in
    let rooms : total_room t - n ≡ total_room u = omega arith in
    let is : r ≡ double_run 0 (total_room u) room stage.Begun p = ap (λ m. double_run 0 m room stage.Begun p) rooms in
    let some = run_has_some (total_room t - n) room run p ends in (
      λ more. ap (λ k. Part 0 k (at u (InDouble r.stage r.room))) (sym ends.counts) ∙
          sym (double_part u room stage.Begun p r is (omega (arith, ends.counts, some))),
      λ none. absurd (omega (arith, some, none)),
    )

-- A double that lies in the piece.
pub double_tells : (s : Place) (m m' : Machine) (taken : Advance) (run : ℕ) (p : List ℕ) → IsText p → IsSound s → taken.tag ≡ tag.Double →
    out_of taken m ≡ out_from s p → m.state ≡ state.Double → m.stage ≡ stage.Begun → EndsAt (drop taken.used p) run →
    EndsDouble (double_run 0 (total_room (place_of m) - taken.used) m.room stage.Begun (drop taken.used p)) run →
    m' ≡ record m { taken = m.taken + (taken.used + run + 2); state = state.Boundary } →
    TellsText s (place_of m') p (taken.used + run + 2) kind.Double (take run (drop taken.used p))
double_tells s m m' taken run p text sound double out is_double begun ends run_ends machine =
    let n = taken.used in
    let r = double_run 0 (total_room (place_of m) - n) m.room stage.Begun (drop n p) in
    let here : Gave n (Text kind.Double) (place_of m) ≡ out_from s p = ap (λ x. out_by x n m) (sym double) ∙ out in
    let place : place_of m ≡ at (place_of m) (InDouble stage.Begun m.room) = ap (λ x. record (place_of m) { token = token_at x m }) is_double ∙
    ap (λ x. at (place_of m) (InDouble x m.room)) begun in
    let t = after_bytes n (at (place_of m) (InDouble r.stage r.room)) in
    let runs : RunsTo (after_bytes n (place_of m)) t (drop n p) run =
    subst (λ x. RunsTo (after_bytes n x) t (drop n p) run) (sym place) (double_runs (place_of m) n m.room run (drop n p) run_ends) in
    let there : after_bytes 2 (at_boundary (after_bytes run t)) ≡ place_of m' =
    ap (λ j. record (at_boundary (place_of m)) { taken = j }) (let z : ((m.taken + n) + run) + 2 ≡ m.taken + (n + run + 2) = omega arith in z) ∙
    ap place_of (sym machine) in
    let size : n ≤ length p = (used_within taken m s p sound out).0 in
    whole_text s m m' n run kind.Double t p text sound here ends runs
    (double_ends (after_bytes run (after_bytes n (place_of m))) r.room r.stage run_ends.may_end) refl there
    (omega (arith, ends.within, length-drop n p, size))

-- Counted content.

-- a place at which this much content is still to come
content_runs : (u : Place) (run : ℕ) (p : List ℕ) → 0 < run → run ≤ length p → RunsTo (at u (InContent run)) (content_at 0 u) p run
content_runs u run p some within = (λ more. sym (part more), λ none. absurd (omega (arith, some, none)))
  where
    part : 0 < run → out_from (at u (InContent run)) p ≡ Part 0 run (content_at 0 u)
    part more = content_part u 0 run run p some (omega (arith, some, within)) (let z : run ≡ min (length p) run = omega (arith, within) in z) ∙
        (let left : run - run ≡ 0 = omega arith in ap (λ k. Part 0 k (content_at (run - run) u)) (zero-add run) ∙ ap (λ k. Part 0 run (content_at k u)) left)

-- CR LF end content
content_ends : (u : Place) → EndsText (content_at 0 u)
content_ends u more = refl

-- Content that lies in the piece with its CR LF.
pub content_tells : (s : Place) (m m' : Machine) (taken : Advance) (run : ℕ) (p : List ℕ) → IsText p → IsSound s → taken.tag ≡ tag.Bulk →
    out_of taken m ≡ out_from s p → EndsAt (drop taken.used p) run → LeavesContent m.state m.count run →
    m' ≡ record m { taken = m.taken + (taken.used + run + 2); state = state.Boundary } →
    TellsText s (place_of m') p (taken.used + run + 2) kind.Bulk (take run (drop taken.used p))
content_tells s m m' taken run p text sound bulk out ends left machine =
    let n = taken.used in
    let here : Gave n (Text kind.Bulk) (place_of m) ≡ out_from s p = ap (λ x. out_by x n m) (sym bulk) ∙ out in
    let kept : IsOut s (Gave n (Text kind.Bulk) (place_of m)) = subst (IsOut s) (sym here) (is_advanced s p sound) in
    let there : after_bytes 2 (at_boundary (after_bytes run (after_bytes n (content_at 0 (place_of m))))) ≡ place_of m' =
    ap (λ j. record (at_boundary (place_of m)) { taken = j }) (let z : ((m.taken + n) + run) + 2 ≡ m.taken + (n + run + 2) = omega arith in z) ∙
    ap place_of (sym machine) in
    let size : n ≤ length p = (used_within taken m s p sound out).0 in
    whole_text s m m' n run kind.Bulk (after_bytes n (content_at 0 (place_of m))) p text sound here ends
    (runs_from m.state refl left kept.0.sound.token) (content_ends (after_bytes run (after_bytes n (place_of m)))) refl there
    (omega (arith, ends.within, length-drop n p, size))
  where
    runs_from : (x : State) → m.state ≡ x → LeavesContent x m.count run → IsTokenSound (token_at m.state m) m.limits.depth (reverse m.frames.items) →
        RunsTo (after_bytes taken.used (place_of m)) (after_bytes taken.used (content_at 0 (place_of m))) (drop taken.used p) run
    runs_from state.Content is left sound_token =
        let n = taken.used in
        let some : 0 < m.count = subst (λ z. IsTokenSound (token_at z m) m.limits.depth (reverse m.frames.items)) is sound_token in
        let place : place_of m ≡ at (place_of m) (InContent run) = ap (λ z. record (place_of m) { token = token_at z m }) is ∙
        ap (λ k. at (place_of m) (InContent k)) (sym left) in
        subst (λ z. RunsTo (after_bytes n z) (after_bytes n (content_at 0 (place_of m))) (drop n p) run) (sym place)
        (content_runs (after_bytes n (place_of m)) run (drop n p) (omega (arith, left, some)) (omega (arith, ends.within)))
    runs_from state.ContentCr is left sound_token =
        (λ some. absurd (omega (arith, some, left)), λ none. ap (λ z. record (after_bytes taken.used (place_of m)) { token = token_at z m }) is)
    runs_from x is left sound_token = absurd left
