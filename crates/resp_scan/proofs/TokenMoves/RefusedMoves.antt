-- Bytes that are refused inside a value: by the grammar, by a rule of the value alone, or by total.
use Rattle.std.specs.Prelude.{Bool, true, false, cond, eqb, None, Some, ◌%◌}
use Rattle.std.proofs.lemmas.Bool.Decides.{nat_tests}
use Rattle.std.proofs.Common.{◌≡◌, ℕ, suc, ◌+◌, ◌-◌, ◌*◌, ◌<◌, ◌≤◌, List, [], ◌∷◌, ◌++◌, length, refl, ap, subst, ◌∙◌, arith, length-append}
use Rattle.resp_value.specs.Rules.{Rules, Rule, Grammar, WithinItems, WithinTotal, rank}
use Rattle.resp_value.specs.Spellings.{IsViable}
use Rattle.resp_value.specs.Causes.{cause_of}
use Rattle.resp_value.specs.declared.cause.Cause.TheVariants as cause
use Rattle.resp_value.specs.declared.kind.OpenKind.{OpenKind}
use Rattle.resp_value.specs.declared.kind.OpenKind.TheVariants as kind
use Rattle.resp_value.specs.Kinds.{kind_of}
use Rattle.resp_fronts.specs.Events.{Event}
use Rattle.resp_fronts.specs.LeastCompletions.{Continues, IsLeast}
use Rattle.resp_fronts.proofs.FirstLines.CountRows.{CompletesUnder, IsRefusedHere}
use Rattle.resp_fronts.proofs.FrameLaws.FrontLaws.{least_continues, viable_in_all}
use Rattle.resp_fronts.proofs.FrameLaws.Levels as l
use Rattle.resp_fronts.specs.OpenLevels as o
use Rattle.resp_fronts.proofs.Tokens.BegunFronts as b
use Rattle.resp_fronts.proofs.Tokens.BegunFronts.{IsBegunBy}
use Rattle.resp_scan.specs.declared.frame.Frame.{Frame}
use Rattle.resp_scan.specs.declared.frame.Shape.{Shape}
use Rattle.resp_scan.specs.declared.frame.Shape.TheVariants.{Left, Begun}
use Rattle.resp_scan.specs.Machine.Tokens.{Move, Place, Refuse}
use Rattle.resp_scan.specs.Machine.Room.{has_total_room, over_total}
use Rattle.resp_scan.specs.Machine.Moves.{move_unless}
use Rattle.resp_scan.specs.Kinds.{IsRefusedFor, rules_of}
use Rattle.resp_scan.specs.Machine.Standing.{HasCountsOf, HasBegunMember, HaveBegun, IsInside, Leads, busy_shape, busy_levels, waiting_shape}
use Rattle.resp_scan.specs.Machine.Sound.{need_of_frame, need_of_frames}
use Rattle.resp_scan.proofs.TokenMoves.Moves.{Tells, follows_by, length-busy}

-- the level of a value is the number of frames
level_is : (fs : List Frame) (level : ℕ) → level ≡ length (busy_levels fs) → level ≡ length fs
level_is fs level e = e ∙ length-busy fs

-- What the frames need.

-- a frame where no member is open needs what it owes
pub waiting_needed : (k : OpenKind) (s : Shape) → l.shape_needed (kind_of k) (waiting_shape s) ≡ need_of_frame k s
waiting_needed k (Left n) = omega arith
waiting_needed kind.Map (Begun n) =
    elim (eqb (n % 2) 0) as (λ x. eqb (n % 2) 0 ≡ x → 3 * (n % 2) + 3 ≡ cond x 3 6) [
      | true ↦ λ z. let even : n % 2 ≡ 0 = grind (arith, nat_tests) in omega (arith, even)
      | false ↦ λ z. let odd : 0 < n % 2 = grind (arith, nat_tests) in omega (arith, odd)
    ] refl
waiting_needed _ _ = refl

-- once its open member is whole none is open
after_busy : (s : Shape) → HasBegunMember s → l.shape_after (busy_shape s) ≡ waiting_shape s
after_busy (Left n) h = ap o.to_come (omega arith)
after_busy (Begun n) h = ap o.so_far (omega (arith, h))

shape_needed_is : (k : OpenKind) (s : Shape) → HasBegunMember s → l.shape_needed (kind_of k) (l.shape_after (busy_shape s)) ≡ need_of_frame k s
shape_needed_is k s h = ap (l.shape_needed (kind_of k)) (after_busy s h) ∙ waiting_needed k s

-- frames in each of which a member is open need what they owe
pub frames_needed_is : (fs : List Frame) → HaveBegun fs → l.levels_needed (busy_levels fs) ≡ need_of_frames fs
frames_needed_is [] h = refl
frames_needed_is (f ∷ fs) h = omega (arith, shape_needed_is f.kind f.shape h.0, frames_needed_is fs h.1)

-- the least completion of a front inside a value
pub inside_least : (r : Rules) (T : ℕ → List ℕ → List Event → Type 0) (fs : List Frame) (front : List ℕ) (es : List Event) (n : ℕ) → IsInside r T fs front es →
    ((level : ℕ) (bytes : List ℕ) (shown : List Event) → level ≡ length fs → T level bytes shown → IsBegunBy r level bytes n) →
    IsLeast r front (n + need_of_frames fs)
inside_least r T fs front es n w row =
    subst (λ m. IsLeast r front (n + m)) (frames_needed_is fs w.begun)
    (least_continues r WithinItems front (n + l.levels_needed (busy_levels fs)) (omega arith)
    (b.begun_least r (Tells T) (busy_levels fs) front n (follows_by r T fs front es w) (λ level bytes e t. row level bytes t.0 (level_is fs level e) t.1)))

-- a front that a rest continues is viable under fewer rules
viable_before_total : (r : Rules) (front rest : List ℕ) (earlier : Rule) → rank earlier < rank WithinTotal → Continues r WithinItems front rest →
    IsViable r earlier front
viable_before_total r front rest earlier e w = record { rest = rest; tree = w.tree; spells = w.spells; keeps = λ rule i. w.keeps rule (omega arith) }

-- a front whose least completion is past total
pub past_total : (r : Rules) (front : List ℕ) (n : ℕ) → IsLeast r front n → r.limits.total < length front + n → IsRefusedFor r front cause.Total
past_total r front n w past = record {
  rule = WithinTotal;
  names = refl;
  cause = record {
    viable_before = λ earlier e. viable_before_total r front w.some earlier e w.holds;
    not_viable = λ v. (let m : length front + n ≤ r.limits.total = (viable_in_all r front n w).0 v in absurd (omega arith));
  };
}

-- Refusals.

-- by a rule of the value, where the rule before it doesn't refuse
pub refused : (r : Rules) (T : ℕ → List ℕ → List Event → Type 0) (rule before : Rule) (fs : List Frame) (front bytes_more : List ℕ) (es : List Event) →
    rank rule ≡ suc (rank before) → rank rule < rank WithinTotal → IsInside r T fs front es →
    ((level : ℕ) (bytes : List ℕ) (shown : List Event) → level ≡ length fs → T level bytes shown →
    (head : ℕ) × (tail : List ℕ) × (bytes ++ bytes_more ≡ head ∷ tail) × IsRefusedHere r rule before level (head ∷ tail)) →
    IsRefusedFor r (front ++ bytes_more) (cause_of rule)
refused r T rule before fs front bytes_more es next before_total w here = record {
  rule = rule;
  names = refl;
  cause = b.begun_refused r (Tells T) rule before (busy_levels fs) front bytes_more next before_total (follows_by r T fs front es w)
      (λ level bytes e t. here level bytes t.0 (level_is fs level e) t.1);
}

-- by the grammar
pub broken : (r : Rules) (T : ℕ → List ℕ → List Event → Type 0) (fs : List Frame) (front : List ℕ) (es : List Event) (n byte : ℕ) → IsInside r T fs front es →
    ((level : ℕ) (bytes : List ℕ) (shown : List Event) → level ≡ length fs → T level bytes shown → IsBegunBy r level bytes n) →
    ((level : ℕ) (bytes rest : List ℕ) (shown : List Event) → T level bytes shown → CompletesUnder r Grammar level bytes (byte ∷ rest) → ⊥) →
    IsRefusedFor r (front ++ byte ∷ []) cause.Syntax
broken r T fs front es n byte w row dead = record {
  rule = Grammar;
  names = refl;
  cause = b.begun_broken r (Tells T) (busy_levels fs) front n byte (follows_by r T fs front es w)
      (λ level bytes e t. row level bytes t.0 (level_is fs level e) t.1) (λ level bytes rest e t. dead level bytes rest t.0 t.1);
}

-- by total: where it leaves no room for the byte and what is needed after it
pub fits_or_past : (s : Place) (T : ℕ → List ℕ → List Event → Type 0) (front : List ℕ) (es told : List Event) (used byte n : ℕ) (v : Move) →
    s.frames_need ≡ need_of_frames s.frames → length front ≡ s.taken + used → IsInside (rules_of s) T s.frames (front ++ byte ∷ []) told →
    ((level : ℕ) (bytes : List ℕ) (shown : List Event) → level ≡ length s.frames → T level bytes shown → IsBegunBy (rules_of s) level bytes n) →
    Leads s front es byte v → Leads s front es byte (cond (has_total_room s (used + 1) n) v (Refuse cause.Total))
fits_or_past s T front es told used byte n v frames_need taken w row leads =
    elim (has_total_room s (used + 1) n) as (λ z. has_total_room s (used + 1) n ≡ z → Leads s front es byte (cond z v (Refuse cause.Total))) [
      | true ↦ λ z. leads
      | false ↦ λ z.
          let past : (s.bounds.total - s.taken) - s.frames_need < used + 1 + n = grind (arith, nat_tests) in
          past_total (rules_of s) (front ++ byte ∷ []) (n + need_of_frames s.frames) (inside_least (rules_of s) T s.frames (front ++ byte ∷ []) told n w row)
          (omega (arith, frames_need, taken, length-append front (byte ∷ [])))
    ] refl

-- a byte leads on or is over total, by the numbers of a place
pub fits_or_total : (s : Place) (T : ℕ → List ℕ → List Event → Type 0) (front : List ℕ) (es told : List Event) (used byte n : ℕ) (v : Move) →
    HasCountsOf s used front → IsInside (rules_of s) T s.frames (front ++ byte ∷ []) told →
    ((level : ℕ) (bytes : List ℕ) (shown : List Event) → level ≡ length s.frames → T level bytes shown → IsBegunBy (rules_of s) level bytes n) →
    Leads s front es byte v → Leads s front es byte (cond (has_total_room s (used + 1) n) v (Refuse cause.Total))
fits_or_total s T front es told used byte n v c w row leads = fits_or_past s T front es told used byte n v c.sound.frames_need c.taken w row leads

-- a byte leads on unless it is over total
pub unless_over : (s : Place) (front : List ℕ) (es : List Event) (used byte n : ℕ) (v : Move) →
    Leads s front es byte (cond (has_total_room s (used + 1) n) v (Refuse cause.Total)) → Leads s front es byte (move_unless (over_total s (used + 1) n) v)
unless_over s front es used byte n v = case (has_total_room s (used + 1) n)
  where
    case : (z : Bool) → Leads s front es byte (cond z v (Refuse cause.Total)) → Leads s front es byte (move_unless (cond z None (Some cause.Total)) v)
    case true h = h
    case false h = h
