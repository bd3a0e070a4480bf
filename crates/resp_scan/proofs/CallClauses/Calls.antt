-- The other calls in words of texts and trees.
use Rattle.std.specs.Prelude.{Bool, true, false, cond, eqb, get_or, ◌||◌, Option, None, Some, Result, Ok, Err, IsOk, IfErr, OnOk, ◌↔◌}
use Rattle.std.proofs.lemmas.Bool.{false≢true}
use Rattle.std.proofs.lemmas.Bool.Decides.{nat_tests}
use Rattle.std.proofs.Common.{◌≡◌, ◌⊎◌, inl, inr, ℕ, suc, ◌<◌, ◌≤◌, List, [], ◌∷◌, ◌++◌, length, refl, sym, ap, subst, ◌∙◌, arith, append-nil}
use Rattle.resp_value.specs.Bytes.{IsText}
use Rattle.resp_value.specs.declared.version.Version.{Version}
use Rattle.resp_value.specs.Rules.{Rules}
use Rattle.resp_value.specs.Trees.{Spells, leaf, text}
use Rattle.resp_value.specs.declared.cause.Cause.{Cause}
use Rattle.resp_value.specs.declared.cause.Cause.TheVariants as cause
use Rattle.resp_value.proofs.Unique.{unique}
use Rattle.resp_value.proofs.DefaultLimits.{text_at_least}
use Rattle.resp_fronts.specs.Events as e
use Rattle.resp_fronts.specs.Frames as opened
use Rattle.resp_fronts.specs.Frames.{text_around}
use Rattle.resp_fronts.proofs.Tokens.BegunFronts.{IsBegunBy}
use Rattle.resp_fronts.proofs.EventLaws.EventsAround.{length-around, next_member_at}
use Rattle.resp_fronts.proofs.FrameLaws.FrontLaws.{all_rules}
use Rattle.resp_fronts.specs.OpenLevels.{AreLevelsOf}
use Rattle.resp_scan.specs.declared.event.Busy.{Busy}
use Rattle.resp_scan.specs.declared.event.Event.{Event}
use Rattle.resp_scan.specs.declared.event.Event.TheVariants as event
use Rattle.resp_scan.specs.declared.event.Step.{Step}
use Rattle.resp_scan.specs.declared.event.Fault.{Fault}
use Rattle.resp_scan.specs.declared.frame.Frame.{Frame}
use Rattle.resp_scan.specs.Machine.Tokens.{Token, Place, at, AtStart, AtEnd, AtTextEnd, AtCloseCr, AtCloseLf, Dead}
use Rattle.resp_scan.specs.Kinds.{rules_of}
use Rattle.resp_scan.specs.Machine.Beginnings as b
use Rattle.resp_scan.specs.Machine.Beginnings.{TextWhole}
use Rattle.resp_scan.specs.Machine.Owed.{events_owed}
use Rattle.resp_scan.specs.Machine.End.{end_cause, end_cause_in}
use Rattle.resp_scan.specs.Machine.Standing.{AwaitsMember, IsClosingIn, HasEnded, IsInside, StandsAfter, StandsAfterAt, waiting_levels}
use Rattle.resp_scan.specs.Machine.Sound.{IsSound, needed, token_needed}
use Rattle.resp_scan.specs.Reading.{BeginDue, HasRead, IsSpelled, MayEnd}
use Rattle.resp_scan.specs.Machine.Scan as scan
use Rattle.resp_scan.specs.Machine.Scan.{Out, More, Gave, Part, Bad, out_from}
use Rattle.resp_scan.specs.Machine.StepOutcomes.{out_of_step, out_of_event, out_of_part, after_step}
use Rattle.resp_scan.proofs.DueEvents.EventsDue.{events_are_due}
use Rattle.resp_scan.proofs.CallClauses.Fronts.{none-of-length}
use Rattle.resp_scan.proofs.Soundness.Kept.{IsOut, is_advanced}
use Rattle.resp_scan.proofs.CallClauses.LeastNeeded.{least_is_needed}
use Rattle.resp_scan.proofs.TokenMoves.Moves.{at_level}
use Rattle.resp_scan.proofs.CallClauses.Rows.{tokens_need}

-- A front that isn't empty.

-- what stands around begun bytes is no shorter
longer_around : (frames : List opened.Frame) (bytes : List ℕ) → length bytes ≤ length (text_around frames bytes)
longer_around frames bytes = omega (arith, length-around frames bytes)

inside_some : (r : Rules) (T : ℕ → List ℕ → List e.Event → Type 0) (fs : List Frame) (front : List ℕ) (es : List e.Event) (n : ℕ)
    (w : IsInside r T fs front es) → IsBegunBy r (length w.frames) w.bytes n → 0 < length front
inside_some r T fs front es n w row = omega (arith, ap length w.whole, longer_around w.frames w.bytes, ap length row.parts)

open_some : (frames : List opened.Frame) (f : opened.Frame) → 0 < length (text_around (f ∷ frames) [])
open_some frames f = omega (arith, next_member_at f frames)

between_some : (r : Rules) (f : Frame) (fs : List Frame) (front : List ℕ) (es : List e.Event) → AwaitsMember r (f ∷ fs) front es → 0 < length front
between_some r f fs front es w = case w.frames w.of_levels w.whole
  where
    case : (gs : List opened.Frame) → AreLevelsOf (waiting_levels (f ∷ fs)) gs → front ≡ text_around gs [] → 0 < length front
    case [] a e = absurd a
    case (g ∷ gs) a e = omega (arith, ap length e, open_some gs g)

ended_some : (r : Rules) (fs : List Frame) (front : List ℕ) (es : List e.Event) → HasEnded r fs front es → 0 < length front
ended_some r [] front es w = omega (arith, ap length w.whole, text_at_least w.tree)
ended_some r (f ∷ fs) front es w = omega (arith, ap length w.whole, open_some w.outer w.frame)

closing_some : (r : Rules) (fs : List Frame) (last rest front : List ℕ) (es : List e.Event) → 0 < length last → IsClosingIn r fs last rest front es →
    0 < length front
closing_some r [] last rest front es some w = absurd w
closing_some r (f ∷ fs) last rest front es some w = omega (arith, ap length w.whole, longer_around (w.frame ∷ w.outer) last, some)

-- between two values, or after a byte
abbrev AtFrontOrAfter : Token → List Frame → List ℕ → Type 0
AtFrontOrAfter t fs front = ((t ≡ AtStart) × (fs ≡ [])) ⊎ (0 < length front)

start_or_after : (s : Place) (front : List ℕ) (es : List e.Event) → AwaitsMember (rules_of s) s.frames front es → AtFrontOrAfter AtStart s.frames front
start_or_after s front es w = case s.frames w
  where
    case : (fs : List Frame) → AwaitsMember (rules_of s) fs front es → AtFrontOrAfter AtStart fs front
    case [] w = inl (refl, refl)
    case (f ∷ fs) w = inr (between_some (rules_of s) f fs front es w)

-- inside a value, but for its text's end
after_in : (t : Token) (s : Place) (front : List ℕ) (es : List e.Event) → IsSound (at s t) → (t ≡ AtTextEnd → ⊥) →
    IsInside (rules_of s) (b.TokenHas (rules_of s) t) s.frames front es → AtFrontOrAfter t s.frames front
after_in t s front es c no_end w = inr (inside_some (rules_of s) (b.TokenHas (rules_of s) t) s.frames front es (token_needed t s.bounds.depth s.frames) w
    (tokens_need (at s t) 0 (length w.frames) w.bytes w.shown c no_end (at_level w) w.took))

after_at : (t : Token) (s : Place) (front : List ℕ) (es : List e.Event) → IsSound (at s t) → StandsAfter (at s t) front es → AtFrontOrAfter t s.frames front
after_at AtStart s front es c w = start_or_after s front es w
after_at AtEnd s front es c w = inr (ended_some (rules_of s) s.frames front es w)
after_at AtTextEnd s front es c w = inr (omega (
  arith,
  ap length w.whole,
  longer_around w.frames w.bytes,
  ap length w.took.whole,
  text_at_least (leaf w.took.leaf),
))
after_at AtCloseCr s front es c w = inr (closing_some (rules_of s) s.frames (46 ∷ []) (13 ∷ 10 ∷ []) front es (omega arith) w)
after_at AtCloseLf s front es c w = inr (closing_some (rules_of s) s.frames (46 ∷ 13 ∷ []) (10 ∷ []) front es (omega arith) w)
after_at (Dead x) s front es c w = absurd w.took
after_at t s front es c w = after_in t s front es c (λ e. cc) w

front_or_after : (s : Place) (front : List ℕ) (es : List e.Event) → IsSound s → StandsAfter s front es → AtFrontOrAfter s.token s.frames front
front_or_after s front es c w = after_at s.token s front es c w

-- Between values.

-- a scanner stands between two values exactly where no byte of a value was taken
pub between_values : (s : Place) (front : List ℕ) (es : List e.Event) → IsSound s → HasRead s front es → ((s.token ≡ AtStart) × (s.frames ≡ [])) ↔ (front ≡ [])
between_values s front es c w = (λ h. none_taken s.token s.frames h.0 h.1 w.stands, λ e. case e (front_or_after s front es c w.stands))
  where
    none_taken : (t : Token) (fs : List Frame) → t ≡ AtStart → fs ≡ [] → StandsAfterAt (rules_of s) t fs front es → front ≡ []
    none_taken t fs e d l = top (subst (λ x. AwaitsMember (rules_of s) x front es) d (subst (λ x. StandsAfterAt (rules_of s) x fs front es) e l))
      where
        top : AwaitsMember (rules_of s) [] front es → front ≡ []
        top w = none w.frames w.of_levels w.whole
          where
            none : (gs : List opened.Frame) → AreLevelsOf [] gs → front ≡ text_around gs [] → front ≡ []
            none [] a e = e
            none (g ∷ gs) a e = absurd a

    case : front ≡ [] → AtFrontOrAfter s.token s.frames front → (s.token ≡ AtStart) × (s.frames ≡ [])
    case e (inl h) = h
    case e (inr h) = absurd (omega (arith, h, ap length e))

-- a place that waits for a value at the top has read nothing
pub follows_none : (s : Place) → s.token ≡ AtStart → s.frames ≡ [] → s.taken ≡ 0 → HasRead s [] []
follows_none s e d z = record {
  stands = subst (λ x. StandsAfterAt (rules_of s) x s.frames [] []) (sym e)
      (subst (λ x. AwaitsMember (rules_of s) x [] []) (sym d) (record { frames = []; begun = tt; of_levels = tt; ready = tt; whole = refl; told = refl }));
  taken = z;
}

-- The end.

spelled_where_none : (s : Place) (front : List ℕ) (es : List e.Event) → IsSound s → HasRead s front es → needed s ≡ 0 → IsSpelled (rules_of s) front
spelled_where_none s front es c w none =
    let least = least_is_needed s 0 front es c w.stands in
    let h = least.holds in
    let empty : front ++ least.some ≡ front = ap (λ z. front ++ z) (none-of-length least.some (least.size ∙ none)) ∙ append-nil front in
    record {
      tree = h.tree;
      spells = subst (Spells h.tree) empty h.spells;
      keeps = all_rules (rules_of s) h.tree h.keeps (omega (arith, w.taken, c.total, ap length h.spells.spelled, ap length empty));
    }

none_where_spelled : (s : Place) (front : List ℕ) (es : List e.Event) → IsSound s → HasRead s front es → IsSpelled (rules_of s) front → needed s ≡ 0
none_where_spelled s front es c w x =
    let least = least_is_needed s 0 front es c w.stands in
    let h = least.holds in
    let u = unique x.tree h.tree least.some [] x.spells.is_tree h.spells.is_tree (ap (λ z. z ++ least.some) x.spells.spelled ∙ sym h.spells.spelled ∙
    sym (append-nil (text h.tree))) in
    sym least.size ∙ ap length u.1

-- a place that follows a front was refused no byte
alive : (s : Place) (front : List ℕ) (es : List e.Event) (c : Cause) → StandsAfter s front es → s.token ≡ Dead c → ⊥
alive s front es c w e = no_dead (subst (λ t. StandsAfterAt (rules_of s) t s.frames front es) e w)
  where
    no_dead : IsInside (rules_of s) (b.TokenHas (rules_of s) (Dead c)) s.frames front es → ⊥
    no_dead x = x.took

abbrev ends_by : Place → Option Cause
ends_by s = cond (eqb s.taken 0 || eqb (needed s) 0) None (Some cause.Truncated)

end_at : (t : Token) (s : Place) → ((c : Cause) → t ≡ Dead c → ⊥) → end_cause_in t s ≡ ends_by s
end_at (Dead c) s h = absurd (h c refl)
end_at t s h = refl

end_is : (s : Place) (front : List ℕ) (es : List e.Event) → HasRead s front es → end_cause s ≡ ends_by s
end_is s front es w = end_at s.token s (λ c e. alive s front es c w.stands e)

-- the end is refused exactly inside a value
pub end_told : (s : Place) (front : List ℕ) (es : List e.Event) → IsSound s → HasRead s front es → (MayEnd (rules_of s) front → end_cause s ≡ None) ×
    (end_cause s ≡ None → MayEnd (rules_of s) front) × ((c : Cause) → end_cause s ≡ Some c → c ≡ cause.Truncated)
end_told s front es sound w = (λ m. end_is s front es w ∙ ends m, λ e. may (sym (end_is s front es w) ∙ e), λ c e. truncated c (sym (end_is s front es w) ∙ e))
  where
    ends : MayEnd (rules_of s) front → ends_by s ≡ None
    ends (inl e) = let z : eqb s.taken 0 ≡ true = ap (λ n. eqb n 0) (w.taken ∙ ap length e) in
        ap (λ x. cond (x || eqb (needed s) 0) None (Some cause.Truncated)) z
    ends (inr x) =
        let z : eqb (needed s) 0 ≡ true = ap (λ n. eqb n 0) (none_where_spelled s front es sound w x) in
        ap (λ x. cond (eqb s.taken 0 || x) None (Some cause.Truncated)) z ∙ or_true (eqb s.taken 0)
      where
        or_true : (x : Bool) → cond (x || true) None (Some cause.Truncated) ≡ None
        or_true true = refl
        or_true false = refl

    may : ends_by s ≡ None → MayEnd (rules_of s) front
    may e = elim (eqb s.taken 0) as (λ x. eqb s.taken 0 ≡ x → cond (x || eqb (needed s) 0) None (Some cause.Truncated) ≡ None → MayEnd (rules_of s) front) [
      | true ↦ λ z y. inl (none-of-length front (omega (arith, w.taken, first_zero s.taken z)))
      | false ↦ λ z y. elim (eqb (needed s) 0) as (λ x. eqb (needed s) 0 ≡ x → cond x None (Some cause.Truncated) ≡ None → MayEnd (rules_of s) front) [
        | true ↦ λ q r. inr (spelled_where_none s front es sound w (first_zero (needed s) q))
        | false ↦ λ q r. absurd cc
      ] refl y
    ] refl e
      where
        first_zero : (n : ℕ) → eqb n 0 ≡ true → n ≡ 0
        first_zero n z = grind (arith, nat_tests)

    truncated : (c : Cause) → ends_by s ≡ Some c → c ≡ cause.Truncated
    truncated c e = elim (eqb s.taken 0 || eqb (needed s) 0) as (λ x. cond x None (Some cause.Truncated) ≡ Some c →
        c ≡ cause.Truncated) [ true ↦ λ y. absurd cc | false ↦ λ y. cc ] e

-- Version and limits stay.

abbrev AreRules : Rules → Out → Type 0
AreRules r (More n t) = rules_of t ≡ r
AreRules r (Gave n e t) = rules_of t ≡ r
AreRules r (Part k n t) = rules_of t ≡ r
AreRules r (scan.Whole t) = rules_of t ≡ r
AreRules r (Bad n c t) = rules_of t ≡ r

kept_rules : (s : Place) (o : Out) → IsOut s o → AreRules (rules_of s) (after_step o)
kept_rules s (More n t) h = h.rules
kept_rules s (Gave n e t) h = h.0.rules
kept_rules s (Part k n t) h = h.rules
kept_rules s (scan.Whole t) h = h.2
kept_rules s (Bad n c t) h = h.0.rules

part_rules : (x : Bool) (n : ℕ) (q : List ℕ) (r : Rules) (t : Place) → AreRules r (out_of_part x n q t) → rules_of t ≡ r
part_rules true n q r t h = h
part_rules false n q r t h = h

event_rules : (n : ℕ) (x : Option Event) (r : Rules) (t : Place) → AreRules r (out_of_event n x t) → rules_of t ≡ r
event_rules n None r t h = h
event_rules n (Some event.Null) r t h = h
event_rules n (Some (event.Bool v)) r t h = h
event_rules n (Some (event.Int i)) r t h = h
event_rules n (Some (event.Text k)) r t h = h
event_rules n (Some (event.Part q)) r t h = part_rules (eqb n 0) n q.now r t h
event_rules n (Some event.TextEnd) r t h = h
event_rules n (Some (event.Open k m)) r t h = h
event_rules n (Some event.Close) r t h = h
event_rules n (Some event.Done) r t h = h

result_rules : (u : ℕ) (result : Result Step Fault) (r : Rules) (t : Place) → AreRules r (out_of_step u result t) → rules_of t ≡ r
result_rules u (Ok step) r t h = event_rules step.used step.event r t h
result_rules u (Err fault) r t h = h

-- a step leaves the rules as they were
pub rules_stay : (result : Result Step Fault) (s t : Place) (p : List ℕ) → IsSound s → out_of_step s.taken result t ≡ after_step (out_from s p) →
    rules_of t ≡ rules_of s
rules_stay result s t p sound h = result_rules s.taken result (rules_of s) t
    (subst (AreRules (rules_of s)) (sym h) (kept_rules s (out_from s p) (is_advanced s p sound)))

-- The calls' results.

-- bytes are numbers below 256
pub is_text : (p : List ℕ) → ((i : ℕ) → get_or p i 0 < 256) → IsText p
is_text [] h = tt
is_text (b ∷ bs) h = (h 0, is_text bs (λ i. h (suc i)))

-- the input may end exactly where the front is no begun value
pub finishes : (result : Result (Unit {0}) Fault) (s : Place) (front : List ℕ) (es : List e.Event) → IsSound s → OnOk result (end_cause s ≡ None) →
    IfErr result (λ fault. (end_cause s ≡ Some fault.cause) × (fault.at ≡ s.taken)) → HasRead s front es → IsOk result ↔ MayEnd (rules_of s) front
finishes (Ok x) s front es sound ok err w = (λ h. (end_told s front es sound w).1 ok, λ m. refl)
finishes (Err fault) s front es sound ok err w = (
  λ h. absurd (false≢true h),
  λ m. absurd (let z : None ≡ Some fault.cause = sym ((end_told s front es sound w).0 m) ∙ err.0 in cc),
)

-- the end of the input is refused as a truncation, after the last byte
pub truncated_at : (result : Result (Unit {0}) Fault) (s : Place) (front : List ℕ) (es : List e.Event) → IsSound s →
    IfErr result (λ fault. (end_cause s ≡ Some fault.cause) × (fault.at ≡ s.taken)) → HasRead s front es →
    IfErr result (λ fault. (fault.cause ≡ cause.Truncated) × (fault.at ≡ length front))
truncated_at (Ok x) s front es sound err w = tt
truncated_at (Err fault) s front es sound err w = ((end_told s front es sound w).2 fault.cause err.0, err.1 ∙ w.taken)

-- the version may change exactly where nothing of a value has come
pub may_change : (result : Result (Unit {0}) Busy) (s : Place) (front : List ℕ) (es : List e.Event) → IsSound s →
    (IsOk result ↔ ((s.token ≡ AtStart) × (s.frames ≡ []))) → HasRead s front es → IsOk result ↔ (front ≡ [])
may_change result s front es sound between w = (
  λ h. (between_values s front es sound w).0 (between.0 h),
  λ e. between.1 ((between_values s front es sound w).1 e),
)

-- a scanner whose version has changed has read nothing
pub changed : (result : Result (Unit {0}) Busy) (s t : Place) (version : Version) (front : List ℕ) (es : List e.Event) → IsSound s →
    (IsOk result ↔ ((s.token ≡ AtStart) × (s.frames ≡ []))) → OnOk result (t ≡ record s { version = version }) → HasRead s front es →
    OnOk result (HasRead t [] [])
changed (Ok x) s t version front es sound between is w =
    let h = between.0 refl in
    let none : s.taken ≡ 0 = w.taken ∙ ap length ((between_values s front es sound w).0 h) in
    subst (λ z. HasRead z [] []) (sym is) (follows_none (record s { version = version }) h.0 h.1 none)
changed (Err x) s t version front es sound between is w = tt

-- the events given are the first of those due
pub begin_due : (s : Place) (front : List ℕ) (es : List e.Event) → IsSound s → HasRead s front es → BeginDue front es
begin_due s front es sound w rest whole spells = (events_owed s, events_are_due s 0 front es sound w.stands rest whole spells)
