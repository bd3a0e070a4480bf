-- The events due where no value is begun: between values, within a close, and where a value has ended.
use Rattle.std.specs.Prelude.{false, cond, eqb}
use Rattle.std.proofs.lemmas.Bool.Decides.{nat_tests}
use Rattle.std.proofs.lemmas.Bool.{lt-ltb}
use Rattle.std.proofs.Common.{◌≡◌, inl, inr, ℕ, zero, suc, ◌+◌, ◌<◌, List, [], ◌∷◌, ◌++◌, length, refl, sym, ap, subst, ◌∙◌, arith, append_assoc, append-nil}
use Rattle.resp_value.specs.Rules.{Rules, WithinItems}
use Rattle.resp_value.specs.LocalRules.{LeafKeeps, NodeKeeps}
use Rattle.resp_value.specs.Trees.{Tree, IsTree, count, text}
use Rattle.resp_value.proofs.Unique.{unique}
use Rattle.resp_value.proofs.DefaultLimits.{text_at_least}
use Rattle.resp_fronts.specs.Frames as opened
use Rattle.resp_fronts.specs.Frames.{text_around}
use Rattle.resp_fronts.specs.Events as e
use Rattle.resp_fronts.specs.Events.{Event, Timed, all_events, events_due, events, events_around, without_places, last_of}
use Rattle.resp_fronts.proofs.Between.BetweenValues.{ready_open}
use Rattle.resp_fronts.proofs.EventLaws.EventPlaces.{events_within, within_wider}
use Rattle.resp_fronts.proofs.EventLaws.EventsDue.{AreFrom, due-append, due_all, due_none}
use Rattle.resp_fronts.specs.OpenLevels.{AreLevelsOf, AreReady, Level, so_far}
use Rattle.resp_scan.specs.declared.frame.Frame.{Frame}
use Rattle.resp_scan.specs.declared.frame.Shape.{Shape}
use Rattle.resp_scan.specs.declared.frame.Shape.TheVariants.{Left, Begun}
use Rattle.resp_scan.specs.Machine.Tokens.{Place, AtStart, AtEnd, AtTextEnd, token_at_boundary, token_in_shape}
use Rattle.resp_scan.specs.Kinds.{rules_of}
use Rattle.resp_scan.specs.Machine.Standing.{AwaitsMember, IsClosingIn, StandsAfterAt, busy_levels, waiting_levels}
use Rattle.resp_scan.specs.Machine.Owed.{events_owed_at_end, events_owed_in}
use Rattle.resp_scan.specs.Machine.Sound.{IsClosed}
use Rattle.resp_scan.proofs.TokenMoves.ClosesLead.{close_is_owed, is_streamed}
use Rattle.resp_scan.proofs.TokenMoves.BigNumbersLead.{text_end_is_owed}
use Rattle.resp_scan.proofs.DueEvents.FramesDue.{IsStop, frames_due}

-- in every tree that the front begins these are the events due by then
abbrev pub AreDue : List ℕ → List Event → Type 0
AreDue front es = (rest : List ℕ) (whole : Tree) → IsTree whole → text whole ≡ front ++ rest → events_due (length front) (all_events whole) ≡ es

-- no event comes before the first byte
from_first : (es : List Timed) → AreFrom 0 es
from_first [] = tt
from_first (x ∷ es) = (omega arith, from_first es)

-- a front is what frames have taken, and perhaps the begin of a close
taken_due : (g : opened.Frame) (gs : List opened.Frame) (last front : List ℕ) (es : List Event) (vs : List Level) (r : Rules) → AreLevelsOf vs (g ∷ gs) →
    AreReady (LeafKeeps r WithinItems) (NodeKeeps r WithinItems) (g ∷ gs) → length last < 3 → IsStop last → front ≡ text_around (g ∷ gs) last →
    es ≡ without_places (events_around (g ∷ gs)) → AreDue front es
taken_due g gs last front es vs r a o short stop e told rest whole is_tree spelled =
    ap (λ z. events_due (length z) (all_events whole)) e
    ∙ frames_due g gs last rest whole (ready_open (LeafKeeps r WithinItems) (NodeKeeps r WithinItems) vs (g ∷ gs) a o) short stop is_tree
    (spelled ∙ ap (λ z. z ++ rest) e)
    ∙ sym told

-- between values
pub between_due : (r : Rules) (fs : List Frame) (front : List ℕ) (es : List Event) → AwaitsMember r fs front es → AreDue front es
between_due r fs front es w = case w.frames w.of_levels w.ready w.whole w.told
  where
    case : (gs : List opened.Frame) → AreLevelsOf (waiting_levels fs) gs → AreReady (LeafKeeps r WithinItems) (NodeKeeps r WithinItems) gs →
        front ≡ text_around gs [] → es ≡ without_places (events_around gs) → AreDue front es
    case [] a o e told rest whole is_tree spelled = ap (λ z. events_due (length z) (all_events whole)) e ∙
        due_none 0 (all_events whole) (from_first (all_events whole)) ∙ sym told
    case (g ∷ gs) a o e told rest whole is_tree spelled = taken_due g gs [] front es (waiting_levels fs) r a o (omega arith) (inl refl) e told rest whole
        is_tree spelled

-- within the close of the innermost aggregate
pub closing_in_due : (r : Rules) (fs : List Frame) (last rest front : List ℕ) (es : List Event) → length last < 2 → IsClosingIn r fs (46 ∷ last) rest front es →
    AreDue front es
closing_in_due r [] last rest front es short w = absurd w
closing_in_due r (f ∷ fs) last rest front es short w =
    let vs : List Level = record { kind = w.frame.kind; shape = so_far (count w.frame.done) } ∷ busy_levels fs in
    taken_due w.frame w.outer (46 ∷ last) front es vs r (refl, (is_streamed w.frame.form 46 (last ++ rest) w.closes, refl), w.of_levels) w.ready
    (omega (arith, short)) (inr (last, refl)) w.whole w.told

-- a whole value at the top
whole_due : (whole : Tree) → events_due (length (text whole)) (all_events whole) ≡ without_places (events 0 whole) ++ e.Done ∷ []
whole_due whole =
    let n = length (text whole) in
    let last : last_of 0 (text whole) < n = omega (arith, text_at_least whole) in
    due-append n (events 0 whole) (record { at = last_of 0 (text whole); event = e.Done } ∷ [])
    ∙ ap (λ z. z ++ events_due n (record { at = last_of 0 (text whole); event = e.Done } ∷ []))
    (due_all 0 n (events 0 whole) (within_wider 0 (0 + n) 0 n (events 0 whole) (omega arith) (omega arith) (events_within 0 whole)))
    ∙ ap (λ z. without_places (events 0 whole) ++ z) (rw (lt-ltb (last_of 0 (text whole)) n last) refl)

ended_in : (s : Place) (f : Frame) (shape : Shape) (fs : List Frame) (front : List ℕ) (es : List Event) →
    ((es : List Event) → StandsAfterAt (rules_of s) (token_at_boundary fs) fs front es → AreDue front (es ++ events_owed_at_end fs)) →
    StandsAfterAt (rules_of s) (token_in_shape shape) (record f { shape = shape } ∷ fs) front es →
    AreDue front (es ++ events_owed_in shape (events_owed_at_end fs))
ended_in s f (Left zero) fs front es outer w rest whole is_tree spelled =
    outer (es ++ e.Close ∷ []) (close_is_owed s (record f { shape = Left 0 }) fs front es w) rest whole is_tree spelled ∙
    append_assoc es (e.Close ∷ []) (events_owed_at_end fs)
ended_in s f (Left (suc n)) fs front es outer w rest whole is_tree spelled =
    let some : eqb (suc n) 0 ≡ false = grind (arith, nat_tests) in
    let between : AwaitsMember (rules_of s) (record f { shape = Left (suc n) } ∷ fs) front es =
    subst (λ b. StandsAfterAt (rules_of s) (cond b AtEnd AtStart) (record f { shape = Left (suc n) } ∷ fs) front es) some w in
    between_due (rules_of s) (record f { shape = Left (suc n) } ∷ fs) front es between rest whole is_tree spelled
    ∙ sym (ap (λ b. es ++ cond b (e.Close ∷ events_owed_at_end fs) []) some ∙ append-nil es)
ended_in s f (Begun n) fs front es outer w rest whole is_tree spelled =
    between_due (rules_of s) (record f { shape = Begun n } ∷ fs) front es w rest whole is_tree spelled ∙ sym (append-nil es)

-- where a value has ended
pub ended_due : (s : Place) (fs : List Frame) (front : List ℕ) (es : List Event) → StandsAfterAt (rules_of s) (token_at_boundary fs) fs front es →
    AreDue front (es ++ events_owed_at_end fs)
ended_due s [] front es w rest whole is_tree spelled =
    let same : w.tree ≡ whole = (unique w.tree whole rest [] w.is_tree is_tree (ap (λ z. z ++ rest) (sym w.whole) ∙ sym spelled ∙
    sym (append-nil (text whole)))).0 in
    ap (λ z. events_due (length z) (all_events whole)) (w.whole ∙ ap text same)
    ∙ whole_due whole
    ∙ ap (λ z. z ++ e.Done ∷ []) (ap (λ z. without_places (events 0 z)) (sym same) ∙ sym w.told)
ended_due s (f ∷ fs) front es w rest whole is_tree spelled = ended_in s f f.shape fs front es (λ es. ended_due s fs front es) w rest whole is_tree spelled

-- the events due where a value has ended, as its token says
pub at_end_due : (s : Place) (fs : List Frame) (front : List ℕ) (es : List Event) → IsClosed fs → StandsAfterAt (rules_of s) AtEnd fs front es →
    AreDue front (es ++ events_owed_at_end fs)
at_end_due s [] front es closed w rest whole is_tree spelled = ended_due s [] front es w rest whole is_tree spelled
at_end_due s (f ∷ fs) front es closed w rest whole is_tree spelled =
    ended_due s (f ∷ fs) front es (subst (λ shape. StandsAfterAt (rules_of s) (token_in_shape shape) (f ∷ fs) front es) (sym closed) w) rest whole is_tree
    spelled

-- the events due where the end of a text is owed
pub text_end_due : (s : Place) (front : List ℕ) (es : List Event) → StandsAfterAt (rules_of s) AtTextEnd s.frames front es →
    AreDue front (es ++ e.TextEnd ∷ events_owed_at_end s.frames)
text_end_due s front es w rest whole is_tree spelled =
    ended_due s s.frames front (es ++ e.TextEnd ∷ []) (text_end_is_owed s front es w) rest whole is_tree spelled ∙
    append_assoc es (e.TextEnd ∷ []) (events_owed_at_end s.frames)
