-- What was given where a place stands: it leaves the frames open, has no Done, and is no more than the bytes taken.
use Rattle.std.proofs.Common.{◌≡◌, ℕ, ◌≤◌, List, [], ◌∷◌, ◌++◌, length, refl, sym, ap, subst, ◌∙◌, arith, append-nil, length-append, suc, ◌+◌}
use Rattle.resp_value.specs.Rules.{Rules}
use Rattle.resp_fronts.specs.Events.{Event, events_around, without_places}
use Rattle.resp_fronts.specs.Frames as opened
use Rattle.resp_fronts.specs.Frames.{text_around}
use Rattle.resp_fronts.proofs.FrameLaws.LevelsAlone.{same_length}
use Rattle.resp_fronts.proofs.EventLaws.EventsAround.{length-around}
use Rattle.resp_scan.specs.declared.frame.Frame.{Frame}
use Rattle.resp_scan.specs.Reading.{HasNoDone}
use Rattle.resp_scan.specs.Machine.Tokens.{Place, Token, AtStart, AtEnd, AtCloseCr, AtCloseLf}
use Rattle.resp_scan.specs.Kinds.{rules_of}
use Rattle.resp_scan.specs.Machine.Beginnings as b
use Rattle.resp_scan.specs.Machine.Standing.{AwaitsMember, IsBeingClosed, IsClosingIn, HasEnded, IsInside, StandsAfter, StandsAfterAt, busy_levels, waiting_levels}
use Rattle.resp_scan.proofs.DueEvents.FewEvents.{frames_few, tree_few}
use Rattle.resp_scan.proofs.TokenMoves.Moves.{at_level, length-busy}
use Rattle.resp_scan.proofs.DueEvents.Opens.{LeaveOpen, frames_open, open-append, tree_opens}
use Rattle.resp_scan.proofs.DueEvents.NoDone.{frames_no_done, no_done-append, tree_no_done}
use Rattle.resp_scan.proofs.DueEvents.Shown.{IsShown, is_shown}
use Rattle.resp_scan.proofs.TokenMoves.Begins.{length-waiting}
use Rattle.resp_scan.specs.Counts.{open_count, close_count}

-- what was given by these frames, of these bytes
abbrev AreGiven : List Frame → List ℕ → List Event → Type 0
AreGiven fs front es = LeaveOpen (length fs) es × (length es ≤ length front) × HasNoDone es

-- the events of frames
around_given : (fs : List Frame) (frames : List opened.Frame) (bytes front : List ℕ) (shown es : List Event) → length frames ≡ length fs → IsShown bytes shown →
    front ≡ text_around frames bytes → es ≡ without_places (events_around frames) ++ shown → AreGiven fs front es
around_given fs frames bytes front shown es same w whole told = (
  subst (LeaveOpen (length fs)) (sym told) (subst (λ n. LeaveOpen n (without_places (events_around frames) ++ shown)) (omega (arith, same))
      (open-append (length frames) 0 (without_places (events_around frames)) shown (frames_open frames) w.none_open)),
  omega (
    arith,
    ap length told,
    length-append (without_places (events_around frames)) shown,
    frames_few frames,
    w.few,
    ap length whole,
    length-around frames bytes,
  ),
  subst HasNoDone (sym told) (no_done-append (without_places (events_around frames)) shown (frames_no_done frames) w.no_done),
)

inside_given : (r : Rules) (token : Token) (fs : List Frame) (front : List ℕ) (es : List Event) → IsInside r (b.TokenHas r token) fs front es →
    AreGiven fs front es
inside_given r token fs front es w = around_given fs w.frames w.bytes front w.shown es (at_level w) (is_shown token r (length w.frames) w.bytes w.shown w.took)
    w.whole w.told

-- the events of frames alone, of bytes that are theirs, or more
frames_given : (fs : List Frame) (frames : List opened.Frame) (bytes front : List ℕ) (es : List Event) → length frames ≡ length fs →
    front ≡ text_around frames bytes → es ≡ without_places (events_around frames) → AreGiven fs front es
frames_given fs frames bytes front es same whole told = around_given fs frames bytes front [] es same
    (record { none_open = refl; no_done = tt; few = omega arith }) whole
    (told ∙ sym (append-nil (without_places (events_around frames))))

between_given : (r : Rules) (fs : List Frame) (front : List ℕ) (es : List Event) → AwaitsMember r fs front es → AreGiven fs front es
between_given r fs front es w = frames_given fs w.frames [] front es (sym (same_length (waiting_levels fs) w.frames w.of_levels) ∙ length-waiting fs) w.whole
    w.told

closing_given : (r : Rules) (f : Frame) (fs : List Frame) (last rest front : List ℕ) (es : List Event) → IsBeingClosed r f.kind fs last rest front es →
    AreGiven (f ∷ fs) front es
closing_given r f fs last rest front es w = frames_given (f ∷ fs) (w.frame ∷ w.outer) last front es
    (ap suc (sym (same_length (busy_levels fs) w.outer w.of_levels) ∙ length-busy fs)) w.whole w.told

closing_in_given : (r : Rules) (fs : List Frame) (last rest front : List ℕ) (es : List Event) → IsClosingIn r fs last rest front es → AreGiven fs front es
closing_in_given r [] last rest front es w = absurd w
closing_in_given r (f ∷ fs) last rest front es w = closing_given r f fs last rest front es w

ended_given : (r : Rules) (fs : List Frame) (front : List ℕ) (es : List Event) → HasEnded r fs front es → AreGiven fs front es
ended_given r [] front es w = (
  subst (LeaveOpen 0) (sym w.told) (tree_opens 0 w.tree),
  omega (arith, tree_few 0 w.tree, ap length w.told, ap length w.whole),
  subst HasNoDone (sym w.told) (tree_no_done 0 w.tree),
)
ended_given r (f ∷ fs) front es w = closing_given r f fs [] [] front es w

are_given : (r : Rules) (token : Token) (fs : List Frame) (front : List ℕ) (es : List Event) → StandsAfterAt r token fs front es → AreGiven fs front es
are_given r AtStart fs front es w = between_given r fs front es w
are_given r AtEnd fs front es w = ended_given r fs front es w
are_given r AtCloseCr fs front es w = closing_in_given r fs (46 ∷ []) (13 ∷ 10 ∷ []) front es w
are_given r AtCloseLf fs front es w = closing_in_given r fs (46 ∷ 13 ∷ []) (10 ∷ []) front es w
are_given r token fs front es w = inside_given r token fs front es w

-- in what was given, each aggregate that opened has closed but for the frames
pub opens_are_frames : (s : Place) (front : List ℕ) (es : List Event) → StandsAfter s front es → open_count es ≡ length s.frames + close_count es
opens_are_frames s front es w = (are_given (rules_of s) s.token s.frames front es w).0

-- no more events than bytes
pub events_are_few : (s : Place) (front : List ℕ) (es : List Event) → StandsAfter s front es → length es ≤ length front
events_are_few s front es w = (are_given (rules_of s) s.token s.frames front es w).1

-- no Done was given
pub no_done_given : (s : Place) (front : List ℕ) (es : List Event) → StandsAfter s front es → HasNoDone es
no_done_given s front es w = (are_given (rules_of s) s.token s.frames front es w).2
