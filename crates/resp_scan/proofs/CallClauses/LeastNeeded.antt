-- What a place needs is the least that completes what has come, and so what has come is viable.
use Rattle.std.proofs.Common.{◌≡◌, ℕ, ◌+◌, List, [], ◌∷◌, length, refl, sym, ap, subst, ◌∙◌, arith}
use Rattle.resp_value.specs.LocalRules.{LeafKeeps, NodeKeeps}
use Rattle.resp_value.specs.Rules.{Rules, WithinItems, WithinTotal}
use Rattle.resp_value.specs.Trees.{leaf, text}
use Rattle.resp_value.specs.declared.kind.OpenKind.{OpenKind}
use Rattle.resp_value.specs.Spellings.{IsViable}
use Rattle.resp_fronts.specs.Events.{Event}
use Rattle.resp_fronts.specs.Frames.{text_around}
use Rattle.resp_fronts.specs.LeastCompletions.{HasLeast, IsLeast}
use Rattle.resp_fronts.specs.MayFollow.{frames_needed}
use Rattle.resp_fronts.proofs.Between.BetweenValues.{between_least}
use Rattle.resp_fronts.proofs.FrameLaws.FrontLaws.{least_continues, viable_in_all}
use Rattle.resp_fronts.proofs.FrameLaws.KeptNodes.{shortest_keeps}
use Rattle.resp_fronts.proofs.FrameLaws.Levels.{levels_needed_is}
use Rattle.resp_fronts.proofs.Refusals.RefusedFronts.{CompletesFront}
use Rattle.resp_fronts.proofs.FrameLaws.WholeValues.{closing_least, whole_least}
use Rattle.resp_fronts.specs.Frames as opened
use Rattle.resp_fronts.specs.OpenLevels.{AreLevelsOf}
use Rattle.resp_scan.specs.declared.frame.Frame.{Frame}
use Rattle.resp_scan.specs.Machine.Tokens.{Token, Place, AtStart, AtEnd, AtTextEnd, AtCloseCr, AtCloseLf, at}
use Rattle.resp_scan.specs.Kinds.{rules_of}
use Rattle.resp_scan.specs.Machine.Beginnings as b
use Rattle.resp_scan.specs.Machine.Beginnings.{TextWhole}
use Rattle.resp_scan.specs.Machine.Standing.{AwaitsMember, IsBeingClosed, IsClosingIn, HasEnded, HaveBegun, IsInside, StandsAfterAt, IsWholeValue, busy_levels, waiting_levels, StandsAfter}
use Rattle.resp_scan.specs.Machine.Sound.{IsClosed, IsSoundBy, need_of_frame, need_of_frames, needed, start_needed, token_needed}
use Rattle.resp_scan.proofs.TokenMoves.Begins.{is_between}
use Rattle.resp_scan.proofs.TokenMoves.RefusedMoves.{frames_needed_is, inside_least, waiting_needed}
use Rattle.resp_scan.proofs.CallClauses.Rows.{tokens_need}

-- what completes a front by texts continues it
least_by_texts : (r : Rules) (front others : List ℕ) (m n : ℕ) → front ≡ others → m ≡ n → HasLeast (CompletesFront r WithinItems others) m → IsLeast r front n
least_by_texts r front others m n e i l = least_continues r WithinItems front n (omega arith)
    (subst (λ z. HasLeast (CompletesFront r WithinItems z) n) (sym e) (subst (HasLeast (CompletesFront r WithinItems others)) i l))

-- Between values.

between_is_least : (r : Rules) (fs : List Frame) (front : List ℕ) (es : List Event) → AwaitsMember r fs front es →
    IsLeast r front (start_needed fs + need_of_frames fs)
between_is_least r [] front es w = least_by_texts r front front _ 3 refl (omega arith) (between_least r [] front (is_between r [] front es w))
between_is_least r (f ∷ fs) front es w =
    least_by_texts r front front _ (0 + need_of_frames (f ∷ fs)) refl (omega (arith, waiting_needed f.kind f.shape, frames_needed_is fs w.begun))
    (between_least r (waiting_levels (f ∷ fs)) front (is_between r (f ∷ fs) front es w))

-- After a whole value.

frames_are : (fs : List Frame) (gs : List opened.Frame) → HaveBegun fs → AreLevelsOf (busy_levels fs) gs → frames_needed gs ≡ need_of_frames fs
frames_are fs gs h a = sym (levels_needed_is (busy_levels fs) gs a) ∙ frames_needed_is fs h

whole_is_least : (r : Rules) (front : List ℕ) (es : List Event) → IsWholeValue r front es → IsLeast r front 0
whole_is_least r front es w =
    least_by_texts r front (text w.tree) 0 0 w.whole refl (whole_least (LeafKeeps r WithinItems) (NodeKeeps r WithinItems) [] w.tree
    (shortest_keeps r WithinItems) tt w.is_tree w.keep)

text_end_is_least : (r : Rules) (fs : List Frame) (front : List ℕ) (es : List Event) → IsInside r (TextWhole r) fs front es →
    IsLeast r front (need_of_frames fs)
text_end_is_least r fs front es w =
    least_by_texts r front (text_around w.frames (text (leaf w.took.leaf))) (frames_needed w.frames) (need_of_frames fs)
    (w.whole ∙ ap (text_around w.frames) (sym w.took.whole)) (frames_are fs w.frames w.begun w.of_levels)
    (whole_least (LeafKeeps r WithinItems) (NodeKeeps r WithinItems) w.frames (leaf w.took.leaf) (shortest_keeps r WithinItems) w.can_end w.took.is_leaf
    w.took.keeps)

closing_is_least : (r : Rules) (k : OpenKind) (fs : List Frame) (last rest front : List ℕ) (es : List Event) → IsBeingClosed r k fs last rest front es →
    IsLeast r front (length rest + need_of_frames fs)
closing_is_least r k fs last rest front es w =
    least_by_texts r front (text_around (w.frame ∷ w.outer) last) (length rest + frames_needed w.outer) (length rest + need_of_frames fs) w.whole
    (ap (λ n. length rest + n) (frames_are fs w.outer w.begun w.of_levels))
    (closing_least (LeafKeeps r WithinItems) (NodeKeeps r WithinItems) (busy_levels fs) w.frame w.outer last rest (shortest_keeps r WithinItems) w.of_levels
    w.ready w.has_all w.closes)

-- a closed aggregate owes nothing more of its own
closed_owes : (f : Frame) (fs : List Frame) → IsClosed (f ∷ fs) → need_of_frames (f ∷ fs) ≡ need_of_frames fs
closed_owes f fs closed = let n : need_of_frame f.kind f.shape ≡ 0 = ap (need_of_frame f.kind) closed in omega (arith, n)

closing_in_is_least : (r : Rules) (fs : List Frame) (last rest front : List ℕ) (es : List Event) → IsClosed fs → IsClosingIn r fs last rest front es →
    IsLeast r front (length rest + need_of_frames fs)
closing_in_is_least r [] last rest front es closed w = absurd w
closing_in_is_least r (f ∷ fs) last rest front es closed w = subst (λ n. IsLeast r front (length rest + n)) (sym (closed_owes f fs closed))
    (closing_is_least r f.kind fs last rest front es w)

ended_is_least : (r : Rules) (fs : List Frame) (front : List ℕ) (es : List Event) → IsClosed fs → HasEnded r fs front es → IsLeast r front (need_of_frames fs)
ended_is_least r [] front es closed w = whole_is_least r front es w
ended_is_least r (f ∷ fs) front es closed w = subst (IsLeast r front) (omega (arith, closed_owes f fs closed)) (closing_is_least r f.kind fs [] [] front es w)

-- Tokens.

-- the token's part, where it needs nothing
no_more : (r : Rules) (front : List ℕ) (n : ℕ) → IsLeast r front n → IsLeast r front (0 + n)
no_more r front n w = subst (IsLeast r front) (omega arith) w

least_at : (s : Place) (token : Token) (used : ℕ) (front : List ℕ) (es : List Event) → IsSoundBy used (at s token) →
    StandsAfterAt (rules_of s) token s.frames front es → IsLeast (rules_of s) front (token_needed token s.bounds.depth s.frames + need_of_frames s.frames)
least_at s AtStart used front es c w = between_is_least (rules_of s) s.frames front es w
least_at s AtEnd used front es c w = no_more (rules_of s) front (need_of_frames s.frames) (ended_is_least (rules_of s) s.frames front es c.token w)
least_at s AtTextEnd used front es c w = no_more (rules_of s) front (need_of_frames s.frames) (text_end_is_least (rules_of s) s.frames front es w)
least_at s AtCloseCr used front es c w = closing_in_is_least (rules_of s) s.frames (46 ∷ []) (13 ∷ 10 ∷ []) front es c.token w
least_at s AtCloseLf used front es c w = closing_in_is_least (rules_of s) s.frames (46 ∷ 13 ∷ []) (10 ∷ []) front es c.token w
least_at s token used front es c w = inside_least (rules_of s) (b.TokenHas (rules_of s) token) s.frames front es (token_needed token s.bounds.depth s.frames) w
    (λ level bytes shown i t. tokens_need (at s token) used level bytes shown c (λ e. cc) i t)

-- where a place stands, it needs the least that completes the front
pub least_is_needed : (s : Place) (used : ℕ) (front : List ℕ) (es : List Event) → IsSoundBy used s → StandsAfter s front es →
    IsLeast (rules_of s) front (needed s)
least_is_needed s used front es c w = subst (λ n. IsLeast (rules_of s) front (token_needed s.token s.bounds.depth s.frames + n)) (sym c.frames_need)
    (least_at s s.token used front es c w)

-- the front of a place begins a spelling within every rule
pub followed_is_viable : (s : Place) (used : ℕ) (front : List ℕ) (es : List Event) → IsSoundBy used s → length front ≡ s.taken + used → StandsAfter s front es →
    IsViable (rules_of s) WithinTotal front
followed_is_viable s used front es c taken w = (viable_in_all (rules_of s) front (needed s) (least_is_needed s used front es c w)).1
    (omega (arith, c.total, taken))
