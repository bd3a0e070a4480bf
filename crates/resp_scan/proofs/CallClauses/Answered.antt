-- What the machine answers from each token, in words of what has come.
use Rattle.std.specs.Prelude.{false, take, drop}
use Rattle.std.proofs.Common.{◌≡◌, ℕ, ◌-◌, ◌<◌, ◌≤◌, List, [], ◌∷◌, ◌++◌, length, refl, sym, ap, subst, ◌∙◌, arith, append-nil}
use Rattle.std.proofs.lemmas.Bool.{false≢true}
use Rattle.resp_value.specs.Bytes.{IsText}
use Rattle.resp_value.specs.Trees.{text}
use Rattle.resp_value.specs.Rules.{Rules}
use Rattle.resp_fronts.specs.Events.{without_places, events}
use Rattle.resp_fronts.specs.Events as e
use Rattle.resp_scan.specs.declared.frame.Frame.{Frame}
use Rattle.resp_scan.specs.Machine.Tokens as k
use Rattle.resp_scan.specs.Machine.Tokens.{Happening, Place, Token, at_boundary, at, AtStart, AtEnd, InLine, AtLineLf, AtIntSign, AtIntFirst, InInt, AtIntLf, AtBigSign, AtBigFirst, InBigZeros, AtBigZeroLf, AtBigDigit, InBig, AtTextEnd, AtNullOne, AtNullCr, AtNullLf, AtBool, AtBoolCr, AtBoolLf, AtBulkHead, AtArrayHead, AtHead, InHead, AtHeadLf, AtFormat, AtFormatSecond, AtFormatThird, AtFormatColon, InContent, AtContentCr, AtContentLf, AtStreamCr, AtStreamLf, AtChunk, InChunk, AtChunkCr, AtChunkLf, AtOpenCr, AtOpenLf, AtCloseCr, AtCloseLf, Dead}
use Rattle.resp_scan.specs.Machine.Scan.{Out, More, Gave, Part, Whole, Bad, out_from, out_from_token, out_at_end, scan}
use Rattle.resp_scan.specs.Kinds.{content_events, event_of, rules_of}
use Rattle.resp_scan.specs.Machine.Sound.{IsSound}
use Rattle.resp_scan.specs.Machine.Standing as f
use Rattle.resp_scan.specs.Machine.Standing.{AwaitsMember, HasCountsOf, HasEnded, StandsAfter, StandsAfterAt}
use Rattle.resp_scan.specs.Reading.{AreDue}
use Rattle.resp_scan.proofs.TokenMoves.EachLeads.{IsLookedAt}
use Rattle.resp_scan.proofs.CallClauses.Heard.{Came, RefusedAt, came_scan}
use Rattle.resp_scan.proofs.CallClauses.Fronts.{take-none}
use Rattle.resp_scan.proofs.TokenMoves.BigNumbersLead.{big_digit_is_owed, text_end_is_owed}
use Rattle.resp_scan.proofs.TokenMoves.ClosesLead.{close_is_owed}
use Rattle.resp_scan.proofs.Soundness.SoundMoves.{is_outside}

-- what the machine answers to a piece says of the front and the events, before the bytes of the piece are counted
abbrev pub Answered : Rules → List ℕ → List e.Event → List ℕ → Out → Type 0
Answered r front es p (More n t) = (n ≡ length p) × IsLookedAt t.token n × StandsAfter t (front ++ p) es
Answered r front es p (Gave n happening t) = (n ≤ length p) × StandsAfter t (front ++ take n p) (es ++ event_of happening ∷ []) ×
    (0 < n → AreDue (front ++ take (n - 1) p) es)
Answered r front es p (Part k n t) = (k < n) × (n ≤ length p) × StandsAfter t (front ++ take n p) (es ++ content_events (drop k (take n p))) ×
    AreDue (front ++ take k p) es
Answered r front es p (Whole t) = f.IsWholeValue r front es × StandsAfter t [] []
Answered r front es p (Bad n c t) = (n < length p) × (byte : ℕ) × (rest : List ℕ) × (p ≡ take n p ++ byte ∷ rest) × RefusedAt r (front ++ take n p) es byte n c

from_start : (r : Rules) (front : List ℕ) (es : List e.Event) (p : List ℕ) (o : Out) → Came r 0 front es p o → Answered r front es p o
from_start r front es p (More n t) h = (omega (arith, h.0), h.1, h.2)
from_start r front es p (Gave n x t) h =
    let z : n - 0 ≡ n = omega arith in
    let y : n - 1 - 0 ≡ n - 1 = omega arith in (
      omega (arith, h.1),
      subst (λ m. StandsAfter t (front ++ take m p) (es ++ event_of x ∷ [])) z h.2,
      λ some. subst (λ m. AreDue (front ++ take m p) es) y h.3,
    )
from_start r front es p (Part k n t) h =
    let z : n - 0 ≡ n = omega arith in
    let y : k - 0 ≡ k = omega arith in (
      h.1,
      omega (arith, h.2),
      subst (λ m. StandsAfter t (front ++ take n p) (es ++ content_events (drop m (take n p)))) y
          (subst (λ m. StandsAfter t (front ++ take m p) (es ++ content_events (drop (k - 0) (take m p)))) z h.3),
      subst (λ m. AreDue (front ++ take m p) es) y h.4,
    )
from_start r front es p (Whole t) h = absurd h
from_start r front es p (Bad n c t) (j, m, byte, rest, parts, w) =
    let z : n - 0 ≡ n = omega arith in
    (omega (arith, m), byte, rest, subst (λ x. p ≡ take x p ++ byte ∷ rest) z parts, subst (λ x. RefusedAt r (front ++ take x p) es byte n c) z w)

-- an event that is owed at no byte
gives_owed : (r : Rules) (front : List ℕ) (es : List e.Event) (p : List ℕ) (x : Happening) (t : Place) → StandsAfter t front (es ++ event_of x ∷ []) →
    Answered r front es p (Gave 0 x t)
gives_owed r front es p x t w = (
  omega arith,
  subst (λ z. StandsAfter t z (es ++ event_of x ∷ [])) (sym (ap (λ z. front ++ z) (take-none p) ∙ append-nil front)) w,
  λ some. absurd (omega (arith, some)),
)

at_top : (r : Rules) → AwaitsMember r [] [] []
at_top r = record { frames = []; begun = tt; of_levels = tt; ready = tt; whole = refl; told = refl }

closed : (s : Place) (fs : List Frame) (front : List ℕ) (es : List e.Event) (p : List ℕ) → HasEnded (rules_of s) fs front es →
    Answered (rules_of s) front es p (out_at_end (record s { token = AtEnd; frames = fs }) fs)
closed s [] front es p w = (w, at_top (rules_of s))
closed s (x ∷ fs) front es p w = gives_owed (rules_of s) front es p k.Close (at_boundary (record s { token = AtEnd; frames = fs }))
    (close_is_owed s x fs front es w)

scanned : (s : Place) (front : List ℕ) (es : List e.Event) (p : List ℕ) → IsText p → IsSound s → s.taken ≡ length front → StandsAfter s front es →
    IsLookedAt s.token 0 → Answered (rules_of s) front es p (scan 0 s p)
scanned s front es p text sound taken w looked = from_start (rules_of s) front es p (scan 0 s p)
    (came_scan (rules_of s) 0 s front es p text refl (record { sound = sound; taken = omega (arith, taken) }) looked w)

-- no byte is asked for at a token inside a value
pub inside : (t : Token) → is_outside t ≡ false → IsLookedAt t 0
inside t e h = absurd (false≢true (sym e ∙ h))

-- from every token
answered_at : (t : Token) (s : Place) (front : List ℕ) (es : List e.Event) (p : List ℕ) → IsText p → IsSound (at s t) → s.taken ≡ length front →
    StandsAfter (at s t) front es → Answered (rules_of s) front es p (out_from_token t (at s t) p)
answered_at AtEnd s front es p text sound taken w = closed s s.frames front es p w
answered_at AtTextEnd s front es p text sound taken w = gives_owed (rules_of s) front es p k.TextEnd (at_boundary s) (text_end_is_owed s front es w)
answered_at (AtBigDigit digit room) s front es p text sound taken w =
    gives_owed (rules_of s) front es p (k.Digit digit) (at s (InBig room)) (big_digit_is_owed s digit room front es w)
answered_at (Dead c) s front es p text sound taken w = absurd w.took
answered_at AtStart s front es p text sound taken w = scanned (at s AtStart) front es p text sound taken w (λ h. (refl, refl))
answered_at t s front es p text sound taken w = scanned (at s t) front es p text sound taken w (inside t refl)

-- the machine answers so from every place
pub answered : (s : Place) (front : List ℕ) (es : List e.Event) (p : List ℕ) → IsText p → IsSound s → s.taken ≡ length front → StandsAfter s front es →
    Answered (rules_of s) front es p (out_from s p)
answered s front es p text sound taken w = answered_at s.token s front es p text sound taken w
