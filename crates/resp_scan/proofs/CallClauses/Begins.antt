-- The values that begin in the events of one call, and in those that are due without a further byte.
use Rattle.std.specs.Prelude.{Bool, true, false, cond, eqb}
use Rattle.std.proofs.Common.{◌≡◌, ◌≤◌, ◌+◌, ℕ, List, [], ◌∷◌, ◌++◌, refl, arith}
use Rattle.resp_fronts.specs.Events as e
use Rattle.resp_fronts.specs.Events.{Event}
use Rattle.resp_scan.specs.Counts.{begin_count}
use Rattle.resp_scan.specs.Kinds.{content_events}
use Rattle.resp_scan.specs.Listening.{whole_text_events}
use Rattle.resp_scan.specs.Machine.Owed.{events_owed, events_owed_at, events_owed_at_end, events_owed_in}
use Rattle.resp_scan.specs.Machine.Tokens.{Place, Token, AtEnd, AtBigDigit, AtTextEnd}
use Rattle.resp_scan.specs.declared.event.TextKind.{TextKind}
use Rattle.resp_scan.specs.declared.frame.Frame.{Frame}
use Rattle.resp_scan.specs.declared.frame.Shape.{Shape}
use Rattle.resp_scan.specs.declared.frame.Shape.TheVariants.{Left, Begun}

pub begins-append : (a b : List Event) → begin_count (a ++ b) ≡ begin_count a + begin_count b
begins-append [] b = omega arith
begins-append (x ∷ a) b = omega (arith, begins-append a b)

pub content_begins : (bytes : List ℕ) → begin_count (content_events bytes) ≡ 0
content_begins [] = refl
content_begins (b ∷ bytes) = omega (arith, content_begins bytes)

pub whole_text_begins : (kind : TextKind) (bytes : List ℕ) → begin_count (whole_text_events kind bytes) ≤ 1
whole_text_begins kind bytes = omega (arith, begins-append (content_events bytes) (e.TextEnd ∷ []), content_begins bytes)

by_members : (none : Bool) (outer : List Event) → begin_count outer ≡ 0 → begin_count (cond none (e.Close ∷ outer) []) ≡ 0
by_members true outer h = omega (arith, h)
by_members false outer h = refl

by_shape : (s : Shape) (outer : List Event) → begin_count outer ≡ 0 → begin_count (events_owed_in s outer) ≡ 0
by_shape (Left n) outer h = by_members (eqb n 0) outer h
by_shape (Begun n) outer h = refl

at_end : (fs : List Frame) → begin_count (events_owed_at_end fs) ≡ 0
at_end [] = refl
at_end (f ∷ fs) = by_shape f.shape (events_owed_at_end fs) (at_end fs)

by_token : (t : Token) (fs : List Frame) → begin_count (events_owed_at t fs) ≡ 0
by_token AtEnd fs = at_end fs
by_token AtTextEnd fs = omega (arith, at_end fs)
by_token (AtBigDigit digit room) fs = refl
by_token token fs = refl

-- no value begins in the events that are due without a further byte
pub owed_begins : (s : Place) → begin_count (events_owed s) ≡ 0
owed_begins s = by_token s.token s.frames
