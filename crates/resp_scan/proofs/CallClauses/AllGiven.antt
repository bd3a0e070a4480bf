-- Where a byte is looked at all events due were given.
use Rattle.std.proofs.Common.{◌≡◌, ℕ, List, [], ◌++◌, refl, ap, ◌∙◌, append-nil}
use Rattle.resp_fronts.specs.Events as e
use Rattle.resp_scan.specs.declared.frame.Frame.{Frame}
use Rattle.resp_scan.specs.Machine.Tokens.{Place, Token, AtStart, AtEnd, AtBigDigit, AtTextEnd}
use Rattle.resp_scan.specs.Machine.Owed.{events_owed_at}
use Rattle.resp_scan.specs.Machine.Sound.{IsSoundBy}
use Rattle.resp_scan.specs.Machine.Standing.{StandsAfter}
use Rattle.resp_scan.specs.Reading.{AreDue}
use Rattle.resp_scan.proofs.TokenMoves.EachLeads.{IsLookedAt}
use Rattle.resp_scan.proofs.DueEvents.EventsDue.{events_are_due}

-- nothing is owed there
none_owed : (t : Token) (n : ℕ) (fs : List Frame) → IsLookedAt t n → events_owed_at t fs ≡ []
none_owed AtEnd n fs h = absurd (let e : AtEnd ≡ AtStart = (h refl).0 in cc)
none_owed AtTextEnd n fs h = absurd (let e : AtTextEnd ≡ AtStart = (h refl).0 in cc)
none_owed (AtBigDigit digit room) n fs h = absurd (let e : AtBigDigit digit room ≡ AtStart = (h refl).0 in cc)
none_owed token n fs h = refl

pub looked_on : (t : Token) (n : ℕ) → IsLookedAt t n → IsLookedAt t 0
looked_on t n h e = ((h e).0, refl)

-- and all events due were given
pub all_due : (t : Place) (n : ℕ) (front : List ℕ) (es : List e.Event) → IsSoundBy n t → IsLookedAt t.token n → StandsAfter t front es → AreDue front es
all_due t n front es sound looked w rest whole spells = events_are_due t n front es sound w rest whole spells ∙
    ap (λ z. es ++ z) (none_owed t.token n t.frames looked) ∙ append-nil es
