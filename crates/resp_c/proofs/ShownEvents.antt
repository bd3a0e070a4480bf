-- What C is told of an event shows what the event shows.
use Rattle.std.proofs.Common.{◌≡◌, ℕ, List, [], ◌∷◌, ◌++◌, Some, refl, arith}
use Rattle.resp_fronts.specs.Events as e
use Rattle.resp_scan.specs.Kinds.{content_events}
use Rattle.resp_scan.specs.Listening.{whole_text_events}
use Rattle.resp_scan.specs.Reading.{events_of}
use Rattle.resp_scan.specs.declared.event.Event.{Event}
use Rattle.resp_scan.specs.declared.event.TextKind.{TextKind}
use Rattle.resp_c.specs.Pairs.{ValueLook, after_events, nested_by, refuses_by}
use Rattle.resp_c.specs.EventNumbers.{more_number}
use Rattle.resp_c.specs.Told.{Tells, TellsWhole}
use Rattle.resp_c.specs.declared.event.RespEvent.{RespEvent}

-- what numbers show of an event
abbrev pub shown : ValueLook → ℕ → ℕ → ValueLook
shown look kind form = record {
  nested = nested_by look.nested kind form;
  refuses = refuses_by look.nested look.refuses kind form;
}

content_shows : (look : ValueLook) (bytes : List ℕ) → after_events look (content_events bytes) ≡ look
content_shows look [] = refl
content_shows look (byte ∷ bytes) = content_shows look bytes

pub shown_by : (look : ValueLook) (out : RespEvent) (told : Event) → Tells out (Some told) →
    shown look out.kind out.form ≡ after_events look (events_of told)
shown_by look out told tells = grind (arith, content_shows)

-- no event shows nothing
pub none_shown_by : (look : ValueLook) (out : RespEvent) → out.kind ≡ more_number → shown look out.kind out.form ≡ look
none_shown_by look out none = grind arith

text_shows : (look : ValueLook) (bytes : List ℕ) → after_events look (content_events bytes ++ e.TextEnd ∷ []) ≡ look
text_shows look [] = refl
text_shows look (byte ∷ bytes) = text_shows look bytes

-- a text told with its end
pub whole_shown_by : (look : ValueLook) (out : RespEvent) (kind : TextKind) (bytes : List ℕ) → TellsWhole out kind bytes →
    shown look out.kind out.form ≡ after_events look (whole_text_events kind bytes)
whole_shown_by look out kind bytes tells = grind (arith, text_shows)
