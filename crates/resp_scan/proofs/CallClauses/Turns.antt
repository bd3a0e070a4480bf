-- One turn of the loop over a piece.
use Rattle.std.specs.Prelude.{Bool, true, false, take, drop, MatchBool}
use Rattle.std.proofs.Common.{◌≡◌, ℕ, ◌≤◌, List, [], ◌∷◌, ◌++◌, length, sym, ap, subst, ◌∙◌, arith, append_assoc}
use Rattle.resp_value.specs.Bytes.{IsText}
use Rattle.resp_value.specs.Rules.{WithinTotal}
use Rattle.resp_value.specs.Spellings.{IsViable}
use Rattle.resp_scan.specs.declared.event.Fault.{Fault}
use Rattle.resp_scan.specs.declared.listen.Turn.TheVariants as turn
use Rattle.resp_scan.specs.Counts.{begin_count}
use Rattle.resp_scan.specs.Kinds.{content_events, event_of, rules_of}
use Rattle.resp_scan.specs.Reading.{BeginDue, Events, HasRead, IsFaulted}
use Rattle.resp_scan.specs.Listening.{MayBeGiven, StopsWithin}
use Rattle.resp_scan.specs.Machine.Tokens.{Place}
use Rattle.resp_scan.specs.Machine.Owed.{events_owed}
use Rattle.resp_scan.specs.Machine.Scan.{Out, More, Gave, Part, Whole, Bad, out_from, out_from_token}
use Rattle.resp_scan.specs.Machine.Sound.{IsSound}
use Rattle.resp_scan.specs.Machine.StepOutcomes.{after_bytes, after_step}
use Rattle.resp_scan.specs.Machine.Turns.{OutcomeOfTurn, turn_of}
use Rattle.resp_scan.proofs.CallClauses.Answered.{answered}
use Rattle.resp_scan.proofs.CallClauses.Begins.{begins-append, owed_begins}
use Rattle.resp_scan.proofs.CallClauses.Calls.{begin_due}
use Rattle.resp_scan.proofs.CallClauses.LeastNeeded.{followed_is_viable}
use Rattle.resp_scan.proofs.CallClauses.Steps.{Shown, shown, follows}
use Rattle.resp_scan.proofs.DueEvents.EventsDue.{events_are_due}
use Rattle.resp_scan.proofs.DueEvents.GivenCounts.{events_are_few, opens_are_frames}
use Rattle.resp_scan.proofs.Soundness.Kept.{is_advanced}

-- What a sound place has read is viable.
pub read_is_viable : (s : Place) (front : List ℕ) (given : Events) → IsSound s → HasRead s front given → IsViable (rules_of s) WithinTotal front
read_is_viable s front given sound w = followed_is_viable s 0 front given sound (omega (arith, w.taken)) w.stands

-- What it has given may be given.
pub may_be : (s : Place) (front : List ℕ) (given : Events) → IsSound s → HasRead s front given → MayBeGiven given
may_be s front given sound w = record {
  rules = rules_of s;
  front = front;
  limits_in_range = sound.bounds;
  viable = read_is_viable s front given sound w;
  first_due = begin_due s front given sound w;
  few = omega (arith, events_are_few s front given w.stands, w.taken, sound.total);
  opened = omega (arith, opens_are_frames s front given w.stands);
  nested = omega (arith, opens_are_frames s front given w.stands, sound.nested);
}

-- the first events of those that are the first due
begin_fewer : (front : List ℕ) (given more : Events) → BeginDue front (given ++ more) → BeginDue front given
begin_fewer front given more due rest whole spells = let d = due rest whole spells in (more ++ d.0, d.1 ∙ append_assoc given more d.0)

-- A listener that was told more events goes on, or stops where it may.
pub turn_told : (s t : Place) (HasHeard HasStopped : Events → Type 0) (front : List ℕ) (given : Events) (p : List ℕ) (n : ℕ) (more : Events) (goes_on : Bool) →
    IsSound t → rules_of t ≡ rules_of s → begin_count more ≤ 1 → HasRead t (front ++ take n p) (given ++ more) →
    (MayBeGiven (given ++ more) → MatchBool goes_on (HasHeard (given ++ more)) (StopsWithin HasStopped given more)) →
    OutcomeOfTurn s t HasHeard HasStopped front given p n (turn_of goes_on)
turn_told s t HasHeard HasStopped front given p n more goes_on sound rules few w hears =
    by_answer goes_on (hears (may_be t (front ++ take n p) (given ++ more) sound w))
  where
    by_answer : (x : Bool) → MatchBool x (HasHeard (given ++ more)) (StopsWithin HasStopped given more) →
        OutcomeOfTurn s t HasHeard HasStopped front given p n (turn_of x)
    by_answer true h = record { told = more; reads = w; heard = h }
    by_answer false h = record {
      told = given ++ h.told;
      has_stopped = h.has_stopped;
      first_due = begin_fewer (front ++ take n p) (given ++ h.told) h.later
          (subst (BeginDue (front ++ take n p)) (ap (λ z. given ++ z) h.parts ∙ sym (append_assoc given h.told h.later))
          (begin_due t (front ++ take n p) (given ++ more) sound w));
      later = h.later ++ events_owed t;
      all_due = λ rest whole spells. events_are_due t 0 (front ++ take n p) (given ++ more) sound w.stands rest whole spells ∙
          ap (λ z. (given ++ z) ++ events_owed t) h.parts ∙ ap (λ z. z ++ events_owed t) (sym (append_assoc given h.told h.later)) ∙
          append_assoc (given ++ h.told) h.later (events_owed t);
      begins_one = omega (arith, few, ap begin_count h.parts, begins-append h.told h.later, begins-append h.later (events_owed t), owed_begins t);
      viable = subst (λ r. IsViable r WithinTotal (front ++ take n p)) rules (read_is_viable t (front ++ take n p) (given ++ more) sound w);
      taken = w.taken;
    }

-- The answer's bytes counted, what was read is more by what it tells.
abbrev ReadsOn : Place → List ℕ → Events → List ℕ → Out → Type 0
ReadsOn s front given p (Gave n x t) = HasRead (after_bytes n t) (front ++ take n p) (given ++ event_of x ∷ [])
ReadsOn s front given p (Part k n t) = HasRead (after_bytes n t) (front ++ take n p) (given ++ content_events (drop k (take n p)))
ReadsOn s front given p _ = Unit {0}

reads_on : (s : Place) (front : List ℕ) (given : Events) (p : List ℕ) (o : Out) → s.taken ≡ length front → Shown s front given p (after_step o) →
    ReadsOn s front given p o
reads_on s front given p (Gave n x t) taken h = follows s (after_bytes n t) front (given ++ event_of x ∷ []) p n taken h.0 h.1 h.2
reads_on s front given p (Part k n t) taken h =
    follows s (after_bytes n t) front (given ++ content_events (drop k (take n p))) p n taken h.1 h.2 h.3
reads_on s front given p (More n t) taken h = tt
reads_on s front given p (Whole t) taken h = tt
reads_on s front given p (Bad n c t) taken h = tt

-- what the machine answers, in words of what was read
pub shows : (s : Place) (front : List ℕ) (given : Events) (p : List ℕ) (o : Out) → IsText p → IsSound s → o ≡ out_from s p → HasRead s front given →
    Shown s front given p (after_step o)
shows s front given p o text sound is w = subst (λ x. Shown s front given p (after_step x)) (sym is)
    (shown s front given p (out_from s p) (is_advanced s p sound) (answered s front given p text sound w.taken w.stands))

pub reads_more : (s : Place) (front : List ℕ) (given : Events) (p : List ℕ) (o : Out) → IsText p → IsSound s → o ≡ out_from s p → HasRead s front given →
    ReadsOn s front given p o
reads_more s front given p o text sound is w = reads_on s front given p o w.taken (shows s front given p o text sound is w)

-- A listener's answer doesn't end the piece.
pub not_more : (goes_on : Bool) → turn_of goes_on ≡ turn.More → ⊥
not_more true e = absurd (cc)
not_more false e = absurd (cc)

-- nor does it reject a byte
pub not_failed : (goes_on : Bool) → turn_of goes_on ≡ turn.Failed → ⊥
not_failed true e = absurd (cc)
not_failed false e = absurd (cc)

-- A place of a refused byte answers the refusal.
pub from_dead : (s : Place) (p : List ℕ) (fault : Fault) → IsFaulted s fault → out_from s p ≡ Bad 0 fault.cause s
from_dead s p fault f = ap (λ t. out_from_token t s p) f.0
