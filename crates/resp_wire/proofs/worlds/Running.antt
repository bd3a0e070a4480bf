-- Events of a world one after another.
use Rattle.std.proofs.Common.{◌≡◌, inl, inr, ℕ, zero, suc, ◌+◌, ◌<◌, None, Some, Option, IfSome, List, [], ◌∷◌, ◌++◌, length, map, take, slice_get, slice_index_or, refl, sym, ap, subst, ◌∙◌, arith, Result, Ok, Err}
use Rattle.resp_value.specs.declared.cause.Cause.{Cause}
use Rattle.resp_session.specs.Runs.{Run}
use Rattle.resp_session.specs.Worlds.{WorldEvent}
use Rattle.resp_wire.specs.Happening.{Fails, Happens, RunsTo}
use Rattle.resp_wire.specs.Worlds.{HasFailedIn, KeepFailures, StopsBy, WorldState, event_of, outcome_of}
use Rattle.resp_wire.specs.declared.event.Event.{Event}
use Rattle.resp_wire.specs.declared.event.Outcome.{Outcome}
use Rattle.resp_wire.specs.declared.event.Stop.{Stop}
use Rattle.resp_wire.proofs.worlds.Frames.{run_on}
use Rattle.resp_wire.proofs.worlds.Parts.{index_there}

-- no event leaves a world as it is
pub runs_none : {L : Type 0} (is_honest : L → Type 0) (s : WorldState L) → RunsTo is_honest s s []
runs_none {L} is_honest s limits w shown = (w, refl, shown)

one_taken : {X : Type 0} (xs : List X) (k : ℕ) (x : X) → slice_get xs k ≡ Some x → take (suc k) xs ≡ take k xs ++ x ∷ []
one_taken {X} [] k x e = absurd (cc)
one_taken {X} (y ∷ ys) zero x e = let same : y ≡ x = cc in ap (λ z. z ∷ []) same
one_taken {X} (y ∷ ys) (suc k) x e = ap (λ l. y ∷ l) (one_taken ys k x e)

pub take_one_more : {X : Type 0} (xs : List X) (k : ℕ) (x : X) → slice_get xs k ≡ Some x → take (k + 1) xs ≡ take k xs ++ x ∷ []
take_one_more {X} xs k x e = let next : k + 1 ≡ suc k = omega arith in ap (λ n. take n xs) next ∙ one_taken xs k x e

pub take_each : {X : Type 0} (xs : List X) → take (length xs) xs ≡ xs
take_each {X} [] = refl
take_each {X} (x ∷ xs) = ap (λ l. x ∷ l) (take_each xs)

-- one more event happens
pub runs_one_more : {L : Type 0} (is_honest : L → Type 0) (a b c : WorldState L) (events : List WorldEvent) (k : ℕ) (event : WorldEvent)
    (outcome : Outcome) → RunsTo is_honest a b (take k events) → slice_get events k ≡ Some event → Happens is_honest b c event outcome →
    RunsTo is_honest a c (take (k + 1) events)
runs_one_more {L} is_honest a b c events k event outcome before here happens limits w shown =
    let (mid, run, mid_shown) = before limits w shown in
    let (next, step, next_shown) = happens limits mid mid_shown in (
      next,
      subst (λ l. Run limits w l next) (sym (take_one_more events k event here))
          (run_on limits w mid next (take k events) event (outcome_of outcome) run step),
      next_shown,
    )

-- where a link failed after events at which none did, it failed in the run
pub fails_in_run : {L : Type 0} (is_honest : L → Type 0) (failures : L → ℕ) (old between new : WorldState L) (events : List WorldEvent) (cause : Cause) →
    RunsTo is_honest old between events → KeepFailures failures old.links between.links → Fails is_honest failures between new cause →
    Fails is_honest failures old new cause
fails_in_run {L} is_honest failures old between new events cause runs keep fails limits w shown =
    let (next, run, next_shown) = runs limits w shown in
    elim (fails limits next next_shown) as (λ _. StopsBy failures old.links new.links cause) [
      | inl memory ↦ inl memory
      | inr failed ↦ inr (subst (λ l. HasFailedIn l (map failures new.links)) keep failed.0, failed.1)
    ]

-- an event was taken
abbrev pub taken : Outcome → Result Outcome Stop
taken outcome = Ok outcome

-- an event stopped
abbrev pub stops : Stop → Result Outcome Stop
stops stop = Err stop

-- a run stopped
abbrev pub run_stops : Stop → Result (Unit {0}) Stop
run_stops stop = Err stop

-- a world that took an event had not stopped
pub was_going : (o : Option Cause) (outcome : Outcome) → IfSome o (λ cause. taken outcome ≡ Err (record { event = 0; cause = cause })) → o ≡ None
was_going None outcome e = refl
was_going (Some cause) outcome e = absurd (cc)

pub stopped_at_once : (o now : Option Cause) (k : ℕ) (stop : Stop) → now ≡ o → (0 < k → o ≡ None) →
    IfSome now (λ cause. stops stop ≡ Err (record { event = 0; cause = cause })) →
    IfSome o (λ cause. (k ≡ 0) × (stop.cause ≡ cause))
stopped_at_once None now k stop same going e = tt
stopped_at_once (Some cause) None k stop same going e = absurd (cc)
stopped_at_once (Some cause) (Some other) zero stop same going e =
    let was : other ≡ cause = cc in
    let is : stop ≡ record { event = 0; cause = other } = cc in
    (refl, ap (λ (s : Stop). s.cause) is ∙ was)
stopped_at_once (Some cause) (Some other) (suc k) stop same going e = let never : Some cause ≡ None = going (omega arith) in absurd (cc)

-- a world that had stopped stops again at the first of some events
pub stops_again : (o now : Option Cause) (k : ℕ) (stop : Stop) → now ≡ o → (0 < k → o ≡ None) →
    IfSome now (λ cause. stops stop ≡ Err (record { event = 0; cause = cause })) → (some : Type 0) →
    IfSome o (λ cause. some → run_stops (record { event = k; cause = stop.cause }) ≡ Err (record { event = 0; cause = cause }))
stops_again None now k stop same going e some = tt
stops_again (Some cause) now k stop same going e some = λ _.
    let (first, its) = stopped_at_once (Some cause) now k stop same going e in
    ap (λ n. run_stops (record { event = n; cause = stop.cause })) first ∙ ap (λ c. run_stops (record { event = 0; cause = c })) its

-- and takes none of them
pub takes_none : (o : Option Cause) (answer : Result (Unit {0}) Stop) (count : ℕ) → (0 < count → o ≡ None) →
    IfSome o (λ cause. 0 < count → answer ≡ Err (record { event = 0; cause = cause }))
takes_none None answer count going = tt
takes_none (Some cause) answer count going = λ some. let never : Some cause ≡ None = going some in absurd (cc)

as_many : (events : List Event) → length (map event_of events) ≡ length events
as_many [] = refl
as_many (e ∷ events) = ap suc (as_many events)

-- an index is one of an event
pub among : (events : List Event) (k : ℕ) → k < length events → k < length (map event_of events)
among events k within = let same = as_many events in omega (arith, within, same)

of_each : (events : List Event) (k : ℕ) (event : Event) → slice_get events k ≡ Some event → slice_get (map event_of events) k ≡ Some (event_of event)
of_each [] k event here = absurd (cc)
of_each (e ∷ events) zero event here = let same : e ≡ event = cc in ap (λ x. Some (event_of x)) same
of_each (e ∷ events) (suc k) event here = of_each events k event here

-- the event of an index
pub event_there : (events : List Event) (k : ℕ) (event : Event) → k < length events → event ≡ slice_index_or events k event →
    slice_get (map event_of events) k ≡ Some (event_of event)
event_there events k event within is = of_each events k event (index_there events k event within ∙ ap Some (sym is))

-- the events up to the last are all
pub up_to_last : (events : List Event) (k : ℕ) → k ≡ length events → take k (map event_of events) ≡ map event_of events
up_to_last events k is = ap (λ n. take n (map event_of events)) (is ∙ sym (as_many events)) ∙ take_each (map event_of events)
