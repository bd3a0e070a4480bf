-- One turn of the machine: the event or the text that it passes, in words of texts and trees.
use Rattle.std.specs.Prelude.{Bool, true, false, take, eqb, Option, None, Some, Result, Ok, Err}
use Rattle.std.proofs.Common.{◌≡◌, inl, inr, ℕ, ◌+◌, ◌-◌, ◌<◌, ◌≤◌, List, ◌++◌, length, refl, sym, ap, subst, ◌∙◌, arith}
use Rattle.resp_value.specs.Bytes.{IsText}
use Rattle.resp_value.specs.declared.cause.Cause.{Cause}
use Rattle.resp_scan.specs.declared.event.Event.{Event}
use Rattle.resp_scan.specs.declared.event.Event.TheVariants as event
use Rattle.resp_scan.specs.declared.event.Fault.{Fault}
use Rattle.resp_scan.specs.declared.event.Step.{Step}
use Rattle.resp_scan.specs.declared.event.TextKind.{TextKind}
use Rattle.resp_scan.specs.declared.machine.EventTag.{EventTag}
use Rattle.resp_scan.specs.declared.machine.EventTag.TheVariants as tag
use Rattle.resp_scan.specs.declared.machine.Machine.{Machine}
use Rattle.resp_scan.specs.declared.machine.Advance.{Advance}
use Rattle.resp_scan.specs.declared.listen.Turn.TheVariants as turn
use Rattle.resp_scan.specs.declared.listen.Turned.{Turned}
use Rattle.resp_scan.specs.Counts.{begin_count}
use Rattle.resp_scan.specs.Listening.{Hears, IsTextOf, whole_text_events}
use Rattle.resp_scan.specs.Machine.Fields.{out_by, out_of, place_of}
use Rattle.resp_scan.specs.Machine.Owed.{events_owed}
use Rattle.resp_scan.specs.Machine.Passing.{HearsEvent, HearsStep, Passes, StepAnswers, TellsText, TurnsBy, gives}
use Rattle.resp_scan.specs.Machine.Scan.{Out, More, Gave, Part, Whole, Bad, out_from}
use Rattle.resp_scan.specs.Machine.Sound.{IsSound}
use Rattle.resp_scan.specs.Machine.StepOutcomes.{after_bytes, after_step, out_of_event, out_of_part}
use Rattle.resp_scan.specs.Machine.Tokens.{Dead, Place}
use Rattle.resp_scan.specs.Machine.Turns.{IsTurn, turn_of}
use Rattle.resp_scan.specs.Parts.{IsPartOf}
use Rattle.resp_scan.specs.Reading.{Events, HasRead, IsFaulted, OnOtherEvent, events_of}
use Rattle.resp_scan.specs.Slots.{Steps}
use Rattle.resp_scan.proofs.CallClauses.Begins.{content_begins, whole_text_begins}
use Rattle.resp_scan.proofs.CallClauses.Calls.{rules_stay}
use Rattle.resp_scan.proofs.CallClauses.Faults.{is_faulted}
use Rattle.resp_scan.proofs.CallClauses.Nearer.{IsNearer, is_nearer}
use Rattle.resp_scan.proofs.CallClauses.Steps.{clauses, stepped_is}
use Rattle.resp_scan.proofs.CallClauses.Told.{done_heard, told}
use Rattle.resp_scan.proofs.CallClauses.Turns.{from_dead, not_failed, not_more, turn_told}
use Rattle.resp_scan.proofs.Soundness.Counted.{IsCounted, counted_out, place_counted, sound_heard}
use Rattle.resp_scan.proofs.Soundness.Kept.{is_advanced}
use Rattle.resp_scan.proofs.Soundness.Pieces.{Takes, done_none, failed_is, said_kept, used_within}

-- An answer of the machine is a step.

-- a faulted place answers its fault
not_bad : (n : ℕ) (x : Option Event) (t : Place) {k : ℕ} {c : Cause} {u : Place} → out_of_event n x t ≡ Bad k c u → ⊥
not_bad n None t e = absurd (cc)
not_bad n (Some event.Null) t e = absurd (cc)
not_bad n (Some (event.Bool v)) t e = absurd (cc)
not_bad n (Some (event.Int i)) t e = absurd (cc)
not_bad n (Some (event.Text k)) t e = absurd (cc)
not_bad n (Some (event.Part q)) t {k = k} {c = c} {u = u} e = by_bytes (eqb n 0) e
  where
    by_bytes : (b : Bool) → out_of_part b n q.now t ≡ Bad k c u → ⊥
    by_bytes true e = absurd (cc)
    by_bytes false e = absurd (cc)
not_bad n (Some event.TextEnd) t e = absurd (cc)
not_bad n (Some (event.Open k m)) t e = absurd (cc)
not_bad n (Some event.Close) t e = absurd (cc)
not_bad n (Some event.Done) t e = absurd (cc)

fault_again : (result : Result Step Fault) (s : Place) (m : Machine) (p : List ℕ) (fault : Fault) → StepAnswers s m p result → IsFaulted s fault →
    (result ≡ Err fault) × (place_of m ≡ s)
fault_again (Ok step) s m p fault h f =
    absurd (not_bad step.used step.event (place_of m) (h.heard ∙ ap after_step (from_dead s p fault f)))
fault_again (Err other) s m p fault h f =
    let same : Bad (other.at - s.taken) other.cause (place_of m) ≡ Bad 0 fault.cause (after_bytes 0 s) = h.heard ∙ ap after_step (from_dead s p fault f) in
    let cause : other.cause ≡ fault.cause = cc in
    let there : place_of m ≡ s = (let z : place_of m ≡ after_bytes 0 s = cc in z) ∙
    ap (λ k. record s { taken = k }) (let z : s.taken + 0 ≡ s.taken = omega arith in z) in
    let at : other.at ≡ fault.at = h.counted ∙ ap (λ x. x.taken) there ∙ f.1 in
    (ap (λ x. Err (record { cause = x; at = other.at })) cause ∙ ap (λ n. Err (record { cause = fault.cause; at = n })) at, there)

pub steps_are : (result : Result Step Fault) (s : Place) (m : Machine) (p : List ℕ) → IsText p → IsSound s → StepAnswers s m p result →
    Steps s (place_of m) p result
steps_are result s m p text sound h =
    let is = λ (front : List ℕ) (es : Events) (w : HasRead s front es).
    clauses result s (place_of m) front es p (stepped_is result s (place_of m) front es p text sound h.heard h.lent h.counted w) in
    record {
      no_event = λ front es w. (is front es w).0;
      value_whole = λ front es w. (is front es w).1;
      another_event = λ front es w. (is front es w).2;
      in_time = λ front es w. (is front es w).3;
      refusal = λ front es w. (is front es w).4;
      within_piece = h.within;
      part_of_piece = h.lent;
      same_rules = rules_stay result s (place_of m) p sound h.heard;
      fault_is_kept = is_faulted result s (place_of m) p sound h.heard h.counted;
      fault_is_final = λ fault f. fault_again result s m p fault h f;
    }

pub sound_step : (result : Result Step Fault) (s : Place) (m : Machine) (p : List ℕ) → IsSound s → StepAnswers s m p result → IsSound (place_of m)
sound_step result s m p sound h =
    sound_heard s.taken result (place_of m) (subst IsCounted (sym h.heard) (counted_out s (out_from s p) (is_advanced s p sound)))

-- What a tag answers.

-- an event by its tag
pub event_answers : (taken : Advance) (m : Machine) (s : Place) (p : List ℕ) (w : EventTag) (x : Event) → IsSound s → out_of taken m ≡ out_from s p →
    taken.tag ≡ w → out_of_event taken.used (Some x) (after_bytes taken.used (place_of m)) ≡ after_step (out_by w taken.used m) →
    IsPartOf p taken.used (Some x) → StepAnswers s (record m { taken = m.taken + taken.used }) p (gives taken.used x)
event_answers taken m s p w x sound out by_tag heard lent = record {
  heard = told taken m s p w (Some x) out by_tag heard;
  within = (used_within taken m s p sound out).0;
  lent = lent;
  whole_piece = λ none. absurd (cc);
  counted = tt;
  caused = tt;
}

-- the end of a value
pub done_answers : (taken : Advance) (m : Machine) (s : Place) (p : List ℕ) → IsSound s → out_of taken m ≡ out_from s p → taken.tag ≡ tag.Done →
    StepAnswers s (record m { taken = m.taken + taken.used }) p (gives taken.used event.Done)
done_answers taken m s p sound out by_tag =
    event_answers taken m s p tag.Done event.Done sound out by_tag
    (done_heard taken.used (place_of m) (done_none taken m s p sound out by_tag).1) tt

-- the end of the piece
pub more_answers : (taken : Advance) (m : Machine) (s : Place) (p : List ℕ) → IsSound s → out_of taken m ≡ out_from s p → taken.tag ≡ tag.More →
    StepAnswers s (record m { taken = m.taken + taken.used }) p (Ok (record { used = taken.used; event = None }))
more_answers taken m s p sound out by_tag = record {
  heard = told taken m s p tag.More None out by_tag refl;
  within = (used_within taken m s p sound out).0;
  lent = tt;
  whole_piece = λ none. subst (λ w. Takes (length p) (out_by w taken.used m)) by_tag (said_kept taken m s p sound out).1;
  counted = tt;
  caused = tt;
}

-- a refused byte
pub failed_answers : (taken : Advance) (m : Machine) (s : Place) (p : List ℕ) → IsSound s → out_of taken m ≡ out_from s p → taken.tag ≡ tag.Failed →
    StepAnswers s (record m { taken = m.taken + taken.used }) p (Err (record { cause = m.cause; at = m.taken + taken.used }))
failed_answers taken m s p sound out by_tag =
    let f = failed_is taken m s p sound out by_tag in
    let size : (m.taken + taken.used) - s.taken ≡ taken.used = omega (arith, f.1) in
    record {
      heard = ap (λ t. Bad ((m.taken + taken.used) - s.taken) m.cause t) (place_counted m taken.used)
          ∙ ap (λ n. Bad n m.cause (after_bytes taken.used (place_of m))) size ∙ ap after_step (sym f.0);
      within = tt;
      lent = tt;
      whole_piece = tt;
      counted = refl;
      caused = refl;
    }

-- What is passed.

-- the result of a step
pub step_passes : {T : Result Step Fault → Type 0} {X : ℕ → TextKind → List ℕ → Type 0} {s : Place} {m : Machine} {p : List ℕ} {result : Result Step Fault} →
    StepAnswers s m p result → T result → Passes T X s m p
step_passes {result = result} answers takes = inl (record { step = result; takes = takes; answers = answers })

-- a text
pub text_passes : (T : Result Step Fault → Type 0) (X : ℕ → TextKind → List ℕ → Type 0) (s : Place) (m : Machine) (p : List ℕ) (used : ℕ) (k : TextKind)
    (bytes : List ℕ) → IsTextOf k bytes → X used k bytes → TellsText s (place_of m) p used k bytes → Passes T X s m p
text_passes T X s m p used k bytes is_text takes tells =
    inr (record { used = used; kind = k; bytes = bytes; is_text = is_text; takes = takes; tells = tells })

-- A turn of a listener.

-- an event of a step other than the end of the value
abbrev IsOther : Event → Type 0
IsOther event.Done = ⊥
IsOther _ = Unit {0}

other_event : (x : Event) (P : Event → Type 0) → IsOther x → OnOtherEvent (Some x) P → P x
other_event event.Null P other h = h
other_event (event.Bool v) P other h = h
other_event (event.Int i) P other h = h
other_event (event.Text k) P other h = h
other_event (event.Part q) P other h = h
other_event event.TextEnd P other h = h
other_event (event.Open k c) P other h = h
other_event event.Close P other h = h
other_event event.Done P other h = absurd other

-- at most one value begins in the events of an event
few_begin : (x : Event) → begin_count (events_of x) ≤ 1
few_begin event.Null = omega arith
few_begin (event.Bool v) = omega arith
few_begin (event.Int i) = omega arith
few_begin (event.Text k) = omega arith
few_begin (event.Part q) = omega (arith, content_begins q.now)
few_begin event.TextEnd = omega arith
few_begin (event.Open k c) = omega arith
few_begin event.Close = omega arith
few_begin event.Done = omega arith

-- the bytes that a step counts owe nothing
after_nearer : (s : Place) (o : Out) → IsNearer s o → IsNearer s (after_step o)
after_nearer s (Gave n x t) h = h
after_nearer s (Part k n t) h = h
after_nearer s (More n t) h = tt
after_nearer s (Whole t) h = tt
after_nearer s (Bad n c t) h = tt

-- an event that uses no byte is one of those that were due
nearer_by : (s t : Place) (n : ℕ) (x : Event) → IsOther x → IsNearer s (out_of_event n (Some x) t) → n ≡ 0 →
    length (events_owed t) < length (events_owed s)
nearer_by s t n event.Null passed h none = h none
nearer_by s t n (event.Bool v) passed h none = h none
nearer_by s t n (event.Int i) passed h none = h none
nearer_by s t n (event.Text k) passed h none = h none
nearer_by s t n (event.Part q) passed h none = by_bytes (eqb n 0) h
  where
    by_bytes : (b : Bool) → IsNearer s (out_of_part b n q.now t) → length (events_owed t) < length (events_owed s)
    by_bytes true h = h none
    by_bytes false h = absurd (omega (arith, h, none))
nearer_by s t n event.TextEnd passed h none = h none
nearer_by s t n (event.Open k c) passed h none = h none
nearer_by s t n event.Close passed h none = h none
nearer_by s t n event.Done passed h none = absurd passed

-- an event was passed
event_turn : {O : Type 0} (s : Place) (m : Machine) (p : List ℕ) (HadHeard HasHeard HasStopped : O → Events → Type 0) (used : ℕ) (x : Event) (goes_on : Bool) →
    IsText p → IsSound s → IsOther x → Hears HadHeard HasHeard HasStopped (events_of x) goes_on →
    StepAnswers s m p (gives used x) →
    IsTurn O s (place_of m) HadHeard HasHeard HasStopped p (record { used = used; turn = turn_of goes_on })
event_turn s m p HadHeard HasHeard HasStopped used x goes_on text sound passed hears answers =
    let result : Result Step Fault = gives used x in
    let steps = steps_are result s m p text sound answers in
    let there = sound_step result s m p sound answers in
    record {
      sound = there;
      rules = steps.same_rules;
      within = steps.within_piece;
      whole_piece = λ more. absurd (not_more goes_on more);
      dead = λ fault f. absurd (let z : result ≡ Err fault = (steps.fault_is_final fault f).0 in cc);
      nearer = λ on none. nearer_by s (place_of m) used x passed
          (subst (IsNearer s) (sym answers.heard) (after_nearer s (out_from s p) (is_nearer s p sound))) none;
      outcome = λ since front given w had.
          turn_told s (place_of m) (HasHeard since) (HasStopped since) front given p used (events_of x) goes_on there steps.same_rules (few_begin x)
          (other_event x (λ y. HasRead (place_of m) (front ++ take used p) (given ++ events_of y)) passed (steps.another_event front given w))
          (hears since given had);
    }

-- a text was passed
text_turn : {O : Type 0} (s : Place) (m : Machine) (p : List ℕ) (HadHeard HasHeard HasStopped : O → Events → Type 0) (used : ℕ) (k : TextKind)
    (bytes : List ℕ) (goes_on : Bool) → Hears HadHeard HasHeard HasStopped (whole_text_events k bytes) goes_on →
    TellsText s (place_of m) p used k bytes →
    IsTurn O s (place_of m) HadHeard HasHeard HasStopped p (record { used = used; turn = turn_of goes_on })
text_turn s m p HadHeard HasHeard HasStopped used k bytes goes_on hears tells = record {
  sound = tells.sound;
  rules = tells.steps.same_rules;
  within = tells.steps.of_piece.within;
  whole_piece = λ more. absurd (not_more goes_on more);
  dead = λ fault f. absurd (tells.steps.no_fault fault f);
  nearer = λ on none. absurd (omega (arith, tells.steps.of_piece.has_end, none));
  outcome = λ since front given w had.
      turn_told s (place_of m) (HasHeard since) (HasStopped since) front given p used (whole_text_events k bytes) goes_on tells.sound tells.steps.same_rules
      (whole_text_begins k bytes) (tells.steps.reads front given w) (hears since given had);
}

-- What a listener was passed is a turn. After a refused byte the machine answers the refusal.
pub turn_is : {O : Type 0} (s : Place) (m : Machine) (p : List ℕ) (HadHeard HasHeard HasStopped : O → Events → Type 0) (IsLeft : Type 0) (turned : Turned) →
    IsText p → IsSound s → (IsLeft → (since : O) (given : Events) → HadHeard since given → HasHeard since given) →
    Passes (λ step. HearsStep (Hears HadHeard HasHeard HasStopped) IsLeft step turned)
    (λ used k bytes. TurnsBy used turned (Hears HadHeard HasHeard HasStopped (whole_text_events k bytes))) s m p →
    IsTurn O s (place_of m) HadHeard HasHeard HasStopped p turned × (turned.turn ≡ turn.Failed → (place_of m).token ≡ Dead m.cause)
turn_is {O = O} s m p HadHeard HasHeard HasStopped IsLeft turned text sound same passes = by_passes passes
  where
    IsOne : Turned → Type 0
    IsOne turned = IsTurn O s (place_of m) HadHeard HasHeard HasStopped p turned × (turned.turn ≡ turn.Failed → (place_of m).token ≡ Dead m.cause)

    other : (used : ℕ) (x : Event) → IsOther x → TurnsBy used turned (Hears HadHeard HasHeard HasStopped (events_of x)) →
        StepAnswers s m p (gives used x) → IsOne turned
    other used x is takes answers = subst IsOne (sym takes.1) (
      event_turn s m p HadHeard HasHeard HasStopped used x takes.0 text sound is takes.2 answers,
      λ failed. absurd (not_failed takes.0 failed),
    )

    by_event : (used : ℕ) (x : Option Event) → HearsEvent (Hears HadHeard HasHeard HasStopped) IsLeft used x turned →
        StepAnswers s m p (Ok (record { used = used; event = x })) → IsOne turned
    by_event used None takes answers =
        let result : Result Step Fault = Ok (record { used = used; event = None }) in
        let steps = steps_are result s m p text sound answers in
        subst IsOne (sym takes.0) (
          record {
            sound = sound_step result s m p sound answers;
            rules = steps.same_rules;
            within = steps.within_piece;
            whole_piece = λ more. answers.whole_piece refl;
            dead = λ fault f. absurd (let z : result ≡ Err fault = (steps.fault_is_final fault f).0 in cc);
            nearer = λ on none. absurd (cc);
            outcome = λ since front given w had. (steps.no_event front given w, same takes.1 since given had);
          },
          λ failed. absurd (cc),
        )
    by_event used (Some event.Done) takes answers =
        let result : Result Step Fault = gives used event.Done in
        let steps = steps_are result s m p text sound answers in
        subst IsOne (sym takes.0) (
          record {
            sound = sound_step result s m p sound answers;
            rules = steps.same_rules;
            within = steps.within_piece;
            whole_piece = λ more. absurd (cc);
            dead = λ fault f. absurd (let z : result ≡ Err fault = (steps.fault_is_final fault f).0 in cc);
            nearer = λ on none. absurd (cc);
            outcome = λ since front given w had. (steps.value_whole front given w, same takes.1 since given had);
          },
          λ failed. absurd (cc),
        )
    by_event used (Some event.Null) takes answers = other used event.Null tt takes answers
    by_event used (Some (event.Bool v)) takes answers = other used (event.Bool v) tt takes answers
    by_event used (Some (event.Int i)) takes answers = other used (event.Int i) tt takes answers
    by_event used (Some (event.Text k)) takes answers = other used (event.Text k) tt takes answers
    by_event used (Some (event.Part q)) takes answers = other used (event.Part q) tt takes answers
    by_event used (Some event.TextEnd) takes answers = other used event.TextEnd tt takes answers
    by_event used (Some (event.Open k c)) takes answers = other used (event.Open k c) tt takes answers
    by_event used (Some event.Close) takes answers = other used event.Close tt takes answers

    by_step : (step : Result Step Fault) → HearsStep (Hears HadHeard HasHeard HasStopped) IsLeft step turned → StepAnswers s m p step → IsOne turned
    by_step (Ok step) takes answers = by_event step.used step.event takes answers
    by_step (Err fault) takes answers =
        let steps = steps_are (Err fault) s m p text sound answers in
        subst IsOne (sym takes.0) (
          record {
            sound = sound_step (Err fault) s m p sound answers;
            rules = steps.same_rules;
            within = omega arith;
            whole_piece = λ more. absurd (cc);
            dead = λ other f. (refl, (steps.fault_is_final other f).1);
            nearer = λ on none. absurd (cc);
            outcome = λ since front given w had.
                (record { fault = fault; kept = steps.fault_is_kept; refused = steps.refusal front given w }, same takes.1 since given had);
          },
          λ failed. steps.fault_is_kept.0 ∙ ap Dead answers.caused,
        )

    by_passes : Passes (λ step. HearsStep (Hears HadHeard HasHeard HasStopped) IsLeft step turned)
        (λ used k bytes. TurnsBy used turned (Hears HadHeard HasHeard HasStopped (whole_text_events k bytes))) s m p → IsOne turned
    by_passes (inl h) = by_step h.step h.takes h.answers
    by_passes (inr h) = subst IsOne (sym h.takes.1) (
      text_turn s m p HadHeard HasHeard HasStopped h.used h.kind h.bytes h.takes.0 h.takes.2 h.tells,
      λ failed. absurd (not_failed h.takes.0 failed),
    )

-- Nothing is passed, and no byte is used.

-- no bytes leave a machine as it is
no_bytes : (m : Machine) → record m { taken = m.taken + 0 } ≡ m
no_bytes m = ap (λ k. record m { taken = k }) (let z : m.taken + 0 ≡ m.taken = omega arith in z)

-- a value has ended
pub is_ended : {O : Type 0} {s : Place} {p : List ℕ} {HasHeard HasStopped : O → Events → Type 0} (m : Machine) → IsText p → IsSound s →
    out_by tag.Done 0 m ≡ out_from s p → IsTurn O s (place_of m) HasHeard HasHeard HasStopped p (record { used = 0; turn = turn.Done })
is_ended {O = O} {s = s} {p = p} {HasHeard = H} {HasStopped = M} m text sound out =
    subst (λ n. IsTurn O s (place_of n) H H M p (record { used = 0; turn = turn.Done })) (no_bytes m)
    (turn_is s (record m { taken = m.taken + 0 }) p H H M (Unit {0}) (record { used = 0; turn = turn.Done }) text sound
    (λ left since given had. had) (step_passes (done_answers (record { used = 0; tag = tag.Done }) m s p sound out refl) (refl, tt))).0

-- the piece has ended
pub is_used_up : {O : Type 0} {s : Place} {p : List ℕ} {HasHeard HasStopped : O → Events → Type 0} (m : Machine) → IsText p → IsSound s →
    out_by tag.More 0 m ≡ out_from s p → IsTurn O s (place_of m) HasHeard HasHeard HasStopped p (record { used = 0; turn = turn.More })
is_used_up {O = O} {s = s} {p = p} {HasHeard = H} {HasStopped = M} m text sound out =
    subst (λ n. IsTurn O s (place_of n) H H M p (record { used = 0; turn = turn.More })) (no_bytes m)
    (turn_is s (record m { taken = m.taken + 0 }) p H H M (Unit {0}) (record { used = 0; turn = turn.More }) text sound
    (λ left since given had. had) (step_passes (more_answers (record { used = 0; tag = tag.More }) m s p sound out refl) (refl, tt))).0
