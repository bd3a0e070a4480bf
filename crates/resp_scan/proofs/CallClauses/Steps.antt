-- The contract of a step in words of texts and trees.
use Rattle.std.specs.Prelude.{Bool, true, false, take, drop, get_or, eqb, Option, None, Some, Result, Ok, Err, IfOk, IfErr, IfNone}
use Rattle.std.proofs.Common.{◌≡◌, ℕ, ◌+◌, ◌-◌, ◌<◌, ◌≤◌, List, [], ◌∷◌, ◌++◌, length, refl, sym, ap, subst, ◌∙◌, arith, append_assoc, length-append}
use Rattle.std.proofs.lemmas.Bool.Decides.{nat_tests}
use Rattle.resp_value.specs.Bytes.{IsText}
use Rattle.resp_value.specs.Trees.{text}
use Rattle.resp_value.specs.Rules.{WithinItems, WithinTotal}
use Rattle.resp_value.specs.Spellings.{IsViable}
use Rattle.resp_value.proofs.LocalRuleLemmas.{keeps_locally}
use Rattle.resp_fronts.proofs.FrameLaws.FrontLaws.{all_rules}
use Rattle.resp_fronts.specs.Events.{without_places, events}
use Rattle.resp_fronts.specs.Events as e
use Rattle.resp_scan.specs.declared.event.Event.{Event}
use Rattle.resp_scan.specs.declared.event.Event.TheVariants as event
use Rattle.resp_scan.specs.declared.event.Step.{Step}
use Rattle.resp_scan.specs.declared.event.Fault.{Fault}
use Rattle.resp_scan.specs.Machine.Tokens.{Place}
use Rattle.resp_scan.specs.Machine.Scan.{Out, More, Gave, Part, Whole, Bad, out_from}
use Rattle.resp_scan.specs.Parts.{IsPartOf, IsOfPiece, IsRun}
use Rattle.resp_scan.specs.Machine.StepOutcomes.{out_of_step, out_of_event, out_of_part, after_step}
use Rattle.resp_scan.specs.Kinds.{IsRefusedFor, content_events, event_of, rules_of}
use Rattle.resp_scan.specs.Machine.Sound.{IsSound}
use Rattle.resp_scan.specs.Machine.Standing as f
use Rattle.resp_scan.specs.Machine.Standing.{AwaitsMember, HasCountsOf, HasEnded, StandsAfter, StandsAfterAt}
use Rattle.resp_scan.specs.Reading.{AreDue, ComesInTime, EndsValue, HasNoValue, HasRead, IfDone, IfNoEvent, IfOtherEvent, IsRefused, IsValue, OnDone, OnOtherEvent, UsesUp, events_of}
use Rattle.resp_scan.proofs.DueEvents.GivenCounts.{no_done_given}
use Rattle.resp_scan.proofs.CallClauses.AllGiven.{all_due, looked_on}
use Rattle.resp_scan.proofs.CallClauses.NoValue.{no_spelling, no_value}
use Rattle.resp_scan.proofs.TokenMoves.EachLeads.{IsLookedAt}
use Rattle.resp_scan.proofs.CallClauses.Heard.{RefusedAt}
use Rattle.resp_scan.proofs.CallClauses.Fronts.{front-append, front-one-more, length-front}
use Rattle.resp_scan.proofs.Soundness.Kept.{IsOut, is_advanced}
use Rattle.resp_scan.proofs.CallClauses.LeastNeeded.{followed_is_viable}
use Rattle.resp_scan.proofs.Soundness.Counted.{sound_counted}
use Rattle.resp_scan.proofs.CallClauses.Answered.{Answered, answered}

-- with the bytes that a step counts
abbrev pub Shown : Place → List ℕ → List e.Event → List ℕ → Out → Type 0
Shown s front es p (More n t) = (n ≡ length p) × (t.taken ≡ s.taken + n) × IsSound t × (rules_of t ≡ rules_of s) × IsLookedAt t.token n ×
    StandsAfter t (front ++ p) es
Shown s front es p (Gave n happening t) = (n ≤ length p) × (t.taken ≡ s.taken + n) × StandsAfter t (front ++ take n p) (es ++ event_of happening ∷ []) ×
    (0 < n → AreDue (front ++ take (n - 1) p) es)
Shown s front es p (Part k n t) = (k < n) × (n ≤ length p) × (t.taken ≡ s.taken + n) ×
    StandsAfter t (front ++ take n p) (es ++ content_events (drop k (take n p))) × AreDue (front ++ take k p) es
Shown s front es p (Whole t) = (t.taken ≡ 0) × f.IsWholeValue (rules_of s) front es × StandsAfter t [] []
Shown s front es p (Bad n c t) = (t.taken ≡ s.taken + n) × (n < length p) × (byte : ℕ) × (rest : List ℕ) × (p ≡ take n p ++ byte ∷ rest) ×
    RefusedAt (rules_of s) (front ++ take n p) es byte n c

pub shown : (s : Place) (front : List ℕ) (es : List e.Event) (p : List ℕ) (o : Out) → IsOut s o → Answered (rules_of s) front es p o →
    Shown s front es p (after_step o)
shown s front es p (More n t) h a = (a.0, ap (λ x. x + n) h.taken, sound_counted t n h.sound, h.rules, a.1, a.2)
shown s front es p (Gave n x t) h a = (a.0, ap (λ x. x + n) h.0.taken, a.1, a.2)
shown s front es p (Part k n t) h a = (a.0, a.1, ap (λ x. x + n) h.taken, a.2, a.3)
shown s front es p (Whole t) h a = (h.1, a.0, a.1)
shown s front es p (Bad n c t) h (within, byte, rest, parts, w) = (ap (λ x. x + n) h.0.taken, within, byte, rest, parts, w)

pub follows : (s t : Place) (front : List ℕ) (es : List e.Event) (p : List ℕ) (n : ℕ) → s.taken ≡ length front → n ≤ length p → t.taken ≡ s.taken + n →
    StandsAfter t (front ++ take n p) es → HasRead t (front ++ take n p) es
follows s t front es p n taken within counts w = record {
  stands = w;
  taken =
      omega (arith, taken, counts, length-append front (take n p), length-front n p (omega (arith, within)));
}

-- a digit that was owed, or a run of the piece
part_heard : (zero_bytes : Bool) (s t : Place) (front : List ℕ) (es : List e.Event) (p q : List ℕ) (n : ℕ) → s.taken ≡ length front → IsRun zero_bytes p n q →
    Shown s front es p (out_of_part zero_bytes n q t) → HasRead t (front ++ take n p) (es ++ content_events q)
part_heard true s t front es p q n taken run h = subst (λ z. HasRead t (front ++ take n p) (es ++ z)) (one q run)
    (follows s t front (es ++ e.Byte (get_or q 0 0) ∷ []) p n taken h.0 h.1 h.2)
  where
    one : (q : List ℕ) → length q ≡ 1 → e.Byte (get_or q 0 0) ∷ [] ≡ content_events q
    one [] e = absurd (omega (arith, e))
    one (b ∷ []) e = refl
    one (b ∷ c ∷ q) e = absurd (omega (arith, e))
part_heard false s t front es p q n taken run h = follows s t front (es ++ content_events q) p n taken h.1 h.2
    (subst (λ z. StandsAfter t (front ++ take n p) (es ++ content_events z)) (sym run.1) h.3)

-- and before it all events due were given
part_in_time : (zero_bytes : Bool) (s t : Place) (front : List ℕ) (es : List e.Event) (p q : List ℕ) (n : ℕ) → eqb n 0 ≡ zero_bytes →
    Shown s front es p (out_of_part zero_bytes n q t) → 0 < n → AreDue (front ++ take (n - length q) p) es
part_in_time true s t front es p q n none h some = absurd (let z : n ≡ 0 = grind (arith, nat_tests) in omega (arith, some))
part_in_time false s t front es p q n none h some = h.4

-- Values.

-- a whole value within total is within all rules
pub value_is : (s : Place) (front : List ℕ) (es : List e.Event) → length front ≤ s.bounds.total → f.IsWholeValue (rules_of s) front es →
    IsValue (rules_of s) front es
value_is s front es fits w = record {
  tree = w.tree;
  spells = record { is_tree = w.is_tree; spelled = sym w.whole };
  keeps = all_rules (rules_of s) w.tree ((keeps_locally (rules_of s) WithinItems w.tree (omega arith)).1 w.keep) (omega (arith, fits, ap length w.whole));
  told = w.told;
}

-- What a step comes to, by its event.
abbrev pub OutcomeOf : Place → Place → List ℕ → List e.Event → List ℕ → ℕ → Option Event → Type 0
OutcomeOf s t front es p n None = UsesUp t front es p n
OutcomeOf s t front es p n (Some event.Done) = EndsValue (rules_of s) t front es n
OutcomeOf s t front es p n (Some x) = HasRead t (front ++ take n p) (es ++ events_of x) × ComesInTime front es p n x

pub heard_is : (s t : Place) (front : List ℕ) (es : List e.Event) (p : List ℕ) (n : ℕ) (x : Option Event) → s.taken ≡ length front →
    length front ≤ s.bounds.total →
    IsPartOf p n x → Shown s front es p (out_of_event n x t) →
    OutcomeOf s t front es p n x
heard_is s t front es p n None taken fits part h =
    let reads : HasRead t (front ++ p) es = record { stands = h.5; taken = omega (arith, taken, h.1, h.0, length-append front p) } in
    let due = all_due t 0 (front ++ p) es h.2 (looked_on t.token n h.4) h.5 in
    let viable = followed_is_viable t 0 (front ++ p) es h.2 (omega (arith, reads.taken)) h.5 in
    record {
      whole_piece = h.0;
      viable = viable;
      no_value = no_value (rules_of t) (front ++ p) es viable due (no_done_given t (front ++ p) es h.5);
      all_due = due;
      reads = reads;
    }
heard_is s t front es p n (Some event.Null) taken fits part h = (follows s t front (es ++ e.Null ∷ []) p n taken h.0 h.1 h.2, h.3)
heard_is s t front es p n (Some (event.Bool x)) taken fits part h = (follows s t front (es ++ e.Bool x ∷ []) p n taken h.0 h.1 h.2, h.3)
heard_is s t front es p n (Some (event.Int x)) taken fits part h = (follows s t front (es ++ e.Int x ∷ []) p n taken h.0 h.1 h.2, h.3)
heard_is s t front es p n (Some (event.Text x)) taken fits part h = (follows s t front (es ++ events_of (event.Text x)) p n taken h.0 h.1 h.2, h.3)
heard_is s t front es p n (Some (event.Part q)) taken fits part h =
    (part_heard (eqb n 0) s t front es p q.now n taken part h, part_in_time (eqb n 0) s t front es p q.now n refl h)
heard_is s t front es p n (Some event.TextEnd) taken fits part h = (follows s t front (es ++ e.TextEnd ∷ []) p n taken h.0 h.1 h.2, h.3)
heard_is s t front es p n (Some (event.Open x c)) taken fits part h = (follows s t front (es ++ events_of (event.Open x c)) p n taken h.0 h.1 h.2, h.3)
heard_is s t front es p n (Some event.Close) taken fits part h = (follows s t front (es ++ e.Close ∷ []) p n taken h.0 h.1 h.2, h.3)
heard_is s t front es p n (Some event.Done) taken fits part h =
    let z : t.taken + n ≡ 0 = h.0 in
    record { no_byte = omega (arith, z); is_value = value_is s front es fits h.1; reads = record { stands = h.2; taken = omega (arith, z) } }

-- A fault.

pub refused_is : (s t : Place) (front : List ℕ) (es : List e.Event) (p : List ℕ) (fault : Fault) → s.taken ≡ length front → fault.at ≡ t.taken →
    Shown s front es p (Bad (fault.at - s.taken) fault.cause t) → IsRefused (rules_of s) front es p fault
refused_is s t front es p fault taken at_taken (counted, within, byte, rest, parts, w) =
    let n = fault.at - s.taken in
    let before : front ++ p ≡ (front ++ take n p) ++ byte ∷ rest = ap (λ z. front ++ z) parts ∙ sym (append_assoc front (take n p) (byte ∷ rest)) in
    let size : length (front ++ take n p) ≡ fault.at = omega (
      arith,
      taken,
      at_taken,
      counted,
      length-append front (take n p),
      length-front n p (omega (arith, within)),
    ) in
    let here : take fault.at (front ++ p) ≡ front ++ take n p =
    ap (take fault.at) before ∙ front-append fault.at (front ++ take n p) (byte ∷ rest) size in
    let viable : IsViable (rules_of s) WithinTotal (front ++ take n p) = subst (λ r. IsViable r WithinTotal (front ++ take n p)) w.rules
    (followed_is_viable w.before n (front ++ take n p) es w.sound w.taken w.stands) in
    let due = all_due w.before n (front ++ take n p) es w.sound w.looked w.stands in
    let refused : IsRefusedFor (rules_of s) (take (fault.at + 1) (front ++ p)) fault.cause = subst (λ z. IsRefusedFor (rules_of s) z fault.cause)
    (sym (ap (take (fault.at + 1)) before ∙ front-one-more fault.at (front ++ take n p) byte rest size)) w.cause in
    record {
      in_piece = omega (arith, taken, at_taken, counted);
      before_end = omega (arith, taken, at_taken, counted, within, length-append front p);
      viable = subst (IsViable (rules_of s) WithinTotal) (sym here) viable;
      refused = refused;
      all_due = subst (λ z. AreDue z es) (sym here) due;
      no_value = no_spelling (rules_of s) (front ++ p) fault.at fault.cause (subst HasNoValue (sym here)
          (no_value (rules_of s) (front ++ take n p) es viable due (no_done_given w.before (front ++ take n p) es w.stands))) refused;
    }

abbrev pub Outcome : Place → Place → List ℕ → List e.Event → List ℕ → Result Step Fault → Type 0
Outcome s t front es p (Ok step) = OutcomeOf s t front es p step.used step.event
Outcome s t front es p (Err fault) = IsRefused (rules_of s) front es p fault

-- What a step answers.
pub stepped_is : (result : Result Step Fault) (s t : Place) (front : List ℕ) (es : List e.Event) (p : List ℕ) → IsText p → IsSound s →
    out_of_step s.taken result t ≡ after_step (out_from s p) → IfOk result (λ step. IsOfPiece p step) →
    IfErr result (λ fault. fault.at ≡ t.taken) → HasRead s front es → Outcome s t front es p result
stepped_is (Ok step) s t front es p text sound h part fault w =
    let fits : length front ≤ s.bounds.total = omega (arith, w.taken, sound.total) in
    heard_is s t front es p step.used step.event w.taken fits part
    (subst (Shown s front es p) (sym h) (shown s front es p (out_from s p) (is_advanced s p sound) (answered s front es p text sound w.taken w.stands)))
stepped_is (Err x) s t front es p text sound h part fault w =
    refused_is s t front es p x w.taken fault
    (subst (Shown s front es p) (sym h) (shown s front es p (out_from s p) (is_advanced s p sound) (answered s front es p text sound w.taken w.stands)))

-- The clauses.

-- those of a step that refuses no byte
abbrev EventClauses : Place → Place → List ℕ → List e.Event → List ℕ → ℕ → Option Event → Type 0
EventClauses s t front es p n x = IfNone x (UsesUp t front es p n) × OnDone x (EndsValue (rules_of s) t front es n) ×
    OnOtherEvent x (λ other. HasRead t (front ++ take n p) (es ++ events_of other)) × OnOtherEvent x (ComesInTime front es p n)

event_clauses : (s t : Place) (front : List ℕ) (es : List e.Event) (p : List ℕ) (n : ℕ) (x : Option Event) → OutcomeOf s t front es p n x →
    EventClauses s t front es p n x
event_clauses s t front es p n None h = (h, tt, tt, tt)
event_clauses s t front es p n (Some event.Done) h = (tt, h, tt, tt)
event_clauses s t front es p n (Some x) h = (tt, tt, h.0, h.1)

pub clauses : (result : Result Step Fault) (s t : Place) (front : List ℕ) (es : List e.Event) (p : List ℕ) → Outcome s t front es p result →
    IfNoEvent result (UsesUp t front es p) × IfDone result (EndsValue (rules_of s) t front es) ×
    IfOtherEvent result (λ used x. HasRead t (front ++ take used p) (es ++ events_of x)) × IfOtherEvent result (ComesInTime front es p) ×
    IfErr result (IsRefused (rules_of s) front es p)
clauses (Ok step) s t front es p h =
    let c = event_clauses s t front es p step.used step.event h in
    (c.0, c.1, c.2, c.3, tt)
clauses (Err fault) s t front es p h = (tt, tt, tt, tt, h)
