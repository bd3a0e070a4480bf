-- The loop over a piece: what its turns so far have read and told, and what the last one answers.
use Prim.Native.Nat.{zero}
use Rattle.std.specs.Prelude.{true, false, take, drop, cond, eqb, Ok, Err}
use Rattle.std.proofs.Common.{◌≡◌, ℕ, ◌+◌, ◌-◌, ◌*◌, ◌<◌, ◌≤◌, List, [], ◌∷◌, ◌++◌, length, refl, sym, ap, subst, ◌∙◌, arith, append_assoc, append-nil, length-append, suc}
use Rattle.std.proofs.lemmas.List.{length-drop, take-append-drop}
use Rattle.resp_value.specs.Rules.{WithinTotal}
use Rattle.resp_value.specs.Spellings.{IsViable}
use Rattle.resp_value.specs.declared.cause.Cause.{Cause}
use Rattle.resp_value.specs.declared.cause.Cause.TheVariants as cause
use Rattle.resp_scan.specs.declared.event.ScanError.TheVariants as stop
use Rattle.resp_scan.specs.declared.event.Fault.{Fault}
use Rattle.resp_scan.specs.declared.frame.Frame.{Frame}
use Rattle.resp_scan.specs.declared.frame.Shape.{Shape}
use Rattle.resp_scan.specs.declared.frame.Shape.TheVariants.{Left, Begun}
use Rattle.resp_scan.specs.declared.listen.Turn.{Turn}
use Rattle.resp_scan.specs.declared.listen.Turn.TheVariants as turn
use Rattle.resp_scan.specs.declared.listen.Turned.{Turned}
use Rattle.resp_fronts.specs.Events as e
use Rattle.resp_scan.specs.Kinds.{IsRefusedFor, rules_of}
use Rattle.resp_scan.specs.Reading.{AreDue, BeginDue, Events, HasNoSpelling, HasNoValue, HasRead, IsFaulted, IsRefused, IsValue}
use Rattle.resp_scan.specs.Machine.Tokens.{Token, Place, at, AtBigDigit, AtEnd, AtTextEnd, Dead}
use Rattle.resp_scan.specs.Machine.Owed.{events_owed, events_owed_at, events_owed_at_end, events_owed_in}
use Rattle.resp_scan.specs.Machine.Sound.{IsSound}
use Rattle.resp_scan.specs.Machine.Turns.{GoesOn, IsScanned, IsTurn, OutcomeOfTurn}
use Rattle.resp_scan.proofs.CallClauses.Fronts.{front-append}
use Rattle.resp_scan.proofs.CallClauses.WholeTexts.{taken_on}

-- What the turns so far have come to.
pub record Runs (O : Type 0) (s₀ s : Place) (HadHeard HasHeard : O → Events → Type 0) (piece : List ℕ) (used : ℕ) : Type 0 where
  pub sound : IsSound s
  pub rules : rules_of s ≡ rules_of s₀
  pub within : used ≤ length piece
  pub dead : (fault : Fault) → IsFaulted s₀ fault → s ≡ s₀
  pub reads : (since : O) (front : List ℕ) (given : Events) → HasRead s₀ front given → HadHeard since given →
      GoesOn s (HasHeard since) front given piece used

-- Before the first turn nothing was read.
pub runs_none : {O : Type 0} (s : Place) (H : O → Events → Type 0) (piece : List ℕ) → IsSound s → Runs O s s H H piece 0
runs_none s H piece sound = record {
  sound = sound;
  rules = refl;
  within = omega arith;
  dead = λ fault f. refl;
  reads = λ since front given w had. record {
    told = [];
    reads = subst (λ z. HasRead s z (given ++ [])) (sym (append-nil front)) (subst (HasRead s front) (sym (append-nil given)) w);
    heard = subst (H since) (sym (append-nil given)) had;
  };
}

-- the bytes of one turn after those of the turns before
bytes_on : (front piece : List ℕ) (used n : ℕ) → (front ++ take used piece) ++ take n (drop used piece) ≡ front ++ take (used + n) piece
bytes_on front piece used n = append_assoc front (take used piece) (take n (drop used piece)) ∙ ap (λ z. front ++ z) (taken_on used n piece)

-- all bytes of the piece
bytes_all : (front piece : List ℕ) (used : ℕ) → (front ++ take used piece) ++ drop used piece ≡ front ++ piece
bytes_all front piece used = append_assoc front (take used piece) (drop used piece) ∙ ap (λ z. front ++ z) (take-append-drop used piece)

-- One turn more.

-- the outcome of the turn, for the bytes that the turns before it have read
outcome_by : {O : Type 0} {s₀ s t : Place} {H₀ H H' M : O → Events → Type 0} {piece : List ℕ} {used : ℕ} {turned : Turned} (x : Turn) → turned.turn ≡ x →
    (r : Runs O s₀ s H₀ H piece used) → IsTurn O s t H H' M (drop used piece) turned → (since : O) (front : List ℕ) (given : Events)
    (w : HasRead s₀ front given) (had : H₀ since given) →
    OutcomeOfTurn s t (H' since) (M since) (front ++ take used piece) (given ++ (r.reads since front given w had).told) (drop used piece) turned.used x
outcome_by {s = s} {t = t} {H' = H'} {M = M} {piece = piece} {used = used} {turned = turned} x is r v since front given w had =
    let a = r.reads since front given w had in
    subst (OutcomeOfTurn s t (H' since) (M since) (front ++ take used piece) (given ++ a.told) (drop used piece) turned.used) is
    (v.outcome since (front ++ take used piece) (given ++ a.told) a.reads a.heard)

-- a fault that stands is answered again, and nothing else
fault_again : {O : Type 0} {s₀ s t : Place} {H₀ H H' M : O → Events → Type 0} {piece : List ℕ} {used : ℕ} {turned : Turned} →
    Runs O s₀ s H₀ H piece used → IsTurn O s t H H' M (drop used piece) turned → (fault : Fault) → IsFaulted s₀ fault → (turned.turn ≡ turn.Failed) × (t ≡ s₀)
fault_again r v fault f =
    let same = r.dead fault f in
    let again = v.dead fault (subst (λ x. IsFaulted x fault) (sym same) f) in
    (again.0, again.1 ∙ same)

pub runs_on : {O : Type 0} {s₀ s t : Place} {H₀ H H' M : O → Events → Type 0} {piece : List ℕ} {used : ℕ} {turned : Turned} →
    Runs O s₀ s H₀ H piece used → IsTurn O s t H H' M (drop used piece) turned → turned.turn ≡ turn.On → Runs O s₀ t H₀ H' piece (used + turned.used)
runs_on {t = t} {H' = H'} {piece = piece} {used = used} {turned = turned} r v on = record {
  sound = v.sound;
  rules = v.rules ∙ r.rules;
  within = omega (arith, r.within, v.within, length-drop used piece);
  dead = λ fault f. absurd (let z : turn.On ≡ turn.Failed = sym on ∙ (fault_again r v fault f).0 in cc);
  reads = λ since front given w had.
      let a = r.reads since front given w had in
      let b = outcome_by turn.On on r v since front given w had in
      record {
        told = a.told ++ b.told;
        reads = subst (λ z. HasRead t z (given ++ (a.told ++ b.told))) (bytes_on front piece used turned.used)
            (subst (HasRead t ((front ++ take used piece) ++ take turned.used (drop used piece))) (append_assoc given a.told b.told) b.reads);
        heard = subst (H' since) (append_assoc given a.told b.told) b.heard;
      };
}

-- The turns end.

shape_few : (x : Shape) (outer : List e.Event) → length (events_owed_in x outer) ≤ length outer + 1
shape_few (Begun n) outer = omega arith
shape_few (Left n) outer = elim (eqb n 0) as (λ b. length (cond b (e.Close ∷ outer) []) ≤ length outer + 1) [ true ↦ omega arith | false ↦ omega arith ]

end_few : (fs : List Frame) → length (events_owed_at_end fs) ≤ length fs + 1
end_few [] = omega arith
end_few (f ∷ fs) = omega (arith, shape_few f.shape (events_owed_at_end fs), end_few fs)

owed_few : (t : Token) (fs : List Frame) → length (events_owed_at t fs) ≤ length fs + 2
owed_few AtEnd fs = omega (arith, end_few fs)
owed_few AtTextEnd fs = omega (arith, end_few fs)
owed_few (AtBigDigit digit room) fs = omega arith
owed_few t fs = omega arith

-- what is left to do: bytes, and events that are owed
abbrev pub work_left : Place → List ℕ → ℕ → ℕ
work_left s piece used = (length piece - used) * 256 + length (events_owed s)

pub less_work : {O : Type 0} {s t : Place} {H H' M : O → Events → Type 0} (piece : List ℕ) (used : ℕ) {turned : Turned} → used ≤ length piece →
    IsTurn O s t H H' M (drop used piece) turned → turned.turn ≡ turn.On → work_left t piece (used + turned.used) < work_left s piece used
less_work {s = s} {t = t} piece used {turned = turned} within v on = by_used turned.used refl
  where
    few : length (events_owed t) ≤ 130
    few = omega (arith, owed_few t.token t.frames, v.sound.nested, v.sound.bounds.depth_in_range.1)

    fits : turned.used ≤ length piece - used
    fits = omega (arith, v.within, length-drop used piece)

    by_used : (n : ℕ) → turned.used ≡ n → work_left t piece (used + turned.used) < work_left s piece used
    by_used zero none = omega (arith, v.nearer on none, none)
    by_used (suc n) some = omega (arith, few, fits, some, within)

-- The last turn.

-- a value has ended
pub value_scanned : {O : Type 0} {s₀ s t : Place} {H₀ H H' M : O → Events → Type 0} {piece : List ℕ} {used : ℕ} {turned : Turned} {n : ℕ} →
    n ≡ used + turned.used → Runs O s₀ s H₀ H piece used → IsTurn O s t H H' M (drop used piece) turned → turned.turn ≡ turn.Done →
    IsScanned O s₀ t H₀ H' M piece (Ok (record { used = n; is_whole = true }))
value_scanned {s₀ = s₀} {piece = piece} {used = used} {turned = turned} {n = n} is r v done = record {
  sound = v.sound;
  value_whole = λ since front given w had whole.
      let a = r.reads since front given w had in
      let b = outcome_by turn.Done done r v since front given w had in
      record {
        heard = given ++ a.told;
        is_value = subst (λ k. IsValue (rules_of s₀) (front ++ take k piece) (given ++ a.told))
            (let z : used ≡ n = omega (arith, b.0.no_byte, is) in z)
            (subst (λ x. IsValue x (front ++ take used piece) (given ++ a.told)) r.rules b.0.is_value);
        has_heard = b.1;
        reads = b.0.reads;
      };
  used_up = λ since front given w had none. absurd (cc);
  refusal = λ since front given w had. tt;
  stopped = λ since front given w had. tt;
  within_piece = omega (arith, is, r.within, v.within, length-drop used piece);
  whole_piece = λ none. absurd (cc);
  same_rules = v.rules ∙ r.rules;
  fault_is_kept = tt;
  fault_is_final = λ fault f. absurd (let z : turn.Done ≡ turn.Failed = sym done ∙ (fault_again r v fault f).0 in cc);
}

-- the piece is used up
pub piece_scanned : {O : Type 0} {s₀ s t : Place} {H₀ H H' M : O → Events → Type 0} {piece : List ℕ} {used : ℕ} {turned : Turned} {n : ℕ} →
    n ≡ used + turned.used → Runs O s₀ s H₀ H piece used → IsTurn O s t H H' M (drop used piece) turned → turned.turn ≡ turn.More →
    IsScanned O s₀ t H₀ H' M piece (Ok (record { used = n; is_whole = false }))
piece_scanned {t = t} {piece = piece} {used = used} is r v more = record {
  sound = v.sound;
  value_whole = λ since front given w had whole. absurd (cc);
  used_up = λ since front given w had none.
      let a = r.reads since front given w had in
      let b = outcome_by turn.More more r v since front given w had in
      let all = bytes_all front piece used in
      record {
        heard = given ++ a.told;
        viable = subst (IsViable (rules_of t) WithinTotal) all b.0.viable;
        no_value = subst HasNoValue all b.0.no_value;
        all_due = subst (λ z. AreDue z (given ++ a.told)) all b.0.all_due;
        has_heard = b.1;
        reads = subst (λ z. HasRead t z (given ++ a.told)) all b.0.reads;
      };
  refusal = λ since front given w had. tt;
  stopped = λ since front given w had. tt;
  within_piece = omega (arith, is, r.within, v.within, length-drop used piece);
  whole_piece = λ none. omega (arith, is, v.whole_piece more, length-drop used piece, r.within);
  same_rules = v.rules ∙ r.rules;
  fault_is_kept = tt;
  fault_is_final = λ fault f. absurd (let z : turn.More ≡ turn.Failed = sym more ∙ (fault_again r v fault f).0 in cc);
}

-- it is the cause that stands
same_fault : (t : Place) (c : Cause) (fault : Fault) → t.token ≡ Dead c → IsFaulted t fault → record { cause = c; at = t.taken } ≡ fault
same_fault t c fault dead f =
    let same : c ≡ fault.cause = let z : Dead c ≡ Dead fault.cause = sym dead ∙ f.0 in cc in
    ap (λ x. record { cause = x; at = t.taken }) same ∙ ap (λ n. record { cause = fault.cause; at = n }) f.1

-- a byte was rejected, for the cause that stands
pub refusal_scanned : {O : Type 0} {s₀ s t : Place} {H₀ H H' M : O → Events → Type 0} {piece : List ℕ} {used : ℕ} {turned : Turned} {c : Cause} →
    Runs O s₀ s H₀ H piece used → IsTurn O s t H H' M (drop used piece) turned → turned.turn ≡ turn.Failed → t.token ≡ Dead c →
    IsScanned O s₀ t H₀ H' M piece (Err (stop.Fault (record { cause = c; at = t.taken })))
refusal_scanned {s₀ = s₀} {s = s} {t = t} {piece = piece} {used = used} {c = c} r v failed dead = record {
  sound = v.sound;
  value_whole = λ since front given w had. tt;
  used_up = λ since front given w had. tt;
  refusal = λ since front given w had.
      let a = r.reads since front given w had in
      let b = outcome_by turn.Failed failed r v since front given w had in
      let f = b.0.refused in
      let all = bytes_all front piece used in
      record {
        heard = given ++ a.told;
        refused = subst (IsRefused (rules_of s₀) front (given ++ a.told) piece) (sym (same_fault t c b.0.fault dead b.0.kept))
            (subst (λ x. IsRefused x front (given ++ a.told) piece b.0.fault) r.rules (record {
              in_piece = omega (arith, f.in_piece, length-append front (take used piece));
              before_end = omega (arith, f.before_end, ap length all);
              viable = subst (λ z. IsViable (rules_of s) WithinTotal (take b.0.fault.at z)) all f.viable;
              refused = subst (λ z. IsRefusedFor (rules_of s) (take (b.0.fault.at + 1) z) b.0.fault.cause) all f.refused;
              all_due = subst (λ z. AreDue (take b.0.fault.at z) (given ++ a.told)) all f.all_due;
              no_value = subst (HasNoSpelling (rules_of s)) all f.no_value;
            }));
        has_heard = b.1;
      };
  stopped = λ since front given w had. tt;
  within_piece = tt;
  whole_piece = tt;
  same_rules = v.rules ∙ r.rules;
  fault_is_kept = (dead, refl);
  fault_is_final = λ fault f.
      let again = (fault_again r v fault f).1 in
      (ap (λ x. Err (stop.Fault x)) (same_fault t c fault dead (subst (λ x. IsFaulted x fault) (sym again) f)), again);
}

-- the listener has stopped, and reading has stopped for good
pub stop_scanned : {O : Type 0} {s₀ s t : Place} {H₀ H H' M : O → Events → Type 0} {piece : List ℕ} {used : ℕ} {turned : Turned} →
    Runs O s₀ s H₀ H piece used → IsTurn O s t H H' M (drop used piece) turned → turned.turn ≡ turn.Stopped →
    IsScanned O s₀ (at t (Dead cause.OutOfMemory)) H₀ H' M piece (Err (stop.Stopped t.taken))
stop_scanned {s₀ = s₀} {t = t} {piece = piece} {used = used} {turned = turned} r v stopped = record {
  sound = record {
    bounds = v.sound.bounds;
    nested = v.sound.nested;
    counted = v.sound.counted;
    frames_need = v.sound.frames_need;
    total = omega (arith, v.sound.total);
    token = tt;
  };
  value_whole = λ since front given w had. tt;
  used_up = λ since front given w had. tt;
  refusal = λ since front given w had. tt;
  stopped = λ since front given w had.
      let b = outcome_by turn.Stopped stopped r v since front given w had in
      let n = used + turned.used in
      let here = bytes_on front piece used turned.used in
      let size : length (front ++ take n piece) ≡ t.taken = sym (ap length here) ∙ sym b.taken in
      let parts : front ++ piece ≡ (front ++ take n piece) ++ drop n piece = sym (bytes_all front piece n) in
      let cut : take t.taken (front ++ piece) ≡ (front ++ take used piece) ++ take turned.used (drop used piece) =
      ap (take t.taken) parts ∙ front-append t.taken (front ++ take n piece) (drop n piece) size ∙ sym here in
      record {
        told = b.told;
        has_stopped = b.has_stopped;
        in_piece = omega (arith, size, length-append front (take n piece));
        within = omega (arith, size, ap length parts, length-append (front ++ take n piece) (drop n piece));
        viable = subst (IsViable (rules_of s₀) WithinTotal) (sym cut)
            (subst (λ x. IsViable x WithinTotal ((front ++ take used piece) ++ take turned.used (drop used piece))) r.rules b.viable);
        first_due = subst (λ z. BeginDue z b.told) (sym cut) b.first_due;
        later = b.later;
        all_due = subst (λ z. AreDue z (b.told ++ b.later)) (sym cut) b.all_due;
        begins_one = b.begins_one;
      };
  within_piece = tt;
  whole_piece = tt;
  same_rules = v.rules ∙ r.rules;
  fault_is_kept = (refl, refl);
  fault_is_final = λ fault f. absurd (let z : turn.Stopped ≡ turn.Failed = sym stopped ∙ (fault_again r v fault f).0 in cc);
}
