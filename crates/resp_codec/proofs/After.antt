-- What comes next of a buffer, when some bytes were taken before it.
use Rattle.std.proofs.Common.{◌≡◌, ◌⊎◌, inl, inr, ℕ, ◌≤◌, List, ◌++◌, length, take, sym, ap, subst, ◌∙◌, append_assoc, length-append, arith}
use Rattle.resp_value.specs.Data.{Datum}
use Rattle.resp_value.specs.Rules.{Rules, WithinTotal}
use Rattle.resp_value.specs.Spellings.{FaultOf, IsSpelling, IsViable}
use Rattle.resp_scan.specs.Reading.{HasNoSpelling, HasNoValue}
use Rattle.resp_scan.specs.declared.event.Fault.{Fault}
use Rattle.resp_decode.specs.Brief.{BeginsBrief, BringMemoryWants}
use Rattle.resp_decode.specs.Decoding.{HasTaken, LacksMemory, RefusesByte, WhereTaken, rules_of}
use Rattle.resp_decode.specs.declared.decoder.Decoder.{Decoder}
use Rattle.resp_codec.specs.Frames.{EndsBetween, EndsInsideValue, ValueEnds, IsBegun, IsReading, IsTruncated, RefusesBuffer, TakesAll}

-- a byte is refused, or no memory was found
abbrev IsRefusedAfter : Rules → List ℕ → List ℕ → Fault → Type 0
IsRefusedAfter r front seen fault = RefusesByte r front seen fault ⊎ LacksMemory r front seen fault

-- what is refused after them was refused with them
refused_after : (r : Rules) (front taken seen : List ℕ) (fault : Fault) →
    IsRefusedAfter r (front ++ taken) seen fault → IsRefusedAfter r front (taken ++ seen) fault
refused_after r front taken seen fault (inl w) =
    let same = append_assoc front taken seen in
    inl (record {
      rule = w.rule;
      names = w.names;
      fault_of = subst (λ z. FaultOf r z w.rule fault.at) same w.fault_of;
      in_piece = omega (arith, w.in_piece, length-append front taken);
      no_value = subst (HasNoSpelling r) same w.no_value;
    })
refused_after r front taken seen fault (inr w) =
    let same = append_assoc front taken seen in
    inr (record {
      names = w.names;
      in_piece = omega (arith, w.in_piece, length-append front taken);
      within = subst (λ z. fault.at ≤ length z) same w.within;
      viable = subst (λ z. IsViable r WithinTotal (take fault.at z)) same w.viable;
      wanted = subst (λ z. BringMemoryWants (take fault.at z)) same w.wanted;
      not_brief = subst (λ z. BeginsBrief z → ⊥) same w.not_brief;
    })

-- t has taken these bytes after what d has, by the same rules
module _ (d t : Decoder) (bytes : List ℕ) (reading : IsReading d)
    (takes : WhereTaken d (λ front. HasTaken t (front ++ bytes))) (same : rules_of t ≡ rules_of d) where
  pub value_after : (buffer : List ℕ) (x : Datum) (after : Decoder) (left : List ℕ) →
      ValueEnds t buffer x after left → ValueEnds d (bytes ++ buffer) x after left
  value_after buffer x after left v = record {
    reading = reading;
    used = bytes ++ v.used;
    whole = ap (λ z. bytes ++ z) v.whole ∙ sym (append_assoc bytes v.used left);
    spelling = λ front taken.
        let spelled = v.spelling (front ++ bytes) (takes front taken) in
        subst (λ r. IsSpelling r x (front ++ (bytes ++ v.used))) same
        (subst (IsSpelling (rules_of t) x) (append_assoc front bytes v.used) spelled);
    takes = λ front taken. v.takes (front ++ bytes) (takes front taken);
  }

  pub begun_after : (buffer : List ℕ) → IsBegun t buffer → IsBegun d (bytes ++ buffer)
  begun_after buffer b = record {
    reading = reading;
    no_value = λ front taken.
        subst HasNoValue (append_assoc front bytes buffer) (b.no_value (front ++ bytes) (takes front taken));
    viable = λ front taken.
        let viable = b.viable (front ++ bytes) (takes front taken) in
        subst (λ r. IsViable r WithinTotal (front ++ (bytes ++ buffer))) same
        (subst (IsViable (rules_of t) WithinTotal) (append_assoc front bytes buffer) viable);
  }

  pub takes_after : (buffer : List ℕ) (after : Decoder) (left : List ℕ) → TakesAll t buffer after left →
      TakesAll d (bytes ++ buffer) after left
  takes_after buffer after left w = record {
    none_left = w.none_left;
    takes = λ front taken.
        subst (HasTaken after) (append_assoc front bytes buffer) (w.takes (front ++ bytes) (takes front taken));
  }

  pub refusal_after : (buffer : List ℕ) (fault : Fault) (after : Decoder) (left : List ℕ) →
      RefusesBuffer t buffer fault after left → RefusesBuffer d (bytes ++ buffer) fault after left
  refusal_after buffer fault after left w = record {
    seen = bytes ++ w.seen;
    beyond = w.beyond;
    begins = ap (λ z. bytes ++ z) w.begins ∙ sym (append_assoc bytes w.seen w.beyond);
    refused = λ front taken.
        let refused = w.refused (front ++ bytes) (takes front taken) in
        subst (λ r. IsRefusedAfter r front (bytes ++ w.seen) fault) same
        (refused_after (rules_of t) front bytes w.seen fault refused);
    answered_again = λ standing stands. absurd (reading standing stands);
    stands = w.stands;
    dropped = bytes ++ w.dropped;
    ends = ap (λ z. bytes ++ z) w.ends ∙ sym (append_assoc bytes w.dropped left);
  }

  pub between_after : (buffer : List ℕ) → EndsBetween t buffer → EndsBetween d (bytes ++ buffer)
  between_after buffer b = λ front taken.
      sym (append_assoc front bytes buffer) ∙ b (front ++ bytes) (takes front taken)

  pub inside_after : (buffer : List ℕ) (fault : Fault) → EndsInsideValue t buffer fault →
      EndsInsideValue d (bytes ++ buffer) fault
  inside_after buffer fault w = λ front taken.
      subst (λ z. IsTruncated z fault) (append_assoc front bytes buffer) (w (front ++ bytes) (takes front taken))
