-- Replies whose texts stay in the buffer, read one after another.
use Rattle.std.proofs.Common.{◌≡◌, ℕ, zero, suc, ◌+◌, ◌-◌, ◌≤◌, List, [], ◌∷◌, ◌++◌, length, take, drop, refl, sym, ap, subst, ◌∙◌, arith, append_assoc, append-nil}
use Rattle.std.proofs.lemmas.List.{drop-take, take-append-drop}
use Rattle.resp_value.specs.Bounds.{AreBounds}
use Rattle.resp_value.specs.Data.{Datum, data_of_list}
use Rattle.resp_value.specs.Rules.{Rules, WithinTotal}
use Rattle.resp_value.specs.Spellings.{AreSpellings, IsSpelling, IsViable}
use Rattle.resp_scan.specs.declared.event.Fault.{Fault}
use Rattle.resp_scan.specs.declared.event.ScanError.{ScanError}
use Rattle.resp_scan.specs.declared.event.ScanError.TheVariants as stop
use Rattle.resp_scan.specs.Kinds.{rules_of}
use Rattle.resp_scan.specs.Listening.{HearsPiece, HearsRefusal, HearsValue, OnFault, OnStopped, StopsAfter}
use Rattle.resp_scan.specs.Machine.Tokens.{Place}
use Rattle.resp_scan.specs.Reading.{HasNoValue, IsSpelled}
use Rattle.resp_value.proofs.DefaultLimits.{text_at_least}
use Rattle.resp_value.proofs.TypeBytes.{the_empty_text_is_viable}
use Rattle.resp_flat.specs.declared.node.Node.{Node}
use Rattle.resp_flat.specs.declared.reading.Filled.{Filled}
use Rattle.resp_flat.specs.Nodes.{AreNodesOf, AreNodesOfEach}
use Rattle.resp_flat.specs.Plain.{IsPlain}
use Rattle.resp_flat.specs.Places.{BeginsWithReply, IsIncomplete, RejectsByte}

-- values, and one more after them
each_in_place : (buffer : List ℕ) (xs : List Datum) (x : Datum) (ns ns' : List Node) → AreNodesOfEach buffer (data_of_list xs) ns → AreNodesOf buffer x ns' →
    AreNodesOfEach buffer (data_of_list (xs ++ x ∷ [])) (ns ++ ns')
each_in_place buffer [] x ns ns' p is = record {
  first = ns';
  others = [];
  nodes_are = ap (λ z. z ++ ns') p ∙ sym (append-nil ns');
  is_first = is;
  are_others = refl;
}
each_in_place buffer (y ∷ ys) x ns ns' p is = record {
  first = p.first;
  others = p.others ++ ns';
  nodes_are = ap (λ z. z ++ ns') p.nodes_are ∙ append_assoc p.first p.others ns';
  is_first = p.is_first;
  are_others = each_in_place buffer ys x p.others ns' p.are_others is;
}

-- these replies were read
pub record ReadsPlaces (rules : Rules) (buffer : List ℕ) (filled : Filled) (nodes : List Node) : Type 0 where
  pub values : List Datum
  pub spelled : AreSpellings rules values (take filled.end buffer)
  pub within : filled.end ≤ length buffer
  pub room : filled.count ≤ length nodes
  pub stand : AreNodesOfEach buffer (data_of_list values) (take filled.count nodes)

-- the first of the first bytes
take_less : (n m : ℕ) (bytes : List ℕ) → n ≤ m → take n (take m bytes) ≡ take n bytes
take_less zero m bytes few = refl
take_less (suc n) zero bytes few = absurd (omega arith)
take_less (suc n) (suc m) [] few = refl
take_less (suc n) (suc m) (b ∷ bytes) few = ap (λ l. b ∷ l) (take_less n m bytes (omega arith))

-- the first bytes, and some after them
take_both : (n m : ℕ) (bytes : List ℕ) → n ≤ m → take m bytes ≡ take n bytes ++ take (m - n) (drop n bytes)
take_both n m bytes few =
    let e : n + (m - n) ≡ m = omega (arith, few) in
    sym (take-append-drop n (take m bytes)) ∙ ap (λ l. l ++ drop n (take m bytes)) (take_less n m bytes few) ∙
    ap (λ l. take n bytes ++ l) (ap (λ k. drop n (take k bytes)) (sym e) ∙ drop-take n (m - n) bytes)

-- the spelling of a value more
spellings-more : (r : Rules) (xs : List Datum) (x : Datum) (front next : List ℕ) → AreSpellings r xs front → IsSpelling r x next →
    AreSpellings r (xs ++ x ∷ []) (front ++ next)
spellings-more r [] x front next are is = (next, [], is, refl, ap (λ z. z ++ next) are ∙ sym (append-nil next))
spellings-more r (y ∷ ys) x front next are is =
    let (first, beyond, spells, others, whole) = are in
    (first, beyond ++ next, spells, spellings-more r ys x beyond next others is, ap (λ z. z ++ next) whole ∙ append_assoc first beyond next)

-- a reply more
pub one_place_more : (rules : Rules) (buffer : List ℕ) (before after : Filled) (old new : List Node) → ReadsPlaces rules buffer before old →
    IsPlain rules buffer before after old new → ReadsPlaces rules buffer after new
one_place_more rules buffer before after old new w p =
    let forward = p.forward in
    record {
      values = w.values ++ p.value ∷ [];
      spelled = subst (AreSpellings rules (w.values ++ p.value ∷ [])) (sym (take_both before.end after.end buffer (omega (arith, forward))))
          (spellings-more rules w.values p.value (take before.end buffer) (take (after.end - before.end) (drop before.end buffer)) w.spelled p.spelling);
      within = p.within;
      room = p.room;
      stand = subst (AreNodesOfEach buffer (data_of_list (w.values ++ p.value ∷ []))) (sym p.filled)
          (each_in_place buffer w.values p.value (take before.count old) p.own w.stand p.stand);
    }

nothing_of : (n : ℕ) → take {A = ℕ} n [] ≡ []
nothing_of zero = refl
nothing_of (suc n) = refl

-- no value is empty
no_value_in_none : HasNoValue []
no_value_in_none n tree spells =
    let some = text_at_least tree in
    absurd (omega (arith, some, ap length spells.spelled, ap length (nothing_of n)))

-- nothing is left
pub none_left : (rules : Rules) → AreBounds rules.limits → (rest : List ℕ) → length rest ≡ 0 → IsIncomplete rules rest
none_left rules bounds [] none = record { viable = the_empty_text_is_viable rules bounds WithinTotal; no_value = no_value_in_none }
none_left rules bounds (b ∷ rest) none = absurd (omega (arith, none))

-- the bytes are used up
pub incomplete_by : (r : Rules) (new : Place) (bytes : List ℕ) → rules_of new ≡ r → HearsPiece new (λ _. Unit {0}) bytes → IsIncomplete r bytes
incomplete_by r new bytes same h = record { viable = subst (λ z. IsViable z WithinTotal bytes) same h.viable; no_value = h.no_value }

-- a value has ended
pub begins_by : (r old : Rules) (new : Place) (bytes : List ℕ) (used : ℕ) → old ≡ r → used ≤ length bytes → HearsValue old new (λ _. Unit {0}) (take used bytes) →
    BeginsWithReply r bytes used
begins_by r old new bytes used same within h =
    let v = h.is_value in
    record {
      within = within;
      spelled = subst (λ z. IsSpelled z (take used bytes)) same (record { tree = v.tree; spells = v.spells; keeps = v.keeps });
    }

-- a byte is rejected
pub rejects_by : (r old : Rules) (bytes : List ℕ) (fault : Fault) (x : ScanError) → old ≡ r → x ≡ stop.Fault fault →
    OnFault x (HearsRefusal old (λ _. Unit {0}) [] bytes) → RejectsByte r bytes fault
rejects_by r old bytes fault x same is given =
    let h : HearsRefusal old (λ _. Unit {0}) [] bytes fault = subst (λ y. OnFault y (HearsRefusal old (λ _. Unit {0}) [] bytes)) is given in
    subst (λ z. RejectsByte z bytes fault) same (record { given = h.heard; refused = h.refused })

-- who ignores all events never stops
pub never_stops : (old : Rules) (bytes : List ℕ) (taken : ℕ) (x : ScanError) → x ≡ stop.Stopped taken → OnStopped x (StopsAfter old (λ _. ⊥) [] bytes) → ⊥
never_stops old bytes taken x is given =
    let h : StopsAfter old (λ _. ⊥) [] bytes taken = subst (λ y. OnStopped y (StopsAfter old (λ _. ⊥) [] bytes)) is given in
    h.has_stopped
