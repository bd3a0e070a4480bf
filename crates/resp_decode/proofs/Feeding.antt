-- What a decoder has taken, from what its scanner and its listener say.
use Rattle.std.proofs.Common.{◌≡◌, ◌⊎◌, inl, inr, ℕ, zero, suc, ◌≤◌, ◌<◌, Bool, true, false, cond, ltb, None, Some, List, [], ◌∷◌, ◌++◌, length, take, drop, ◌+◌, ◌-◌, append_assoc, length-append, refl, sym, ap, subst, ◌∙◌, arith}
use Rattle.std.specs.Prelude.{IsOk, OnOk, OnErr, ◌↔◌, Result, Ok, Err}
use Rattle.std.proofs.Math.Bridge.{le_prop}
use Rattle.std.proofs.Math.Logic.{∥∥₁_elim, ∥∥₁_map}
use Rattle.std.proofs.lemmas.List.{append-nil, length-take-le, take-append-drop, take_all}
use Rattle.std.proofs.lemmas.Bool.{ltb-true}
use Rattle.std.proofs.Math.Seq.{take-append-add, take-nil}
use Rattle.resp_value.specs.Trees.{Tree, Spells, leaf, null, PlainNull, text}
use Rattle.resp_value.specs.TreeValues.{value}
use Rattle.resp_value.specs.Rules.{Rules, WithinTotal}
use Rattle.resp_value.specs.Spellings.{FaultOf, IsSpelling, IsViable}
use Rattle.resp_value.specs.Values.{datum_of}
use Rattle.resp_value.specs.declared.value.Value.{Value}
use Rattle.resp_value.proofs.SpellingLaws.{text_not_empty}
use Rattle.resp_value.proofs.ViabilityLaws.{fronts_of_viable_texts_are_viable}
use Rattle.resp_fronts.specs.Events.{Timed, all_events, events_due}
use Rattle.resp_scan.specs.Kinds.{rules_of}
use Rattle.resp_scan.specs.Reading.{AreDue, BeginDue, Events, HasNoValue, HasRead, IsFaulted, IsRefused, MayEnd, WhereRead}
use Rattle.resp_scan.specs.Listening.{HearsPiece, HearsRefusal, HearsValue, OnFault, OnStopped, StopsAfter, fault_of}
use Rattle.resp_scan.specs.Machine.Tokens.{Place}
use Rattle.resp_scan.specs.declared.event.Fault.{Fault}
use Rattle.resp_scan.specs.declared.event.ScanError.{ScanError}
use Rattle.resp_scan.specs.declared.event.ScanError.TheVariants as stop
use Rattle.resp_decode.specs.Brief.{AreBrief, BeginsBrief, WantMemory}
use Rattle.resp_decode.specs.Builds.{Construction, nothing}
use Rattle.resp_decode.specs.Decoding.{LacksMemory, RefusesByte, TakesPiece}
use Rattle.resp_decode.specs.Hearing.{HasHeard}
use Rattle.resp_decode.specs.Holding.{construction_of}
use Rattle.resp_decode.specs.Standing.{TakesFront, TakesOrStands}
use Rattle.resp_decode.specs.Weights.{weight_of}
use Rattle.resp_decode.specs.declared.held.HeldParts.{HeldParts}
use Rattle.resp_decode.proofs.Counted.{events_weigh}
use Rattle.resp_decode.proofs.Values.{are_brief, are_good, brief_first, value_is_built}

-- nothing is due of no byte
pub due_at_start : (xs : List Timed) → events_due 0 xs ≡ []
due_at_start [] = refl
due_at_start (x ∷ xs) = case (ltb x.at 0) refl (due_at_start xs)
  where
    case : (early : Bool) → ltb x.at 0 ≡ early → events_due 0 xs ≡ [] → cond early (x.event ∷ events_due 0 xs) (events_due 0 xs) ≡ []
    case true is others = let early : x.at < 0 = ltb-true x.at 0 is in absurd (omega arith)
    case false is others = others

pub none_due_at_start : AreDue [] []
none_due_at_start rest whole spells = due_at_start (all_events whole)

-- no text has no value
pub no_value_at_start : HasNoValue []
no_value_at_start n tree spells = text_not_empty tree (spells.spelled ∙ take-nil n)

-- what was given of no byte is nothing
pub given_at_start : (given : Events) → AreDue [] given → given ≡ []
given_at_start given due =
    let whole : Tree = leaf (null PlainNull) in
    sym (due (text whole) whole (record { is_tree = tt; spelled = refl })) ∙ due_at_start (all_events whole)

-- Both decoders: the values held are the result of the events given, in the words of the decoder's listener.

-- nothing is taken where the scanner has read nothing, and nothing is held
pub takes_nothing : (Has : Events → Type 0) (s : Place) → HasRead s [] [] → Has [] → TakesFront Has s []
takes_nothing Has s reads heard = record {
  given = [];
  reads = reads;
  heard = heard;
  all_due = none_due_at_start;
  no_value = no_value_at_start;
}

-- between values nothing is taken with another scanner that has read nothing
takes_nothing_anew : (Has : Events → Type 0) (s s' : Place) (front : List ℕ) → TakesFront Has s front → front ≡ [] →
    HasRead s' [] [] → TakesFront Has s' []
takes_nothing_anew Has s s' front w none reads =
    takes_nothing Has s' reads (subst Has (given_at_start w.given (subst (λ z. AreDue z w.given) none w.all_due))
    w.heard)

-- a change of version between values keeps it so
pub takes_nothing_of_version : {A B : Type 0} (Has : Events → Type 0) (s s' : Place) (front : List ℕ)
    (result : Result A B) → TakesFront Has s front → (IsOk result → front ≡ []) → OnOk result (HasRead s' [] []) →
    OnOk result (TakesFront Has s' [])
takes_nothing_of_version Has s s' front (Ok x) w between reads =
    takes_nothing_anew Has s s' front w (between refl) reads
takes_nothing_of_version Has s s' front (Err x) w between reads = tt

-- and it takes a front or stands at a fault as before
pub reads_on_in_version : {A B : Type 0} (Has : Events → Type 0) (Nothing : Type 0) (s s' : Place)
    (result : Result A B) → ∥ TakesOrStands Has Nothing s ∥₁ → WhereRead s (λ front given. IsOk result ↔ (front ≡ [])) →
    WhereRead s (λ front given. OnOk result (HasRead s' [] [])) → OnErr result (s' ≡ s) →
    ((fault : Fault) → IsFaulted s fault → OnOk result ⊥) → ∥ TakesOrStands Has Nothing s' ∥₁
reads_on_in_version Has Nothing s s' (Err x) reading between reads same never =
    subst (λ z. ∥ TakesOrStands Has Nothing z ∥₁) (sym same) reading
reads_on_in_version Has Nothing s s' (Ok x) reading between reads same never = ∥∥₁_map reading after
  where
    after : TakesOrStands Has Nothing s → TakesOrStands Has Nothing s'
    after (inl (front, w)) =
        inl (
          [],
          takes_nothing_anew Has s s' front w ((between front w.given w.reads).0 refl)
              (reads front w.given w.reads),
        )
    after (inr (fault, stands)) = absurd (never fault stands.0)

-- the input may end exactly between values
pub ends_between_values : (Has : Events → Type 0) (s : Place) (front : List ℕ) (Ended : Type 0) →
    TakesFront Has s front → Ended ↔ MayEnd (rules_of s) front → Ended ↔ (front ≡ [])
ends_between_values Has s front Ended w may = (λ ended. only (may.0 ended), λ none. may.1 (inl none))
  where
    only : MayEnd (rules_of s) front → front ≡ []
    only (inl none) = none
    only (inr v) = absurd (w.no_value (length front) v.tree (subst (Spells v.tree) (sym (take_all (length front) front (omega arith))) v.spells))

-- a piece that is used up is taken
pub takes_on : {Has Heard : Events → Type 0} {s : Place} {written : List ℕ} → HearsPiece s Heard written →
    ((es : Events) → Heard es → Has es) → TakesFront Has s written
takes_on h holds = record {
  given = h.heard;
  reads = h.reads;
  heard = holds h.heard h.has_heard;
  all_due = h.all_due;
  no_value = h.no_value;
}

pub takes_piece : {r : Rules} {Has Heard : Events → Type 0} {s : Place} {written piece : List ℕ} {used : ℕ} →
    used ≡ length piece → rules_of s ≡ r → HearsPiece s Heard written → ((es : Events) → Heard es → Has es) →
    TakesPiece r (TakesFront Has s) written piece used
takes_piece {written = written} whole same h holds = record {
  whole_piece = whole;
  no_value = h.no_value;
  viable = subst (λ r. IsViable r WithinTotal written) same h.viable;
  takes = takes_on h holds;
}

-- A call that returns no fault, whatever was taken before.

-- where no fault stands, this holds if it holds of every front
of_front : {P : Type 0} (Has : Events → Type 0) (Nothing : Type 0) (s : Place) → TakesOrStands Has Nothing s →
    ((fault : Fault) → IsFaulted s fault → ⊥) → ((front : List ℕ) → TakesFront Has s front → P) → P
of_front Has Nothing s (inl (front, w)) never of = of front w
of_front Has Nothing s (inr (fault, stands)) never of = absurd (never fault stands.0)

-- whatever came of a piece, a front was taken then
pub reads_on : {Has Has' : Events → Type 0} {Nothing Nothing' : Type 0} {s s' : Place} →
    ∥ TakesOrStands Has Nothing s ∥₁ → ((fault : Fault) → IsFaulted s fault → ⊥) →
    ((front : List ℕ) → TakesFront Has s front → (after : List ℕ) × TakesFront Has' s' after) →
    ∥ TakesOrStands Has' Nothing' s' ∥₁
reads_on {Has = Has} {Nothing = Nothing} {s = s} reading never of =
    ∥∥₁_map reading (λ (before : TakesOrStands Has Nothing s). inl (of_front Has Nothing s before never of))

-- a bound that holds of every front
pub within : {Has : Events → Type 0} {Nothing : Type 0} {s : Place} (m n : ℕ) → ∥ TakesOrStands Has Nothing s ∥₁ →
    ((fault : Fault) → IsFaulted s fault → ⊥) → ((front : List ℕ) → TakesFront Has s front → m ≤ n) → m ≤ n
within {Has = Has} {Nothing = Nothing} {s = s} m n reading never of =
    ∥∥₁_elim reading le_prop (λ (before : TakesOrStands Has Nothing s). of_front Has Nothing s before never of)

-- The decoder of whole values.

-- the weight kept is that of what is held, and at most the bytes taken
pub record IsLight (held : HeldParts) (front : List ℕ) : Type 0 where
  pub same : held.weight ≡ weight_of (construction_of held)
  pub light : held.weight ≤ length front

pub is_light : (s : Place) (held : HeldParts) (front : List ℕ) → TakesFront (HasHeard held) s front →
    IsViable (rules_of s) WithinTotal front → IsLight held front
is_light s held front w viable =
    let begin : BeginDue front w.given = λ rest whole spells. ([], w.all_due rest whole spells ∙ sym (append-nil w.given)) in
    let good = are_good (rules_of s) front w.given viable begin in
    let weigh = events_weigh w.given nothing good.may in
    record {
      same = omega (arith, w.heard.weighs, weigh, ap weight_of w.heard.holds);
      light = omega (arith, w.heard.weighs, good.light);
    }

-- where a value ends it is held whole
value_whole : (r : Rules) (s : Place) (held : HeldParts) (written : List ℕ) (h : HearsValue r s (HasHeard held) written) →
    (tree : Tree) × IsSpelling r (value tree) written × (construction_of held ≡ record nothing { whole = Some (value tree) })
value_whole r s held written h =
    let b = value_is_built r written h.heard h.is_value in
    (b.tree, b.spelling, h.has_heard.holds ∙ b.is)

-- the text is a spelling of the value that is taken out
pub spells_value : (r : Rules) (s : Place) (held : HeldParts) (written : List ℕ) (x : Value) →
    HearsValue r s (HasHeard held) written → Some (datum_of x) ≡ (construction_of held).whole →
    IsSpelling r (datum_of x) written
spells_value r s held written x h taken =
    let (tree, spelling, is) = value_whole r s held written h in
    let same : Some (datum_of x) ≡ Some (value tree) = taken ∙ ap (λ b. let c : Construction = b in c.whole) is in
    let same_value : value tree ≡ datum_of x = cc in
    subst (λ y. IsSpelling r y written) same_value spelling

-- when it is taken out, nothing is taken of the next
pub takes_next : (r : Rules) (s : Place) (held left : HeldParts) (written : List ℕ) →
    HearsValue r s (HasHeard held) written → construction_of left ≡ record (construction_of held) { whole = None } →
    left.weight ≡ 0 → TakesFront (HasHeard left) s []
takes_next r s held left written h holds weighs =
    let (tree, spelling, is) = value_whole r s held written h in
    takes_nothing (HasHeard left) s h.reads
    (record { holds = holds ∙ ap (λ b. let c : Construction = record b { whole = None } in c) is; weighs = weighs })

-- so one is taken out
pub holds_some_value : (r : Rules) (s : Place) (held : HeldParts) (written : List ℕ) → HearsValue r s (HasHeard held) written →
    (construction_of held).whole ≡ None → ⊥
holds_some_value r s held written h none =
    let (tree, spelling, is) = value_whole r s held written h in
    let wrong : None ≡ Some (value tree) = sym none ∙ ap (λ b. let c : Construction = b in c.whole) is in
    cc

-- the first events due of a text that begins an integer, a truth value or a null want no memory
brief_given : (r : Rules) (written : List ℕ) (n : ℕ) (es : Events) → BeginsBrief written → IsViable r WithinTotal (take n written) →
    BeginDue (take n written) es → AreBrief es
brief_given r [] n es brief v begin = absurd brief
brief_given r (byte ∷ written) zero es brief v begin =
    let (owed, is) = begin v.rest v.tree v.spells in
    brief_first es owed (subst AreBrief (sym (due_at_start (all_events v.tree)) ∙ is) tt)
brief_given r (byte ∷ written) (suc n) es brief v begin = are_brief r byte (take n written) es brief v begin

-- the byte that a scanner refuses is the first after which nothing can follow
pub fault_of_refused : (r : Rules) (front piece : List ℕ) (fault : Fault) (given : Events) → (w : IsRefused r front given piece fault) →
    FaultOf r (front ++ piece) w.refused.rule fault.at
fault_of_refused r front piece fault given w =
    let text = front ++ piece in
    let n = fault.at in
    record {
      front = take (n + 1) text;
      beyond = drop (n + 1) text;
      whole = sym (take-append-drop (n + 1) text);
      place = sym (length-take-le (n + 1) text (omega (arith, w.before_end)));
      cause = w.refused.cause;
      first = viable_before;
    }
  where
    viable_before : (before : List ℕ) (byte : ℕ) (after : List ℕ) → take (fault.at + 1) (front ++ piece) ≡ before ++ byte ∷ after →
        IsViable r WithinTotal before
    viable_before before byte after is =
        let text = front ++ piece in
        let n = fault.at in
        let beyond = (byte ∷ after) ++ drop (n + 1) text in
        let whole : text ≡ before ++ beyond = sym (take-append-drop (n + 1) text) ∙ ap (λ z. z ++ drop (n + 1) text) is ∙
        append_assoc before (byte ∷ after) (drop (n + 1) text) in
        let m = n - length before in
        let at : n ≡ length before + m = omega (
          arith,
          length-take-le (n + 1) text (omega (arith, w.before_end)),
          ap length is,
          length-append before (byte ∷ after),
        ) in
        let split : take n text ≡ before ++ take m beyond = ap (λ k. take k text) at ∙ ap (take (length before + m)) whole ∙ take-append-add before beyond m in
        fronts_of_viable_texts_are_viable r WithinTotal before (take m beyond) (subst (IsViable r WithinTotal) split w.viable)

refused_byte : (r : Rules) (front piece : List ℕ) (fault : Fault) (given : Events) → IsRefused r front given piece fault → RefusesByte r front piece fault
refused_byte r front piece fault given w = record {
  rule = w.refused.rule;
  names = w.refused.names;
  fault_of = fault_of_refused r front piece fault given w;
  in_piece = w.in_piece;
  no_value = w.no_value;
}

-- a call that was refused met a byte after which nothing can follow, or found no memory
pub refuses_or_lacks : (r : Rules) (HasHeard' : Events → Type 0) (front piece : List ℕ) (s : ScanError) →
    OnFault s (HearsRefusal r HasHeard' front piece) → OnStopped s (StopsAfter r WantMemory front piece) →
    RefusesByte r front piece (fault_of s) ⊎ LacksMemory r front piece (fault_of s)
refuses_or_lacks r H front piece (stop.Fault fault) refused stopped = inl (refused_byte r front piece fault refused.heard refused.refused)
refuses_or_lacks r H front piece (stop.Stopped taken) refused stopped = inr (record {
  names = refl;
  in_piece = stopped.in_piece;
  within = stopped.within;
  viable = stopped.viable;
  wanted = (stopped.told, stopped.first_due, stopped.has_stopped);
  not_brief = λ brief. stopped.has_stopped (brief_given r (front ++ piece) taken stopped.told brief stopped.viable stopped.first_due);
})
