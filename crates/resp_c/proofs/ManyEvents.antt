-- Events told one after another, and what they say of the bytes used.
use Rattle.std.proofs.Common.{◌≡◌, ◌⊎◌, inl, inr, ℕ, ◌+◌, ◌-◌, ◌<◌, ◌≤◌, List, [], ◌∷◌, ◌++◌, length, flat_map, take, drop, None, Some, Ok, Err, refl, sym, ap, subst, ◌∙◌, arith, append_assoc, append-nil}
use Rattle.std.proofs.lemmas.List.{drop-drop, drop-set-lt, flat_map_more, length-drop, take-append-drop, take-set-le, take_more_set}
use Rattle.std.proofs.Math.ListN.{set}
use Rattle.std.proofs.Math.Seq.{take-length}
use Rattle.std.specs.List.{AllByRecursion}
use Rattle.resp_value.specs.Rules.{Rules}
use Rattle.resp_value.specs.Trees as tree
use Rattle.resp_value.specs.Trees.{Tree}
use Rattle.resp_fronts.specs.Events.{events, without_places}
use Rattle.resp_fronts.specs.Events as e
use Rattle.resp_scan.specs.declared.event.Event.{Event}
use Rattle.resp_scan.specs.declared.event.Event.TheVariants as event
use Rattle.resp_scan.specs.declared.event.Fault.{Fault}
use Rattle.resp_scan.specs.declared.event.TextKind.{TextKind}
use Rattle.resp_scan.specs.Kinds.{rules_of}
use Rattle.resp_scan.specs.Listening.{whole_text_events}
use Rattle.resp_scan.specs.Machine.Tokens.{Place}
use Rattle.resp_scan.specs.Reading.{Events, HasRead, IsFaulted, IsRefused, IsValue}
use Rattle.resp_scan.specs.Slots.{ShowsEvent, ShowsText, Steps, StepsOverText}
use Rattle.resp_scan.proofs.CallClauses.WholeTexts.{taken_on}
use Rattle.resp_c.specs.Scans.{IsTreeWithin, IsUsedUp, ReadsTo, Scans, StandFor, StandsForEvent, StandsForText, all_events_of, events_of_trees, used_by}
use Rattle.resp_c.specs.Told.{Tells, TellsMore, TellsWhole}
use Rattle.resp_c.specs.declared.event.RespEvent.{RespEvent}

-- Trees read one after another.

events-snoc : (trees : List Tree) (tree : Tree) →
    events_of_trees (trees ++ tree ∷ []) ≡ events_of_trees trees ++ (without_places (events 0 tree) ++ e.Done ∷ [])
events-snoc [] tree = refl
events-snoc (t ∷ ts) tree = ap (λ z. without_places (events 0 t) ++ e.Done ∷ z) (events-snoc ts tree) ∙
    sym (append_assoc (without_places (events 0 t)) (e.Done ∷ events_of_trees ts) (without_places (events 0 tree) ++ e.Done ∷ []))

keep-snoc : (r : Rules) (trees : List Tree) (tree : Tree) → AllByRecursion (IsTreeWithin r) trees → IsTreeWithin r tree →
    AllByRecursion (IsTreeWithin r) (trees ++ tree ∷ [])
keep-snoc r [] tree all is = (is, tt)
keep-snoc r (t ∷ ts) tree all is = (all.0, keep-snoc r ts tree all.1 is)

-- more bytes and events of the value that is being read
reads_on : (r : Rules) (written : List ℕ) (told : Events) (Ends Ends' : List ℕ → Events → Type 0) (bytes : List ℕ) (more : Events) →
    ReadsTo r written told Ends → ((front : List ℕ) (given : Events) → Ends front given → Ends' (front ++ bytes) (given ++ more)) →
    ReadsTo r (written ++ bytes) (told ++ more) Ends'
reads_on r written told Ends Ends' bytes more w ends = record {
  trees = w.trees;
  front = w.front ++ bytes;
  given = w.given ++ more;
  keep = w.keep;
  parts = ap (λ z. z ++ bytes) w.parts ∙ append_assoc (flat_map tree.text w.trees) w.front bytes;
  told_of = ap (λ z. z ++ more) w.told_of ∙ append_assoc (events_of_trees w.trees) w.given more;
  ends = ends w.front w.given w.ends;
}

-- bytes alone
reads_bytes : (r : Rules) (written : List ℕ) (told : Events) (Ends Ends' : List ℕ → Events → Type 0) (bytes : List ℕ) → ReadsTo r written told Ends →
    ((front : List ℕ) (given : Events) → Ends front given → Ends' (front ++ bytes) given) → ReadsTo r (written ++ bytes) told Ends'
reads_bytes r written told Ends Ends' bytes w ends = record {
  trees = w.trees;
  front = w.front ++ bytes;
  given = w.given;
  keep = w.keep;
  parts = ap (λ z. z ++ bytes) w.parts ∙ append_assoc (flat_map tree.text w.trees) w.front bytes;
  told_of = w.told_of;
  ends = ends w.front w.given w.ends;
}

-- nothing more
reads_as : (r : Rules) (written : List ℕ) (told : Events) (Ends Ends' : List ℕ → Events → Type 0) → ReadsTo r written told Ends →
    ((front : List ℕ) (given : Events) → Ends front given → Ends' front given) → ReadsTo r written told Ends'
reads_as r written told Ends Ends' w ends = record {
  trees = w.trees;
  front = w.front;
  given = w.given;
  keep = w.keep;
  parts = w.parts;
  told_of = w.told_of;
  ends = ends w.front w.given w.ends;
}

-- the value has ended
reads_done : (r : Rules) (written : List ℕ) (told : Events) (Ends Ends' : List ℕ → Events → Type 0) → ReadsTo r written told Ends →
    ((front : List ℕ) (given : Events) → Ends front given → IsValue r front given) → Ends' [] [] → ReadsTo r written (told ++ e.Done ∷ []) Ends'
reads_done r written told Ends Ends' w value ends =
    let v = value w.front w.given w.ends in
    record {
      trees = w.trees ++ v.tree ∷ [];
      front = [];
      given = [];
      keep = keep-snoc r w.trees v.tree w.keep (v.spells.is_tree, v.keeps);
      parts = w.parts ∙ ap (λ z. flat_map tree.text w.trees ++ z) (sym v.spells.spelled) ∙ flat_map_more tree.text [] w.trees v.tree ∙
          sym (append-nil (flat_map tree.text (w.trees ++ v.tree ∷ [])));
      told_of = ap (λ z. z ++ e.Done ∷ []) w.told_of ∙ append_assoc (events_of_trees w.trees) w.given (e.Done ∷ []) ∙
          ap (λ z. events_of_trees w.trees ++ (z ++ e.Done ∷ [])) v.told ∙ sym (events-snoc w.trees v.tree) ∙
          sym (append-nil (events_of_trees (w.trees ++ v.tree ∷ [])));
      ends = ends;
    }

-- Events in the array.

used-snoc : (outs : List RespEvent) (out : RespEvent) → used_by (outs ++ out ∷ []) ≡ used_by outs + out.used
used-snoc [] out = omega arith
used-snoc (x ∷ xs) out = omega (arith, used-snoc xs out)

abbrev StandsForOne : List ℕ → RespEvent → Events → Type 0
StandsForOne piece out told = StandsForEvent piece out told ⊎ StandsForText piece out told

stand-snoc : (piece : List ℕ) (outs : List RespEvent) (out : RespEvent) (told more : Events) → StandFor piece outs told →
    StandsForOne (drop (used_by outs) piece) out more → StandFor piece (outs ++ out ∷ []) (told ++ more)
stand-snoc piece [] out told more none one = (more, [], one, refl, ap (λ z. z ++ more) none ∙ sym (append-nil more))
stand-snoc piece (x ∷ xs) out told more (first, rest, is, stand, parts) one = (
  first,
  rest ++ more,
  is,
  stand-snoc (drop x.used piece) xs out rest more stand
      (subst (λ p. StandsForOne p out more) (sym (drop-drop (used_by xs) x.used piece)) one),
  ap (λ z. z ++ more) parts ∙ append_assoc first rest more,
)

-- One turn more.

bytes_on : (front piece : List ℕ) (used n : ℕ) → (front ++ take used piece) ++ take n (drop used piece) ≡ front ++ take (used + n) piece
bytes_on front piece used n = append_assoc front (take used piece) (take n (drop used piece)) ∙ ap (λ z. front ++ z) (taken_on used n piece)

-- a turn that showed an event, or a text with its end, used these bytes and told more events
record Turns (s t : Place) (rest : List ℕ) (out : RespEvent) : Type 0 where
  more : Events
  one : StandsForOne rest out more
  within : out.used ≤ length rest
  rules : rules_of t ≡ rules_of s
  no_fault : (fault : Fault) → IsFaulted s fault → ⊥
  reads : (r : Rules) (written : List ℕ) (told : Events) → r ≡ rules_of s → ReadsTo r written told (HasRead s) →
      ReadsTo r (written ++ take out.used rest) (told ++ more) (HasRead t)

-- the event of a step
event_reads : (s t : Place) (rest : List ℕ) (used : ℕ) (x : Event) → Steps s t rest (Ok (record { used = used; event = Some x })) → (r : Rules)
    (written : List ℕ) (told : Events) → r ≡ rules_of s → ReadsTo r written told (HasRead s) →
    ReadsTo r (written ++ take used rest) (told ++ all_events_of x) (HasRead t)
event_reads s t rest used event.Done steps r written told rules w =
    let ends = λ (front : List ℕ) (given : Events) (h : HasRead s front given). steps.value_whole front given h in
    let last = ends w.front w.given w.ends in
    let none : written ≡ written ++ take used rest =
    sym (append-nil written) ∙ ap (λ n. written ++ take n rest) (sym last.no_byte) in
    subst (λ z. ReadsTo r z (told ++ e.Done ∷ []) (HasRead t)) none (reads_done r written told (HasRead s) (HasRead t) w
    (λ front given h. subst (λ z. IsValue z front given) (sym rules) (ends front given h).is_value) last.reads)
event_reads s t rest used x steps r written told rules w =
    reads_on r written told (HasRead s) (HasRead t) (take used rest) (all_events_of x) w steps.another_event

event_turns : (s t : Place) (rest : List ℕ) (used : ℕ) (out : RespEvent) → out.used ≡ used →
    ShowsEvent (λ x. Tells out (Some x)) s t rest used → Turns s t rest out
event_turns s t rest used out size h =
    let steps : Steps s t rest (Ok (record { used = out.used; event = Some h.event })) =
    subst (λ n. Steps s t rest (Ok (record { used = n; event = Some h.event }))) (sym size) h.steps in
    record {
      more = all_events_of h.event;
      one = inl (record { event = h.event; tells = h.shows; lent = steps.part_of_piece; stands_for = refl });
      within = steps.within_piece;
      rules = steps.same_rules;
      no_fault = λ fault f. absurd (let z : Ok (record { used = out.used; event = Some h.event }) ≡ Err fault = (steps.fault_is_final fault f).0 in cc);
      reads = event_reads s t rest out.used h.event steps;
    }

text_turns : (s t : Place) (rest : List ℕ) (used : ℕ) (out : RespEvent) → out.used ≡ used → ShowsText (TellsWhole out) s t rest used →
    Turns s t rest out
text_turns s t rest used out size h =
    let steps = subst (λ n. StepsOverText s t rest n h.kind h.bytes) (sym size) h.steps in
    let more = whole_text_events h.kind h.bytes in
    record {
      more = more;
      one = inr (record { kind = h.kind; bytes = h.bytes; is_text = h.is_text; tells = h.shows; lent = steps.of_piece; stands_for = refl });
      within = steps.of_piece.within;
      rules = steps.same_rules;
      no_fault = steps.no_fault;
      reads = λ r written told rules w. reads_on r written told (HasRead s) (HasRead t) (take out.used rest) more w steps.reads;
    }

-- what the turns so far have come to
pub record SoFar (old now : Place) (piece rest : List ℕ) (outs₀ outs : List RespEvent) (index count : ℕ) : Type 0 where
  pub counted : count ≡ index
  pub few : count ≤ length outs₀
  pub within : used_by (take count outs) ≤ length piece
  pub rest_is : rest ≡ drop (used_by (take count outs)) piece
  pub left : drop count outs ≡ drop count outs₀
  pub rules : rules_of now ≡ rules_of old
  pub scans : Scans old piece (take count outs) (used_by (take count outs)) (HasRead now)
  pub dead : (fault : Fault) → IsFaulted old fault → (count ≡ 0) × (now ≡ old)

scans_on : (old s t : Place) (piece rest : List ℕ) (outs : List RespEvent) (out : RespEvent) → rest ≡ drop (used_by outs) piece →
    rules_of s ≡ rules_of old → Scans old piece outs (used_by outs) (HasRead s) → Turns s t rest out →
    Scans old piece (outs ++ out ∷ []) (used_by (outs ++ out ∷ [])) (HasRead t)
scans_on old s t piece rest outs out is rules k h = record {
  told = k.told ++ h.more;
  stand_for = stand-snoc piece outs out k.told h.more k.stand_for (subst (λ p. StandsForOne p out h.more) is h.one);
  reads = λ front given w.
      let on = h.reads (rules_of old) (front ++ take (used_by outs) piece) (given ++ k.told) (sym rules) (k.reads front given w) in
      let bytes : (front ++ take (used_by outs) piece) ++ take out.used rest ≡ front ++ take (used_by (outs ++ out ∷ [])) piece =
      ap (λ p. (front ++ take (used_by outs) piece) ++ take out.used p) is ∙ bytes_on front piece (used_by outs) out.used ∙
      ap (λ n. front ++ take n piece) (sym (used-snoc outs out)) in
      subst (λ z. ReadsTo (rules_of old) z (given ++ (k.told ++ h.more)) (HasRead t)) bytes
      (subst (λ z. ReadsTo (rules_of old) ((front ++ take (used_by outs) piece) ++ take out.used rest) z (HasRead t))
      (append_assoc given k.told h.more) on);
}

pub so_far_on : (old s t : Place) (piece rest rest' : List ℕ) (outs₀ outs : List RespEvent) (index count used : ℕ) (shown : RespEvent) →
    SoFar old s piece rest outs₀ outs index count → index < length outs → length outs ≡ length outs₀ → rest' ≡ drop used rest → shown.used ≡ used →
    ShowsEvent (λ x. Tells shown (Some x)) s t rest used ⊎ ShowsText (TellsWhole shown) s t rest used →
    SoFar old t piece rest' outs₀ (set outs index shown) (index + 1) (count + 1)
so_far_on old s t piece rest rest' outs₀ outs index count used shown k more size is by_used shows =
    let h : Turns s t rest shown = elim shows as (λ _. Turns s t rest shown) [
      | inl x ↦ event_turns s t rest used shown by_used x
      | inr x ↦ text_turns s t rest used shown by_used x
    ] in
    let first : take (count + 1) (set outs index shown) ≡ take count outs ++ shown ∷ [] =
    ap (λ n. take (n + 1) (set outs index shown)) k.counted ∙ take_more_set outs index shown more ∙
    ap (λ n. take n outs ++ shown ∷ []) (sym k.counted) in
    let total : used_by (take (count + 1) (set outs index shown)) ≡ used_by (take count outs) + shown.used =
    ap used_by first ∙ used-snoc (take count outs) shown in
    let room : length rest ≡ length piece - used_by (take count outs) =
    ap length k.rest_is ∙ length-drop (used_by (take count outs)) piece in
    record {
      counted = omega (arith, k.counted);
      few = omega (arith, more, size, k.counted);
      within = omega (arith, total, h.within, room, k.within);
      rest_is = is ∙ ap (λ p. drop used p) k.rest_is ∙ drop-drop used (used_by (take count outs)) piece ∙
          ap (λ n. drop n piece) (let z : used_by (take count outs) + used ≡ used_by (take (count + 1) (set outs index shown)) =
          omega (arith, total, by_used) in z);
      left = ap (λ n. drop (n + 1) (set outs index shown)) k.counted ∙ drop-set-lt (index + 1) outs index shown (omega arith) ∙
          ap (λ n. drop (n + 1) outs) (sym k.counted) ∙ sym (drop-drop 1 count outs) ∙ ap (λ xs. drop 1 xs) k.left ∙
          drop-drop 1 count outs₀;
      rules = h.rules ∙ k.rules;
      scans = subst (λ xs. Scans old piece xs (used_by xs) (HasRead t)) (sym first)
          (scans_on old s t piece rest (take count outs) shown k.rest_is k.rules k.scans h);
      dead = λ fault f. absurd (h.no_fault fault (subst (λ p. IsFaulted p fault) (sym (k.dead fault f).1) f));
    }

-- The last turn.

pub used_up_scans : (old s t : Place) (piece rest : List ℕ) (outs : List RespEvent) → rest ≡ drop (used_by outs) piece →
    Scans old piece outs (used_by outs) (HasRead s) → Steps s t rest (Ok (record { used = length rest; event = None })) →
    Scans old piece outs (length piece) (IsUsedUp t)
used_up_scans old s t piece rest outs is k steps = record {
  told = k.told;
  stand_for = k.stand_for;
  reads = λ front given w.
      let bytes : (front ++ take (used_by outs) piece) ++ rest ≡ front ++ take (length piece) piece =
      ap (λ p. (front ++ take (used_by outs) piece) ++ p) is ∙ append_assoc front (take (used_by outs) piece) (drop (used_by outs) piece) ∙
      ap (λ z. front ++ z) (take-append-drop (used_by outs) piece ∙ sym (take-length piece)) in
      subst (λ z. ReadsTo (rules_of old) z (given ++ k.told) (IsUsedUp t)) bytes
      (reads_bytes (rules_of old) (front ++ take (used_by outs) piece) (given ++ k.told) (HasRead s) (IsUsedUp t) rest (k.reads front given w)
      (λ f g h. let u = steps.no_event f g h in record { viable = u.viable; no_value = u.no_value; all_due = u.all_due; reads = u.reads }));
}

pub refused_scans : (old s t : Place) (piece rest : List ℕ) (outs : List RespEvent) (fault : Fault) → rest ≡ drop (used_by outs) piece →
    rules_of s ≡ rules_of old → Scans old piece outs (used_by outs) (HasRead s) → Steps s t rest (Err fault) →
    Scans old piece outs (used_by outs) (λ front given. IsRefused (rules_of old) front given (drop (used_by outs) piece) fault)
refused_scans old s t piece rest outs fault is rules k steps = record {
  told = k.told;
  stand_for = k.stand_for;
  reads = λ front given w. reads_as (rules_of old) (front ++ take (used_by outs) piece) (given ++ k.told) (HasRead s)
      (λ f g. IsRefused (rules_of old) f g (drop (used_by outs) piece) fault) (k.reads front given w)
      (λ f g h. subst (λ p. IsRefused (rules_of old) f g p fault) is (subst (λ r. IsRefused r f g rest fault) rules (steps.refusal f g h)));
}

-- In the loop.

tells_more : (out : RespEvent) (n : ℕ) (kind : TextKind) → TellsMore out kind → TellsMore (record out { used = n }) kind
tells_more out n kind h = grind arith

-- the number of its bytes is no part of what an event tells
tells_used : (out : RespEvent) (n : ℕ) (x : Event) → Tells out (Some x) → Tells (record out { used = n }) (Some x)
tells_used out n x h = grind (arith, tells_more)

pub shown_so_far : (old s t : Place) (piece rest rest' : List ℕ) (outs₀ outs : List RespEvent) (index count used : ℕ) (slot : RespEvent) →
    SoFar old s piece rest outs₀ outs index count → index < length outs → length outs ≡ length outs₀ → rest' ≡ drop used rest →
    ShowsEvent (λ x. Tells slot (Some x)) s t rest used ⊎ ShowsText (TellsWhole slot) s t rest used →
    SoFar old t piece rest' outs₀ (set outs index (record slot { used = used })) (index + 1) (count + 1)
shown_so_far old s t piece rest rest' outs₀ outs index count used slot k more size is (inl h) =
    so_far_on old s t piece rest rest' outs₀ outs index count used (record slot { used = used }) k more size is refl
    (inl (record { event = h.event; shows = tells_used slot used h.event h.shows; steps = h.steps }))
shown_so_far old s t piece rest rest' outs₀ outs index count used slot k more size is (inr h) =
    so_far_on old s t piece rest rest' outs₀ outs index count used (record slot { used = used }) k more size is refl
    (inr (record {
      kind = h.kind;
      bytes = h.bytes;
      is_text = h.is_text;
      shows = record { kind_is = h.shows.kind_is; form_is = h.shows.form_is; part_is = h.shows.part_is };
      steps = h.steps;
    }))

-- a slice to the end
pub sliced : (used : ℕ) (rest : List ℕ) → take (length rest - used) (drop used rest) ≡ drop used rest
sliced used rest = ap (λ n. take n (drop used rest)) (sym (length-drop used rest)) ∙ take-length (drop used rest)

pub used_up_so_far : (old s t : Place) (piece rest : List ℕ) (outs₀ outs : List RespEvent) (index count : ℕ) (slot : RespEvent) →
    SoFar old s piece rest outs₀ outs index count → Steps s t rest (Ok (record { used = length rest; event = None })) →
    Scans old piece (take count (set outs index slot)) (length piece) (IsUsedUp t)
used_up_so_far old s t piece rest outs₀ outs index count slot k steps =
    subst (λ xs. Scans old piece xs (length piece) (IsUsedUp t)) (sym (take-set-le count outs index slot (omega (arith, k.counted))))
    (used_up_scans old s t piece rest (take count outs) k.rest_is k.scans steps)

pub refused_so_far : (old s t : Place) (piece rest : List ℕ) (outs₀ outs : List RespEvent) (index count : ℕ) (slot : RespEvent) (fault : Fault) →
    SoFar old s piece rest outs₀ outs index count → Steps s t rest (Err fault) →
    (length piece - length rest ≡ used_by (take count (set outs index slot))) ×
    Scans old piece (take count (set outs index slot)) (length piece - length rest)
    (λ front given. IsRefused (rules_of old) front given (drop (length piece - length rest) piece) fault)
refused_so_far old s t piece rest outs₀ outs index count slot fault k steps =
    let same : take count (set outs index slot) ≡ take count outs = take-set-le count outs index slot (omega (arith, k.counted)) in
    let room : length rest ≡ length piece - used_by (take count outs) =
    ap length k.rest_is ∙ length-drop (used_by (take count outs)) piece in
    let size : length piece - length rest ≡ used_by (take count outs) = omega (arith, room, k.within) in (
      size ∙ ap used_by (sym same),
      subst (λ n. Scans old piece (take count (set outs index slot)) n (λ front given. IsRefused (rules_of old) front given (drop n piece) fault)) (sym size)
          (subst (λ xs. Scans old piece xs (used_by (take count outs)) (λ front given.
          IsRefused (rules_of old) front given (drop (used_by (take count outs)) piece) fault)) (sym same)
          (refused_scans old s t piece rest (take count outs) fault k.rest_is k.rules k.scans steps)),
    )

pub final_so_far : (old s t : Place) (piece rest : List ℕ) (outs₀ outs : List RespEvent) (index count : ℕ) (fault other : Fault) →
    SoFar old s piece rest outs₀ outs index count → Steps s t rest (Err other) → IsFaulted old fault → (other ≡ fault) × (count ≡ 0) × (t ≡ old)
final_so_far old s t piece rest outs₀ outs index count fault other k steps f =
    let dead = k.dead fault f in
    let again = steps.fault_is_final fault (subst (λ p. IsFaulted p fault) (sym dead.1) f) in
    ((let z : Err other ≡ Err fault = again.0 in cc), dead.0, again.1 ∙ dead.1)
