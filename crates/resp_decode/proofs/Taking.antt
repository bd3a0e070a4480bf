-- Taking in events, one after another, and what a listener has heard then.
use Rattle.std.proofs.Common.{◌≡◌, ℕ, ◌+◌, ◌<◌, ◌≤◌, ◌^◌, Bool, true, false, None, Some, List, [], ◌∷◌, ◌++◌, length, refl, sym, ap, subst, ◌∙◌, length-append, arith, min, ◌-◌}
use Rattle.std.proofs.lemmas.List.{append-nil}
use Rattle.resp_value.specs.Data.{Datum, scalar}
use Rattle.resp_value.specs.Trees.{text}
use Rattle.resp_value.specs.Rules.{WithinTotal}
use Rattle.resp_fronts.specs.Events.{Event, TextKind}
use Rattle.resp_fronts.specs.Events as e
use Rattle.resp_scan.specs.Kinds.{content_events}
use Rattle.resp_scan.specs.Reading.{Events}
use Rattle.resp_scan.specs.Listening.{Hears, MayBeGiven}
use Rattle.resp_decode.specs.Builds.{Construction, built_from, nothing, scalar_of, with_value, with_bytes, with_event, with_events}
use Rattle.resp_decode.specs.Brief.{AreBrief, WantMemory}
use Rattle.resp_decode.specs.Fits.{IsContentAlone, MayAllCome, event_weight, events_weight, end_weight}
use Rattle.resp_decode.specs.Weights.{format_weight}
use Rattle.resp_decode.specs.Hearing.{HasHeard, TakesIn, TakesInWhereFit}
use Rattle.resp_decode.specs.Holding.{construction_of}
use Rattle.resp_decode.specs.declared.held.HeldParts.{HeldParts}
use Rattle.resp_decode.proofs.Comes.{first_come}
use Rattle.resp_decode.proofs.Folds.{with_events-append, without_text}
use Rattle.resp_decode.proofs.HeldLemmas.{content_held, content_adds}
use Rattle.resp_decode.proofs.Values.{are_good, brief_first, brief_groups}

-- the last of events that may come may come after the first
pub last_come : (es later : Events) (b : Construction) → MayAllCome (es ++ later) b → MayAllCome later (with_events es b)
last_come [] later b c = c
last_come (x ∷ es) later b c = last_come es later (with_event x b) c.1

-- weights add up
pub events_weight-append : (es later : Events) (b : Construction) → events_weight (es ++ later) b ≡ events_weight es b + events_weight later (with_events es b)
events_weight-append [] later b = omega arith
events_weight-append (x ∷ es) later b = omega (arith, events_weight-append es later (with_event x b))

-- a call after a call takes in the events of both
pub takes_in_both : (old between new : HeldParts) (first second : Events) (goes_on : Bool) → TakesInWhereFit old between first true →
    TakesInWhereFit between new second goes_on → TakesInWhereFit old new (first ++ second) goes_on
takes_in_both old between new first second goes_on one two may room goes =
    let b = construction_of old in
    let sum = events_weight-append first second b in
    let a = one (first_come first second b may) (omega (arith, room, sum)) refl in
    let may' : MayAllCome second (construction_of between) = subst (MayAllCome second) (sym a.holds) (last_come first second b may) in
    let same : events_weight second (construction_of between) ≡ events_weight second (with_events first b) = ap (events_weight second) a.holds in
    let z = two may' (omega (arith, room, sum, a.weighs, same)) goes in
    record {
      holds = z.holds ∙ ap (with_events second) a.holds ∙ sym (with_events-append first second b);
      weighs = omega (arith, z.weighs, a.weighs, sum, same);
    }

-- this much of a front's events may come after the first of them, and there is room for their weight
pub record IsRoomFor (given more : Events) : Type 0 where
  pub may : MayAllCome more (built_from given)
  pub room : events_weight given nothing + events_weight more (built_from given) < 2 ^ 64

pub room_for : (given more : Events) → MayBeGiven (given ++ more) → IsRoomFor given more
room_for given more h =
    let good = are_good h.rules h.front (given ++ more) h.viable h.first_due in
    let within : length (text h.viable.tree) ≤ h.rules.limits.total = h.viable.keeps WithinTotal (omega arith) in
    let whole : length (text h.viable.tree) ≡ length h.front + length h.viable.rest = ap length h.viable.spells.spelled ∙ length-append h.front h.viable.rest in
    record {
      may = last_come given more nothing good.may;
      room = omega (arith, good.light, events_weight-append given more nothing, within, whole, h.limits_in_range.total_in_range.1);
    }

-- what was taken in was heard
heard : (old new : HeldParts) (given more : Events) → HasHeard old given → TakesIn old new more → HasHeard new (given ++ more)
heard old new given more h t = record {
  holds = t.holds ∙ ap (with_events more) h.holds ∙ sym (with_events-append given more nothing);
  weighs = omega (arith, t.weighs, h.weighs, events_weight-append given more nothing, ap (events_weight more) h.holds);
}

-- a call that hears these events, or stops where they want memory
abbrev pub HeldHears : HeldParts → HeldParts → Events → Bool → Type 0
HeldHears old new = Hears {O = Unit {0}} (λ since. HasHeard old) (λ since. HasHeard new) (λ since. WantMemory)

-- a call that takes in events where they fit hears them, where it may stop at the last of them
hears_or_stops : (old new : HeldParts) (more : Events) (goes_on : Bool) → TakesInWhereFit old new more goes_on →
    ((given : Events) → HasHeard old given → goes_on ≡ false → WantMemory (given ++ more)) →
    HeldHears old new more goes_on
hears_or_stops old new more true takes stops since given h may =
    let fits = room_for given more may in
    let old_fits : MayAllCome more (construction_of old) = subst (MayAllCome more) (sym h.holds) fits.may in
    heard old new given more h (takes old_fits (omega (arith, fits.room, h.weighs, ap (events_weight more) h.holds)) refl)
hears_or_stops old new more false takes stops since given h may =
    record { told = more; later = []; parts = sym (append-nil more); has_stopped = stops given h refl }

-- the last of brief events are brief
pub brief_last : (es later : Events) → AreBrief (es ++ later) → AreBrief later
brief_last [] later h = h
brief_last (x ∷ es) later h = brief_last es later h.1

-- a call over events of a text or an aggregate hears them, and may stop
pub hears_events : (old new : HeldParts) (more : Events) (goes_on : Bool) → TakesInWhereFit old new more goes_on → WantMemory more →
    HeldHears old new more goes_on
hears_events old new more goes_on takes want = hears_or_stops old new more goes_on takes (λ given h stop brief. want (brief_last given more brief))

-- a call over a scalar without content hears it, and stops in an aggregate alone
pub hears_scalar : (old new : HeldParts) (event : Event) (goes_on : Bool) → TakesInWhereFit old new (event ∷ []) goes_on →
    (goes_on ≡ false → (construction_of old).groups ≡ [] → ⊥) → HeldHears old new (event ∷ []) goes_on
hears_scalar old new event goes_on takes within =
    hears_or_stops old new (event ∷ []) goes_on takes (λ given h stop brief.
    let same : (construction_of old).groups ≡ (built_from given).groups = ap (λ b. let c : Construction = b in c.groups) h.holds in
    within stop (same ∙ brief_groups given nothing (brief_first given (event ∷ []) brief) refl))

-- the events of a text that is told whole build its value
pub whole_text_builds : (kind : TextKind) (s : List ℕ) (b : Construction) → b.text ≡ None →
    with_events (e.Text kind ∷ (content_events s ++ e.TextEnd ∷ [])) b ≡ with_value (scalar (scalar_of kind s)) b
whole_text_builds kind s b rests =
    let opened = with_event (e.Text kind) b in
    with_events-append (content_events s) (e.TextEnd ∷ []) opened
    ∙ ap (with_events (e.TextEnd ∷ [])) (content_held s (Some (record { kind = kind; content = [] })) b)
    ∙ ap (with_value (scalar (scalar_of kind s))) (without_text b rests)

whole_text_weighs : (kind : TextKind) (s : List ℕ) (b : Construction) →
    events_weight (e.Text kind ∷ (content_events s ++ e.TextEnd ∷ [])) b ≡ format_weight kind + length s + end_weight kind s
whole_text_weighs kind s b =
    let opened = with_event (e.Text kind) b in
    omega (
      arith,
      events_weight-append (content_events s) (e.TextEnd ∷ []) opened,
      content_adds s opened,
      ap (event_weight e.TextEnd) (content_held s (Some (record { kind = kind; content = [] })) b),
    )

-- a text that is told whole is taken in where its value is put in its place
pub takes_in_text : (old new : HeldParts) (kind : TextKind) (s : List ℕ) (goes_on : Bool) → format_weight kind + end_weight kind s ≡ 3 →
    (goes_on ≡ true → construction_of new ≡ with_value (scalar (scalar_of kind s)) (construction_of old)) →
    new.weight ≡ min (old.weight + (length s + 3)) (2 ^ 64 - 1) →
    TakesInWhereFit old new (e.Text kind ∷ (content_events s ++ e.TextEnd ∷ [])) goes_on
takes_in_text old new kind s goes_on three holds weighs may room goes =
    let b = construction_of old in
    let sum = whole_text_weighs kind s b in
    record { holds = holds goes ∙ sym (whole_text_builds kind s b may.0.0); weighs = omega (arith, weighs, room, sum, three) }

-- a text that is its content alone weighs a node besides
pub content_alone_weighs : (kind : TextKind) (s : List ℕ) → IsContentAlone kind → format_weight kind + end_weight kind s ≡ 3
content_alone_weighs e.Simple s alone = refl
content_alone_weighs e.Error s alone = refl
content_alone_weighs e.Double s alone = refl
content_alone_weighs e.Bulk s alone = refl
content_alone_weighs e.BulkError s alone = refl
content_alone_weighs (e.Verbatim format) s alone = absurd alone
content_alone_weighs (e.Big negative) s alone = absurd alone

-- a part of a text is taken in where its bytes are appended to the text's
pub takes_in_part : (old new : HeldParts) (part : List ℕ) (goes_on : Bool) →
    (goes_on ≡ true → construction_of new ≡ record (construction_of old) { text = with_bytes (construction_of old).text part }) →
    (old.weight + length part < 2 ^ 64 → new.weight ≡ old.weight + length part) → TakesInWhereFit old new (content_events part) goes_on
takes_in_part old new part goes_on holds weighs may room goes =
    let b = construction_of old in
    let sum = content_adds part b in
    record { holds = holds goes ∙ sym (content_held part b.text b); weighs = omega (arith, weighs (omega (arith, room, sum)), sum) }

-- a scalar without content is taken in where it is put in its place
pub takes_in_scalar : (old new : HeldParts) (event : Event) (x : Datum) (goes_on : Bool) →
    event_weight event (construction_of old) ≡ 3 → with_event event (construction_of old) ≡ with_value x (construction_of old) →
    (goes_on ≡ true → construction_of new ≡ with_value x (construction_of old)) →
    new.weight ≡ min (old.weight + (0 + 3)) (2 ^ 64 - 1) → TakesInWhereFit old new (event ∷ []) goes_on
takes_in_scalar old new event x goes_on three same holds weighs may room goes =
    record { holds = holds goes ∙ sym same; weighs = omega (arith, weighs, room, three) }

-- content that isn't empty wants memory
pub content_wants_memory : (content : List ℕ) → 0 < length content → WantMemory (content_events content)
content_wants_memory [] full brief = absurd (omega arith)
content_wants_memory (c ∷ cs) full brief = brief.0
