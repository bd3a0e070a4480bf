-- The first byte after a front that is between values: its cause, or that a value goes on after it.
use Rattle.std.proofs.Common.{◌≡◌, ℕ, zero, suc, ◌<◌, ◌≤◌, Bool, true, false, Option, None, Some, List, [], ◌∷◌, ◌++◌, length, refl, sym, ap, subst, ◌∙◌, arith, append_assoc, cond}
use Rattle.resp_value.specs.Data.{items_of}
use Rattle.resp_value.specs.Trees.{Tree, text}
use Rattle.resp_value.specs.Rules.{Rules, Rule, Grammar, NoDouble, InVersion, PushAtTop, InRange, NotStreamed, WithinDepth, WithinLength, WithinItems, rank}
use Rattle.resp_value.specs.LocalRules.{LeafKeeps, NodeKeeps}
use Rattle.resp_value.specs.Bounds.{AreBounds}
use Rattle.resp_value.specs.Spellings.{IsCause}
use Rattle.resp_value.specs.declared.version.Version.{Version}
use Rattle.resp_value.specs.declared.version.Version.TheVariants.{Two, Three}
use Rattle.resp_value.proofs.FirstBytes.{begins, first_byte_is}
use Rattle.resp_value.proofs.Choices.{if_within}
use Rattle.resp_fronts.specs.Frames.{text_around}
use Rattle.resp_fronts.specs.MayFollow.{IsWholeText, MayFollowFrames}
use Rattle.resp_fronts.specs.FirstByteRefusals.{refusal_in_three, aggregate_refusal, push_refusal, double_refusal, first_byte_answers, first_byte_refusal}
use Rattle.resp_fronts.proofs.FrameLaws.Composition.{around-append, determine, first_member}
use Rattle.resp_fronts.proofs.FrameLaws.LevelsAlone.{same_length}
use Rattle.resp_fronts.proofs.FirstLines.CountRows.{CompletesUnder}
use Rattle.resp_fronts.proofs.Between.BetweenValues.{IsBetween, room, ready_open}
use Rattle.resp_fronts.proofs.Between.RefusedBetweenValues.{refuse_first, refuse_member}
use Rattle.resp_fronts.proofs.Refusals.FirstRuleBroken.{refused_cause, grammar_cause}
use Rattle.resp_fronts.proofs.Refusals.FirstByteCauses.{GoesOn, IsAnswered, goes_on_before, at_answer, first_byte_answered, and_rows}
use Rattle.resp_fronts.specs.OpenLevels.{Level, so_far}

-- a first byte that no value has
pub begin_broken : (r : Rules) (levels : List Level) (front : List ℕ) (byte : ℕ) → (byte ≡ 46 → ⊥) → (w : IsBetween r levels front) →
    ((rest : List ℕ) → CompletesUnder r Grammar (length w.0) (byte ∷ []) rest → ⊥) → IsCause r (front ++ byte ∷ []) Grammar
begin_broken r levels front byte no_stop w dead =
    let (frames, of_levels, ready, e) = w in
    let are_open = ready_open (LeafKeeps r WithinItems) (NodeKeeps r WithinItems) levels frames of_levels ready in
    grammar_cause r (front ++ byte ∷ []) (λ rest y.
    let whole : (front ++ byte ∷ []) ++ rest ≡ text_around frames (byte ∷ rest) = append_assoc front (byte ∷ []) rest ∙ ap (λ z. z ++ byte ∷ rest) e ∙
    around-append frames [] (byte ∷ rest) in
    let follows : MayFollowFrames (LeafKeeps r Grammar) (NodeKeeps r Grammar) frames (byte ∷ rest) =
    determine (LeafKeeps r Grammar) (NodeKeeps r Grammar) frames (byte ∷ rest) are_open
    (subst (IsWholeText (LeafKeeps r Grammar) (NodeKeeps r Grammar)) whole y) in
    let member = first_member (LeafKeeps r Grammar) (NodeKeeps r Grammar) frames (byte ∷ rest) are_open no_stop follows in
    let (begun, split) = text_begins member.tree member.rest rest byte member.whole in
    dead begun (record { tree = member.tree; is_tree = member.is_tree; keep = member.keep; whole = split }))
  where
    text_begins : (t : Tree) (beyond rest : List ℕ) (byte : ℕ) → text t ++ beyond ≡ byte ∷ rest → (begun : List ℕ) × (text t ≡ byte ∷ begun)
    text_begins t beyond rest byte h = let (cs, b) = begins t in (cs, b ∙ ap (λ z. z ∷ cs) (first_byte_is t beyond rest byte h))

-- the rules that a first byte can break by itself
abbrev IsEarly : Option Rule → Type 0
IsEarly None = Unit {0}
IsEarly (Some rule) = rank rule ≤ 6

in_three_early : (v : Version) (answer : Option Rule) → IsEarly answer → IsEarly (refusal_in_three v answer)
in_three_early Two answer p = omega arith
in_three_early Three answer p = p

aggregate_early : (r : Rules) (level : ℕ) → IsEarly (aggregate_refusal r level)
aggregate_early r level = if_within r.limits.depth level (λ x. IsEarly (cond x (Some WithinDepth) None)) (λ deep. omega arith) (λ below. tt)

push_early : (r : Rules) (level : ℕ) → IsEarly (push_refusal r level)
push_early r zero = aggregate_early r 0
push_early r (suc level) = omega arith

double_early : (r : Rules) → IsEarly (double_refusal r)
double_early r = cases r.limits.doubles
  where
    cases : (b : Bool) → IsEarly (cond b (refusal_in_three r.version None) (Some NoDouble))
    cases true = in_three_early r.version None tt
    cases false = omega arith

refusal_early : (r : Rules) (level byte : ℕ) → IsEarly (first_byte_refusal r level byte)
refusal_early r level byte =
    let leaf = in_three_early r.version None tt in
    let kind = in_three_early r.version (aggregate_refusal r level) (aggregate_early r level) in
    at_answer (λ x answer. IsEarly answer) (first_byte_answers r level) (Some Grammar) byte
    (and_rows (double_early r)
    (and_rows tt
    (and_rows tt
    (and_rows tt
    (and_rows tt
    (and_rows tt
    (and_rows leaf
    (and_rows leaf
    (and_rows leaf
    (and_rows leaf
    (and_rows leaf
    (and_rows kind
    (and_rows kind
    (and_rows kind
    (and_rows (in_three_early r.version (push_refusal r level) (push_early r level)) tt))))))))))))))) (λ apart. omega arith)

-- a refusal of a first byte is the front's cause
refused_begin : (r : Rules) (levels : List Level) (front : List ℕ) (byte : ℕ) (rule before : Rule) → (byte ≡ 46 → ⊥) → (w : IsBetween r levels front) →
    rank rule ≡ suc (rank before) → rank rule ≤ 6 → IsAnswered r (length w.0) (byte ∷ []) (Some rule) → IsCause r (front ++ byte ∷ []) rule
refused_begin r levels front byte rule before no_stop w e early a =
    let g = a.1 before e in
    refused_cause r rule before (front ++ byte ∷ []) e (omega arith)
    (refuse_first r rule before levels front byte w (omega arith) no_stop (record { dead = a.0; rest = g.rest; alive = g.completes; some = g.some }))

-- what an answer says of a front
abbrev pub IsFrontAnswered : Rules → List Level → List ℕ → ℕ → Option Rule → Type 0
IsFrontAnswered r levels front byte None = GoesOn r WithinItems (length levels) (byte ∷ [])
IsFrontAnswered r levels front byte (Some rule) = IsCause r (front ++ byte ∷ []) rule

front_answered : (r : Rules) (levels : List Level) (front : List ℕ) (byte : ℕ) (answer : Option Rule) → (byte ≡ 46 → ⊥) → (w : IsBetween r levels front) →
    length w.0 ≡ length levels → IsEarly answer → IsAnswered r (length w.0) (byte ∷ []) answer → IsFrontAnswered r levels front byte answer
front_answered r levels front byte None no_stop w e early a = subst (λ level. GoesOn r WithinItems level (byte ∷ [])) e a
front_answered r levels front byte (Some Grammar) no_stop w e early a = begin_broken r levels front byte no_stop w a.0
front_answered r levels front byte (Some NoDouble) no_stop w e early a = refused_begin r levels front byte NoDouble Grammar no_stop w refl early a
front_answered r levels front byte (Some InVersion) no_stop w e early a = refused_begin r levels front byte InVersion NoDouble no_stop w refl early a
front_answered r levels front byte (Some PushAtTop) no_stop w e early a = refused_begin r levels front byte PushAtTop InVersion no_stop w refl early a
front_answered r levels front byte (Some InRange) no_stop w e early a = refused_begin r levels front byte InRange PushAtTop no_stop w refl early a
front_answered r levels front byte (Some NotStreamed) no_stop w e early a = refused_begin r levels front byte NotStreamed InRange no_stop w refl early a
front_answered r levels front byte (Some WithinDepth) no_stop w e early a = refused_begin r levels front byte WithinDepth NotStreamed no_stop w refl early a
front_answered r levels front byte _ no_stop w e early a = absurd (omega arith)

-- between values, the first rule that refuses a byte is its cause
pub first_byte_cause : (r : Rules) (levels : List Level) (front : List ℕ) (byte : ℕ) → AreBounds r.limits → (byte ≡ 46 → ⊥) → IsBetween r levels front →
    IsFrontAnswered r levels front byte (first_byte_refusal r (length levels) byte)
first_byte_cause r levels front byte bounds no_stop w =
    let e : length w.0 ≡ length levels = sym (same_length levels w.0 w.1) in
    front_answered r levels front byte (first_byte_refusal r (length levels) byte) no_stop w e (refusal_early r (length levels) byte)
    (subst (λ level. IsAnswered r (length w.0) (byte ∷ []) (first_byte_refusal r level byte)) e (first_byte_answered r (length w.0) byte bounds))

-- a byte that begins a value is one item too many in a full streamed frame
pub full_cause : (r : Rules) (v : Level) (outer : List Level) (front : List ℕ) (byte n : ℕ) → AreBounds r.limits → (byte ≡ 46 → ⊥) →
    IsBetween r (v ∷ outer) front → first_byte_refusal r (length (v ∷ outer)) byte ≡ None → v.shape ≡ so_far n →
    r.limits.items < items_of v.kind (room v.kind n) → IsCause r (front ++ byte ∷ []) WithinItems
full_cause r v outer front byte n bounds no_stop w none shape full =
    let g : GoesOn r WithinItems (length (v ∷ outer)) (byte ∷ []) =
    subst (IsFrontAnswered r (v ∷ outer) front byte) none (first_byte_cause r (v ∷ outer) front byte bounds no_stop w) in
    let e : length (v ∷ outer) ≡ length w.0 = same_length (v ∷ outer) w.0 w.1 in
    let h = goes_on_before r WithinItems WithinLength (length w.0) (byte ∷ []) (omega arith) (subst (λ level. GoesOn r WithinItems level (byte ∷ [])) e g) in
    refused_cause r WithinItems WithinLength (front ++ byte ∷ []) refl (omega arith)
    (refuse_member r v outer front byte h.rest w n shape full no_stop h.completes)
