-- The heads of aggregates before their digits, and the mark of streamed ones.
use Rattle.std.specs.Prelude.{Bool, true, false, cond, eqb, None, Some}
use Rattle.std.proofs.Common.{◌≡◌, inr, ℕ, ◌+◌, ◌-◌, ◌*◌, ◌<◌, ◌≤◌, List, [], ◌∷◌, ◌++◌, length, refl, sym, ap, subst, ◌∙◌, arith, append-nil}
use Rattle.resp_value.specs.Bytes.{crlf}
use Rattle.resp_value.specs.Data.{Kind, items_of, members_of}
use Rattle.resp_value.specs.Data as d
use Rattle.resp_value.specs.Numbers.{IsDigit, number}
use Rattle.resp_value.specs.Trees.{CanStream, Counted, Streamed, kind_byte, node, none}
use Rattle.resp_value.specs.Rules.{Rules, Grammar, NoDouble, InVersion, InRange, IsNodeInTwo, NotStreamed, WithinDepth, WithinItems, rank}
use Rattle.resp_value.specs.LocalRules.{IsNoPushBelow, LeafKeeps, NodeKeeps, NodeMeets}
use Rattle.resp_value.specs.declared.cause.Cause.TheVariants as cause
use Rattle.resp_value.specs.declared.version.Version.{Version}
use Rattle.resp_value.specs.declared.version.Version.TheVariants as version
use Rattle.resp_value.specs.declared.kind.OpenKind.{OpenKind}
use Rattle.resp_value.specs.declared.kind.OpenKind.TheVariants as kind
use Rattle.resp_value.specs.Kinds.{kind_of}
use Rattle.resp_value.proofs.Choices.{if_equal, if_within, if_below}
use Rattle.resp_fronts.specs.Events.{Event}
use Rattle.resp_fronts.specs.Events as e
use Rattle.resp_fronts.specs.LeastCompletions.{HasLeast}
use Rattle.resp_fronts.specs.MayFollow.{members_missing}
use Rattle.resp_fronts.proofs.Tokens.BegunFronts.{IsBegunBy}
use Rattle.resp_fronts.proofs.Tokens.BegunTypeBytes.{aggregate_begun, attribute_begun, star_begun, star_deep_begun}
use Rattle.resp_fronts.proofs.Refusals.BrokenHeads.{IsNoCount, count_begun_broken, count_short, no_mark}
use Rattle.resp_fronts.proofs.Refusals.BrokenLines.{after_return_broken, byte_broken, return_broken, streamed_broken}
use Rattle.resp_fronts.proofs.FirstLines.CountRows.{CompletesUnder, IsRefusedHere, byte_line}
use Rattle.resp_fronts.proofs.FrameLaws.KeptNodes.{at_each_rule, node_keeps}
use Rattle.resp_fronts.proofs.Refusals.RefusedBytes.{array_too_deep}
use Rattle.resp_fronts.proofs.FirstLines.ShortRows.{next_row}
use Rattle.resp_fronts.proofs.Tokens.StreamedHeads.{streamed_array_in_two, streamed_begun, streamed_off, streamed_too_deep, streamed_line}
use Rattle.resp_scan.specs.declared.frame.Shape.TheVariants.{Begun}
use Rattle.resp_scan.specs.declared.machine.Head.TheVariants as head
use Rattle.resp_scan.specs.Machine.Tokens as k
use Rattle.resp_scan.specs.declared.machine.Head.{Head}
use Rattle.resp_scan.specs.Machine.Tokens.{Give, Go, Move, Place, Refuse, Token, AtArrayHead, AtHead, AtNullOne, AtOpenCr, AtOpenLf, InHead, at}
use Rattle.resp_scan.specs.Machine.Heads as h
use Rattle.resp_scan.specs.Machine.Heads.{aggregate_cause, cause_in_three}
use Rattle.resp_scan.specs.Machine.Room.{is_full, over_total}
use Rattle.resp_scan.specs.Machine.Moves.{full_cause, full_streamed, head_first, is_digit, move_unless}
use Rattle.resp_scan.specs.Kinds.{rules_of}
use Rattle.resp_scan.specs.Machine.Beginnings as b
use Rattle.resp_scan.specs.Machine.Beginnings.{AggregateBegun, CountBegun, StreamBegun}
use Rattle.resp_scan.specs.Machine.Standing.{HasCountsOf, IsInside, Leads, StandsAfter}
use Rattle.resp_scan.proofs.HeadMoves.CountsLead.{count_digit, count_row, items_of-members_of}
use Rattle.resp_scan.proofs.TokenMoves.Moves.{at_level, goes, ALead, IsOfAggregate}
use Rattle.resp_scan.proofs.TokenMoves.LiteralsLead.{null_first_row}
use Rattle.resp_scan.proofs.HeadMoves.OpensLead.{Opened, opens_lie}
use Rattle.resp_scan.proofs.TokenMoves.RefusedMoves.{broken, fits_or_total, refused, unless_over}
use Rattle.resp_scan.proofs.TokenMoves.ByteTests.{by_byte, by_digit, wants_leads, if_digit}

-- an aggregate's type byte, where the depth leaves room for one
record MayCount (r : Rules) (k : Kind) (level : ℕ) (bytes : List ℕ) (shown : List Event) : Type 0 where
  pub in_version : (digits : List ℕ) → r.version ≡ version.Two → IsNodeInTwo k (Counted digits)
  pub no_push : IsNoPushBelow level k
  pub below : level < r.limits.depth
  pub are : bytes ≡ kind_byte k ∷ []
  pub told : shown ≡ []

of_three : (r : Rules) (k : Kind) (level : ℕ) (bytes : List ℕ) (shown : List Event) → AggregateBegun r k level bytes shown → MayCount r k level bytes shown
of_three r k level bytes shown w = record { in_version = λ digits two. absurd (w.no_two two); no_push = w.no_push; below = w.below; are = w.are; told = w.told }

-- its first digit
count_begins : (r : Rules) (k : Kind) (byte level : ℕ) (bytes : List ℕ) (shown : List Event) → 16 ≤ r.limits.items → IsDigit byte →
    MayCount r k level bytes shown → CountBegun r k (byte - 48) level (bytes ++ byte ∷ []) shown
count_begins r k byte level bytes shown roomy digit w =
    let value : number (byte ∷ []) ≡ byte - 48 = omega arith in
    record {
      first = byte;
      digits = [];
      token = record {
        are_digits = (omega arith, (digit, tt));
        keeps = node_keeps r WithinItems level k (Counted (byte ∷ [])) (members_of k (number (byte ∷ []))) (w.in_version (byte ∷ [])) w.no_push (λ off. tt)
            w.below (omega (arith, items_of-members_of k (number (byte ∷ [])), value, digit.1, roomy));
        are = ap (λ z. z ++ byte ∷ []) w.are;
      };
      valued = value;
      told = w.told;
    }

-- a byte that no aggregate has there
head_dead : (r : Rules) (k : Kind) (level byte : ℕ) (bytes rest : List ℕ) → IsNoCount k byte → bytes ≡ kind_byte k ∷ [] →
    CompletesUnder r Grammar level bytes (byte ∷ rest) → ⊥
head_dead r k level byte bytes rest other are c =
    let w : CompletesUnder r Grammar level (kind_byte k ∷ []) (byte ∷ rest) = subst (λ z. CompletesUnder r Grammar level z (byte ∷ rest)) are c in
    if_equal byte 13 (λ z. ⊥)
    (λ is. return_broken (LeafKeeps r Grammar) (NodeKeeps r Grammar) level (kind_byte k ∷ []) rest (byte_line k) (count_short k)
    (subst (λ z. CompletesUnder r Grammar level (kind_byte k ∷ []) (z ∷ rest)) is w))
    (λ no_return. byte_broken (LeafKeeps r Grammar) (NodeKeeps r Grammar) level (kind_byte k ∷ []) rest byte (byte_line k) no_return
    (count_begun_broken k byte other) w)

mark_dead : (r : Rules) (k : Kind) (level byte : ℕ) (bytes rest : List ℕ) → byte ≡ 63 → ((n : ℕ) → CanStream k n → ⊥) → bytes ≡ kind_byte k ∷ [] →
    CompletesUnder r Grammar level bytes (byte ∷ rest) → ⊥
mark_dead r k level byte bytes rest is no_stream are c =
    byte_broken (LeafKeeps r Grammar) (NodeKeeps r Grammar) level (kind_byte k ∷ []) rest 63 (byte_line k) (λ z. omega arith) (no_mark k no_stream)
    (subst (λ z. CompletesUnder r Grammar level (kind_byte k ∷ []) (z ∷ rest)) is (subst (λ z. CompletesUnder r Grammar level z (byte ∷ rest)) are c))

-- a digit there
first_digit_leads : (s : Place) (T : ℕ → List ℕ → List Event → Type 0) (k : Kind) (needed used byte : ℕ) (token : Token) (front : List ℕ) (es : List Event) →
    3 * members_of k (byte - 48) + 2 ≡ needed → IsDigit byte → HasCountsOf s used front → IsInside (rules_of s) T s.frames front es →
    ((level : ℕ) (bytes : List ℕ) (shown : List Event) → level ≡ length s.frames → T level bytes shown → MayCount (rules_of s) k level bytes shown) →
    (IsInside (rules_of s) (CountBegun (rules_of s) k (byte - 48)) s.frames (front ++ byte ∷ []) es → StandsAfter (at s token) (front ++ byte ∷ []) es) →
    Leads s front es byte (count_digit s (used + 1) (byte - 48) needed token)
first_digit_leads s T k needed used byte token front es e digit c w may lies =
    let r = rules_of s in
    let roomy : 16 ≤ s.bounds.items = c.sound.bounds.items_in_range.0 in
    if_below s.bounds.items (byte - 48) (λ x. Leads s front es byte
    (move_unless (cond x (Some cause.Items) (over_total s (used + 1) needed)) (Go (at s token))))
    (λ past. absurd (omega (arith, past, roomy, digit.1)))
    (λ fits.
    let more = goes r T (CountBegun r k (byte - 48)) s.frames front (byte ∷ []) es w
    (λ level bytes shown i t. count_begins r k byte level bytes shown roomy digit (may level bytes shown i t)) in
    unless_over s front es used byte needed (Go (at s token)) (fits_or_total s (CountBegun r k (byte - 48)) front es es used byte needed (Go (at s token)) c
    more (λ level bytes shown i t. count_row r k (byte - 48) needed level bytes shown e t) (lies more)))

-- The mark of streamed aggregates.

-- a streamed head without the end of its line
pub stream_row : (r : Rules) (k : Kind) (level : ℕ) (bytes : List ℕ) (shown : List Event) → StreamBegun r k [] level bytes shown → IsBegunBy r level bytes 5
stream_row r k level bytes shown w = subst (λ z. IsBegunBy r level z 5) (sym (w.are ∙ append-nil (kind_byte k ∷ 63 ∷ [])))
    (streamed_begun r k level w.has_streamed w.can_stream w.no_push w.below)

mark_more : (r : Rules) (k : Kind) (level byte : ℕ) (bytes : List ℕ) (shown : List Event) → byte ≡ 63 → (r.version ≡ version.Two → ⊥) →
    (r.limits.streamed ≡ false → ⊥) → CanStream k 0 → MayCount r k level bytes shown → StreamBegun r k [] level (bytes ++ byte ∷ []) shown
mark_more r k level byte bytes shown is no_two on can w = record {
  has_streamed = (no_two, on);
  can_stream = can;
  no_push = w.no_push;
  below = w.below;
  are =
      ap (λ z. z ++ byte ∷ []) w.are ∙ ap (λ z. kind_byte k ∷ z ∷ []) is;
  told = w.told;
}

-- version 3 isn't version 2
pub no_two_in_three : (v : Version) → v ≡ version.Three → v ≡ version.Two → ⊥
no_two_in_three v three two = let e : version.Three ≡ version.Two = sym three ∙ two in cc

-- `?` where an aggregate may be streamed, which version 2 refuses for an array
mark_leads : (s : Place) (T : ℕ → List ℕ → List Event → Type 0) (o : OpenKind) (used byte : ℕ) (front : List ℕ) (es : List Event) → byte ≡ 63 →
    CanStream (kind_of o) 0 → HasCountsOf s used front → IsInside (rules_of s) T s.frames front es →
    ((level : ℕ) (bytes : List ℕ) (shown : List Event) → level ≡ length s.frames → T level bytes shown → MayCount (rules_of s) (kind_of o) level bytes shown) →
    ((level : ℕ) → level ≡ length s.frames → s.version ≡ version.Two → IsRefusedHere (rules_of s) InVersion NoDouble level (kind_byte (kind_of o) ∷ 63 ∷ [])) →
    length s.frames < s.bounds.depth → Leads s front es byte (move_unless (aggregate_cause s (used + 1)) (Go (at s (AtOpenCr o))))
mark_leads s T o used byte front es is can c w may in_two below = by_cases s.version refl s.bounds.streamed refl
  where
    two_bytes : (level : ℕ) (bytes : List ℕ) (shown : List Event) → MayCount (rules_of s) (kind_of o) level bytes shown →
        bytes ++ byte ∷ [] ≡ kind_byte (kind_of o) ∷ 63 ∷ []
    two_bytes level bytes shown t = ap (λ z. z ++ byte ∷ []) t.are ∙ ap (λ z. kind_byte (kind_of o) ∷ z ∷ []) is

    by_cases : (v : Version) → s.version ≡ v → (on : Bool) → s.bounds.streamed ≡ on →
        Leads s front es byte (move_unless (cause_in_three v (cond on (cond (is_full s) (Some cause.Depth) (over_total s (used + 1) 5)) (Some cause.Streamed)))
        (Go (at s (AtOpenCr o))))
    by_cases version.Two two on e = refused (rules_of s) T InVersion NoDouble s.frames front (byte ∷ []) es refl (omega arith) w
        (λ level bytes shown i t. (_, _, two_bytes level bytes shown (may level bytes shown i t), in_two level i two))
    by_cases version.Three three false off = refused (rules_of s) T NotStreamed InRange s.frames front (byte ∷ []) es refl (omega arith) w
        (λ level bytes shown i t. (
          _,
          _,
          two_bytes level bytes shown (may level bytes shown i t),
          streamed_off (rules_of s) (kind_of o) level (no_two_in_three s.version three) off can (may level bytes shown i t).no_push,
        ))
    by_cases version.Three three true on =
        if_within s.bounds.depth (length s.frames) (λ x. Leads s front es byte
        (move_unless (cond x (Some cause.Depth) (over_total s (used + 1) 5)) (Go (at s (AtOpenCr o)))))
        (λ full. absurd (omega (arith, full, below)))
        (λ open_here.
        let more = goes (rules_of s) T (StreamBegun (rules_of s) (kind_of o) []) s.frames front (byte ∷ []) es w
        (λ level bytes shown i t. mark_more (rules_of s) (kind_of o) level byte bytes shown is (no_two_in_three s.version three) (λ off. let e : true ≡
        false = sym on ∙ off in cc) can (may level bytes shown i t)) in
        unless_over s front es used byte 5 (Go (at s (AtOpenCr o)))
        (fits_or_total s (StreamBegun (rules_of s) (kind_of o) []) front es es used byte 5 (Go (at s (AtOpenCr o))) c more
        (λ level bytes shown i t. stream_row (rules_of s) (kind_of o) level bytes shown t) more))

-- the type byte of an aggregate whose count may be zero
pub aggregate_row : (r : Rules) (k : Kind) (level : ℕ) (bytes : List ℕ) (shown : List Event) → members_of k 0 ≡ 0 → AggregateBegun r k level bytes shown →
    IsBegunBy r level bytes 3
aggregate_row r k level bytes shown none_yet w = subst (λ z. IsBegunBy r level z 3) (sym w.are) (aggregate_begun r k level w.no_two w.no_push w.below none_yet)

-- after a type byte a digit, or the mark of streamed ones
head_leads : (s : Place) (T : ℕ → List ℕ → List Event → Type 0) (h : Head) (k : Kind) (least needed used byte : ℕ) (marked : Move) (front : List ℕ)
    (es : List Event) → 3 * members_of k (byte - 48) + 2 ≡ needed → HasCountsOf s used front → IsInside (rules_of s) T s.frames front es →
    ((level : ℕ) (bytes : List ℕ) (shown : List Event) → level ≡ length s.frames → T level bytes shown →
    MayCount (rules_of s) k level bytes shown × IsBegunBy (rules_of s) level bytes least) →
    ((level : ℕ) (bytes : List ℕ) (shown : List Event) → T level bytes shown → bytes ≡ kind_byte k ∷ []) → (byte ≡ 63 → Leads s front es byte marked) →
    ((byte ≡ 63 → ⊥) → (IsDigit byte → ⊥) → IsNoCount k byte) → (IsInside (rules_of s) (CountBegun (rules_of s) k (byte - 48)) s.frames (front ++ byte ∷ [])
    es → StandsAfter (at s (InHead h (byte - 48))) (front ++ byte ∷ []) es) →
    Leads s front es byte (cond (eqb byte 63) marked (cond (is_digit byte) (count_digit s (used + 1) (byte - 48) needed (InHead h (byte - 48)))
    (Refuse cause.Syntax)))
head_leads s T h k least needed used byte marked front es e c w may are mark no_count lies =
    by_byte s front es 63 byte _ _ mark
    (λ no_mark_here. by_digit s front es byte _ _
    (λ digit. first_digit_leads s T k needed used byte (InHead h (byte - 48)) front es e digit c w (λ level bytes shown i t. (may level bytes shown i t).0)
    lies)
    (λ no_digit. broken (rules_of s) T s.frames front es least byte w (λ level bytes shown i t. (may level bytes shown i t).1)
    (λ level bytes rest shown t dead. head_dead (rules_of s) k level byte bytes rest (no_count no_mark_here no_digit) (are level bytes shown t) dead)))

-- `?` where version 3 may have a streamed aggregate
stream_leads : (s : Place) (o : OpenKind) (used byte : ℕ) (front : List ℕ) (es : List Event) → CanStream (kind_of o) 0 → HasCountsOf s used front →
    IsInside (rules_of s) (AggregateBegun (rules_of s) (kind_of o)) s.frames front es → byte ≡ 63 →
    Leads s front es byte (move_unless (aggregate_cause s (used + 1)) (Go (at s (AtOpenCr o))))
stream_leads s o used byte front es can c w is =
    let level : length w.frames ≡ length s.frames = at_level w in
    let below : length w.frames < s.bounds.depth = w.took.below in
    mark_leads s (AggregateBegun (rules_of s) (kind_of o)) o used byte front es is can c w
    (λ level bytes shown i t. of_three (rules_of s) (kind_of o) level bytes shown t) (λ level i two. absurd (w.took.no_two two)) (omega arith)

-- `?` where no aggregate may be streamed
no_stream_leads : (s : Place) (k : Kind) (least byte : ℕ) (front : List ℕ) (es : List Event) → ((n : ℕ) → CanStream k n → ⊥) →
    IsInside (rules_of s) (AggregateBegun (rules_of s) k) s.frames front es →
    ((level : ℕ) (bytes : List ℕ) (shown : List Event) → AggregateBegun (rules_of s) k level bytes shown → IsBegunBy (rules_of s) level bytes least) →
    byte ≡ 63 → Leads s front es byte (Refuse cause.Syntax)
no_stream_leads s k least byte front es no_stream w row is =
    broken (rules_of s) (AggregateBegun (rules_of s) k) s.frames front es least byte w (λ level bytes shown i t. row level bytes shown t)
    (λ level bytes rest shown t dead. mark_dead (rules_of s) k level byte bytes rest is no_stream t.are dead)

-- the type byte of an attribute list needs 6 bytes more, since a value comes after it
pub attribute_row : (r : Rules) (level : ℕ) (bytes : List ℕ) (shown : List Event) → AggregateBegun r d.Attr level bytes shown →
    IsBegunBy r level bytes 6
attribute_row r level bytes shown w = subst (λ z. IsBegunBy r level z 6) (sym w.are) (attribute_begun r level w.no_two w.below)

-- every byte after the type byte of an aggregate other than an array
pub heads_lead : (s : Place) (h : Head) → IsOfAggregate h → ALead (at s (AtHead h))
heads_lead s head.Array h used byte front es is_byte c w = absurd w.took
heads_lead s head.Set h used byte front es is_byte c w =
    let p = at s (AtHead head.Set) in
    head_leads p (AggregateBegun (rules_of s) d.Set) head.Set d.Set 3 ((byte - 48) * 3 + 2) used byte _ front es (omega arith) c w
    (λ level bytes shown i t. (of_three (rules_of s) d.Set level bytes shown t, aggregate_row (rules_of s) d.Set level bytes shown refl t))
    (λ level bytes shown t. t.are) (stream_leads p kind.Set used byte front es tt c w) (λ no_mark_here no_digit. (no_mark_here, no_digit)) (λ x. x)
heads_lead s head.Map h used byte front es is_byte c w =
    let p = at s (AtHead head.Map) in
    head_leads p (AggregateBegun (rules_of s) d.Map) head.Map d.Map 3 ((byte - 48) * 6 + 2) used byte _ front es (omega arith) c w
    (λ level bytes shown i t. (of_three (rules_of s) d.Map level bytes shown t, aggregate_row (rules_of s) d.Map level bytes shown refl t))
    (λ level bytes shown t. t.are) (stream_leads p kind.Map used byte front es (0, refl) c w) (λ no_mark_here no_digit. (no_mark_here, no_digit)) (λ x. x)
heads_lead s head.Attr h used byte front es is_byte c w =
    let p = at s (AtHead head.Attr) in
    let row = attribute_row (rules_of s) in
    head_leads p (AggregateBegun (rules_of s) d.Attr) head.Attr d.Attr 6 ((byte - 48) * 6 + 5) used byte _ front es (omega arith) c w
    (λ level bytes shown i t. (of_three (rules_of s) d.Attr level bytes shown t, row level bytes shown t)) (λ level bytes shown t. t.are)
    (no_stream_leads p d.Attr 6 byte front es (λ n can. can) w row) (λ no_mark_here no_digit. no_digit) (λ x. x)
heads_lead s head.Push h used byte front es is_byte c w =
    let p = at s (AtHead head.Push) in
    let row : (level : ℕ) (bytes : List ℕ) (shown : List Event) → AggregateBegun (rules_of s) d.Push level bytes shown → IsBegunBy (rules_of s) level bytes 3 =
    λ level bytes shown t. aggregate_row (rules_of s) d.Push level bytes shown refl t in
    head_leads p (AggregateBegun (rules_of s) d.Push) head.Push d.Push 3 ((byte - 48) * 3 + 2) used byte _ front es (omega arith) c w
    (λ level bytes shown i t. (of_three (rules_of s) d.Push level bytes shown t, row level bytes shown t)) (λ level bytes shown t. t.are)
    (no_stream_leads p d.Push 3 byte front es (λ n can. can) w row) (λ no_mark_here no_digit. no_digit) (λ x. x)
heads_lead s _ h used byte front es is_byte c w = absurd h

-- Arrays, which version 2 has too, and whose depth is tested after `*`.

null_begins : (s : Place) (used byte : ℕ) (front : List ℕ) (es : List Event) → byte ≡ 45 → HasCountsOf (at s AtArrayHead) used front →
    StandsAfter (at s AtArrayHead) front es → Leads (at s AtArrayHead) front es byte
    (move_unless (over_total (at s AtArrayHead) (used + 1) 3) (Go (at s AtNullOne)))
null_begins s used byte front es is c w =
    let r = rules_of s in
    let p = at s AtArrayHead in
    let more = goes r (b.TokenHas r AtArrayHead) (b.TokenHas r AtNullOne) s.frames front (byte ∷ []) es w
    (λ level bytes shown i t. (inr (ap (λ z. z ++ byte ∷ []) t.0 ∙ ap (λ z. 42 ∷ z ∷ []) is), t.1)) in
    let star : (level : ℕ) (bytes : List ℕ) (shown : List Event) → b.TokenHas r AtNullOne level bytes shown → IsBegunBy r level bytes 3 =
    λ level bytes shown t. null_first_row r level bytes t.0 in
    unless_over p front es used byte 3 (Go (at s AtNullOne)) (fits_or_total p (b.TokenHas r AtNullOne) front es es used byte 3 (Go (at s AtNullOne)) c more
    (λ level bytes shown i t. star level bytes shown t) more)

array_keeps : (r : Rules) (level : ℕ) (digits : List ℕ) (n : ℕ) → NodeKeeps r NotStreamed level d.Array (Counted digits) n
array_keeps r level digits n earlier =
    at_each_rule (λ a. rank a ≤ 5 → NodeMeets r a level d.Array (Counted digits) n) (λ e. tt) (λ e. tt) (λ e. λ is_two. tt) (λ e. tt) (λ e. tt) (λ e. λ off. tt)
    (λ e. absurd (omega arith)) (λ e. tt) (λ e. absurd (omega arith)) (λ e. tt) earlier

deep_row : (s : Place) → s.bounds.depth ≤ length s.frames → (level : ℕ) (bytes : List ℕ) (shown : List Event) → level ≡ length s.frames →
    b.TokenHas (rules_of s) AtArrayHead level bytes shown → IsBegunBy (rules_of s) level bytes 4
deep_row s deep level bytes shown i t = subst (λ z. IsBegunBy (rules_of s) level z 4) (sym t.0) (star_deep_begun (rules_of s) level (omega (arith, deep, i)))

-- an array that would be a level too deep
deep_leads : (s : Place) (byte : ℕ) (front : List ℕ) (es : List Event) → (byte ≡ 45 → ⊥) → s.bounds.depth ≤ length s.frames →
    StandsAfter (at s AtArrayHead) front es → Leads (at s AtArrayHead) front es byte (Refuse (full_cause (at s AtArrayHead) byte))
deep_leads s byte front es no_minus deep w =
    let r = rules_of s in
    let p = at s AtArrayHead in
    let T = b.TokenHas r AtArrayHead in
    if_equal byte 63 (λ x. Leads p front es byte (Refuse (cond x (full_streamed s.version s.bounds.streamed) (cond (is_digit byte) cause.Depth cause.Syntax))))
    (λ is. by_cases is s.version refl s.bounds.streamed refl)
    (λ no_mark_here. if_digit byte (λ x. Leads p front es byte (Refuse (cond x cause.Depth cause.Syntax)))
    (λ digit. refused r T WithinDepth NotStreamed s.frames front (byte ∷ []) es refl (omega arith) w
    (λ level bytes shown i t. (
      _,
      _,
      ap (λ z. z ++ byte ∷ []) t.0,
      array_too_deep r level byte digit (omega (arith, deep, i)) (array_keeps r level (byte ∷ []) (number (byte ∷ []))),
    )))
    (λ no_digit. broken r T s.frames front es 4 byte w (deep_row s deep)
    (λ level bytes rest shown t dead. head_dead r d.Array level byte bytes rest (no_minus, no_mark_here, no_digit) t.0 dead)))
  where
    two_bytes : (bytes : List ℕ) → byte ≡ 63 → bytes ≡ 42 ∷ [] → bytes ++ byte ∷ [] ≡ 42 ∷ 63 ∷ []
    two_bytes bytes is are = ap (λ z. z ++ byte ∷ []) are ∙ ap (λ z. 42 ∷ z ∷ []) is

    by_cases : byte ≡ 63 → (v : Version) → s.version ≡ v → (on : Bool) → s.bounds.streamed ≡ on →
        Leads (at s AtArrayHead) front es byte (Refuse (full_streamed v on))
    by_cases is version.Two two on e = refused (rules_of s) (b.TokenHas (rules_of s) AtArrayHead) InVersion NoDouble s.frames front (byte ∷ []) es refl
        (omega arith) w (λ level bytes shown i t. (_, _, two_bytes bytes is t.0, streamed_array_in_two (rules_of s) level two))
    by_cases is version.Three three false off = refused (rules_of s) (b.TokenHas (rules_of s) AtArrayHead) NotStreamed InRange s.frames front (byte ∷ []) es
        refl (omega arith) w (λ level bytes shown i t. (
          _,
          _,
          two_bytes bytes is t.0,
          streamed_off (rules_of s) d.Array level (no_two_in_three s.version three) off tt tt,
        ))
    by_cases is version.Three three true on = refused (rules_of s) (b.TokenHas (rules_of s) AtArrayHead) WithinDepth NotStreamed s.frames front (byte ∷ []) es
        refl (omega arith) w (λ level bytes shown i t. (
          _,
          _,
          two_bytes bytes is t.0,
          streamed_too_deep (rules_of s) d.Array level (
            no_two_in_three s.version three,
            λ off. let e : true ≡ false = sym on ∙ off in
                cc,
          ) (omega (arith, deep, i)) tt tt,
        ))

may_count : (s : Place) → length s.frames < s.bounds.depth → (level : ℕ) (bytes : List ℕ) (shown : List Event) → level ≡ length s.frames →
    b.TokenHas (rules_of s) AtArrayHead level bytes shown → MayCount (rules_of s) d.Array level bytes shown
may_count s below level bytes shown i t = record { in_version = λ digits two. tt; no_push = tt; below = omega (arith, below, i); are = t.0; told = t.1 }

array_first_leads : (s : Place) (used byte : ℕ) (front : List ℕ) (es : List Event) → (byte ≡ 45 → ⊥) → length s.frames < s.bounds.depth →
    HasCountsOf (at s AtArrayHead) used front → StandsAfter (at s AtArrayHead) front es →
    Leads (at s AtArrayHead) front es byte (head_first (at s AtArrayHead) (used + 1) head.Array byte)
array_first_leads s used byte front es no_minus below c w =
    let r = rules_of s in
    let p = at s AtArrayHead in
    let T = b.TokenHas r AtArrayHead in
    head_leads p T head.Array d.Array 3 ((byte - 48) * 3 + 2) used byte _ front es (omega arith) c w
    (λ level bytes shown i t. (
      may_count s below level bytes shown i t,
      subst (λ z. IsBegunBy r level z 3) (sym t.0) (star_begun r level (omega (arith, below, i))),
    )) (λ level bytes shown t. t.0)
    (λ is. mark_leads p T kind.Array used byte front es is tt c w (may_count s below) (λ level i two. streamed_array_in_two r level two) below)
    (λ no_mark_here no_digit. (no_minus, no_mark_here, no_digit)) (λ x. x)

-- every byte after `*`
pub array_head_leads : (s : Place) → ALead (at s AtArrayHead)
array_head_leads s used byte front es is_byte c w =
    let p = at s AtArrayHead in
    by_byte p front es 45 byte _ _
    (λ is. null_begins s used byte front es is c w)
    (λ no_minus. if_within s.bounds.depth (length s.frames) (λ x. Leads p front es byte
    (cond x (Refuse (full_cause p byte)) (head_first p (used + 1) head.Array byte)))
    (λ deep. deep_leads s byte front es no_minus deep w)
    (λ below. array_first_leads s used byte front es no_minus below c w))

-- The line of a streamed head.

-- every byte after the `?` of an aggregate's head
pub open_cr_leads : (s : Place) (kind : OpenKind) → ALead (at s (AtOpenCr kind))
open_cr_leads s o used byte front es is_byte c w =
    let r = rules_of s in
    let T = StreamBegun r (kind_of o) [] in
    wants_leads (at s (AtOpenCr o)) T front es 5 byte 13 (Go (at s (AtOpenLf o))) w (λ level bytes shown i t. stream_row r (kind_of o) level bytes shown t)
    (λ other level bytes rest shown t dead. byte_broken (LeafKeeps r Grammar) (NodeKeeps r Grammar) level (kind_byte (kind_of o) ∷ 63 ∷ []) rest byte
    (streamed_line (kind_of o)) other (streamed_broken (kind_of o) byte) (subst (λ z. CompletesUnder r Grammar level z (byte ∷ rest)) t.are dead))
    (λ is. subst (λ z. StandsAfter (at s (AtOpenLf o)) (front ++ z ∷ []) es) (sym is)
    (goes r T (StreamBegun r (kind_of o) (13 ∷ [])) s.frames front (13 ∷ []) es w
    (λ level bytes shown i t. record {
      has_streamed = t.has_streamed;
      can_stream = t.can_stream;
      no_push = t.no_push;
      below = t.below;
      are =
          ap (λ z. z ++ 13 ∷ []) t.are;
      told = t.told;
    })))

no_items : (k : Kind) → items_of k 0 ≡ 0
no_items d.Array = refl
no_items _ = refl

no_missing : (k : Kind) → members_missing k Streamed 0 ≡ 0
no_missing d.Array = refl
no_missing _ = refl

stream_keeps : (r : Rules) (k : Kind) (beyond : List ℕ) (level : ℕ) (bytes : List ℕ) (shown : List Event) → StreamBegun r k beyond level bytes shown →
    NodeKeeps r WithinItems level k Streamed 0
stream_keeps r k beyond level bytes shown w = node_keeps r WithinItems level k Streamed 0 (λ two. absurd (w.has_streamed.0 two)) w.no_push
    (λ off. absurd (w.has_streamed.1 off)) w.below (omega (arith, no_items k))

-- a streamed head without its LF
pub end_row : (r : Rules) (k : Kind) (level : ℕ) (bytes : List ℕ) (shown : List Event) → StreamBegun r k (13 ∷ []) level bytes shown → IsBegunBy r level bytes 4
end_row r k level bytes shown w =
    let five = streamed_begun r k level w.has_streamed w.can_stream w.no_push w.below in
    record {
      head = kind_byte k;
      tail = 63 ∷ 13 ∷ [];
      parts = w.are;
      some = omega arith;
      least = subst (λ z. HasLeast (CompletesUnder r WithinItems level z) 4) (sym w.are)
          (next_row (LeafKeeps r WithinItems) (NodeKeeps r WithinItems) level (kind_byte k ∷ 63 ∷ []) 13 4 (10 ∷ 46 ∷ crlf []) (stream_least r k level five)
          (record { tree = node k Streamed none; is_tree = (w.can_stream, tt); keep = (stream_keeps r k (13 ∷ []) level bytes shown w, tt); whole = refl })
          refl);
    }
  where
    stream_least : (r : Rules) (k : Kind) (level : ℕ) → IsBegunBy r level (kind_byte k ∷ 63 ∷ []) 5 →
        HasLeast (CompletesUnder r WithinItems level (kind_byte k ∷ 63 ∷ [])) 5
    stream_least r k level w = w.least

stream_opens : (r : Rules) (o : OpenKind) (level : ℕ) (bytes : List ℕ) (shown : List Event) → StreamBegun r (kind_of o) (13 ∷ []) level bytes shown →
    Opened r o (Begun 0) level (bytes ++ 10 ∷ []) (shown ++ e.Open (kind_of o) None ∷ [])
stream_opens r o level bytes shown w =
    let zero : 0 ≡ 0 + members_missing (kind_of o) Streamed 0 = omega (arith, no_missing (kind_of o)) in
    record {
      form = Streamed;
      head = ap (λ z. z ++ 10 ∷ []) w.are;
      shaped = (refl, refl);
      can_end = (
        subst (CanStream (kind_of o)) zero w.can_stream,
        subst (NodeKeeps r WithinItems level (kind_of o) Streamed) zero (stream_keeps r (kind_of o) (13 ∷ []) level bytes shown w),
      );
      told = ap (λ z. z ++ e.Open (kind_of o) None ∷ []) w.told;
    }

-- every byte after the CR of a streamed aggregate's head
pub open_end_leads : (s : Place) (kind : OpenKind) → ALead (at s (AtOpenLf kind))
open_end_leads s o used byte front es is_byte c w =
    let r = rules_of s in
    let T = StreamBegun r (kind_of o) (13 ∷ []) in
    wants_leads (at s (AtOpenLf o)) T front es 4 byte 10 (Give (k.Open o None) (h.after_streamed_open s o)) w
    (λ level bytes shown i t. end_row r (kind_of o) level bytes shown t)
    (λ other level bytes rest shown t dead. after_return_broken (LeafKeeps r Grammar) (NodeKeeps r Grammar) level (kind_byte (kind_of o) ∷ 63 ∷ []) rest byte
    (streamed_line (kind_of o)) other (subst (λ z. CompletesUnder r Grammar level z (byte ∷ rest)) t.are dead))
    (λ is. subst (λ z. StandsAfter (h.after_streamed_open s o) (front ++ z ∷ []) (es ++ e.Open (kind_of o) None ∷ [])) (sym is)
    (opens_lie r T s.frames front (10 ∷ []) es (e.Open (kind_of o) None ∷ []) o (Begun 0) w (λ level bytes shown i t. stream_opens r o level bytes shown t)))
