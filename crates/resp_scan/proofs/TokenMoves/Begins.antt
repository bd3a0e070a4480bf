-- Where a value begins: items and total test it, and the innermost aggregate counts it.
use Rattle.std.specs.Prelude.{true, false, cond, eqb, nat_le, None, Some, ◌&&◌, ◌/◌, ◌%◌}
use Rattle.std.proofs.lemmas.Bool.Decides.{nat_tests}
use Rattle.std.proofs.Common.{◌≡◌, ℕ, suc, ◌+◌, ◌-◌, ◌<◌, ◌≤◌, List, [], ◌∷◌, ◌++◌, length, refl, sym, ap, subst, ◌∙◌, arith}
use Rattle.resp_value.specs.Bounds.{AreBounds}
use Rattle.resp_value.specs.Data.{Kind, items_of}
use Rattle.resp_value.specs.Trees.{Form, HasMembers, Streamed, count}
use Rattle.resp_value.specs.Rules.{Rules, WithinItems}
use Rattle.resp_value.specs.LocalRules.{LeafKeeps, NodeKeeps}
use Rattle.resp_value.specs.declared.cause.Cause.TheVariants as cause
use Rattle.resp_value.specs.declared.kind.OpenKind.{OpenKind}
use Rattle.resp_value.specs.declared.kind.OpenKind.TheVariants as kind
use Rattle.resp_value.specs.Kinds.{kind_of}
use Rattle.resp_value.proofs.Choices.{if_equal, positive}
use Rattle.resp_fronts.specs.Frames as opened
use Rattle.resp_fronts.specs.Frames.{text_around}
use Rattle.resp_fronts.specs.FirstByteRefusals.{first_byte_refusal}
use Rattle.resp_fronts.specs.MayFollow.{CanEnd, members_missing}
use Rattle.resp_fronts.specs.Events.{Event, events_around, without_places}
use Rattle.resp_fronts.proofs.Between.BegunBetweenValues as between
use Rattle.resp_fronts.proofs.Tokens.BegunFronts.{IsBegunBy}
use Rattle.resp_fronts.proofs.Between.BetweenValues.{HasRoom, IsBetween, begun_can_end, room}
use Rattle.resp_fronts.proofs.FrameLaws.Composition.{around-append}
use Rattle.resp_fronts.proofs.FrameLaws.LevelsAlone.{same_length}
use Rattle.resp_fronts.specs.OpenLevels.{AreLevelsOf, AreReady, HasShape, Level, to_come, so_far}
use Rattle.resp_scan.specs.declared.frame.Frame.{Frame}
use Rattle.resp_scan.specs.declared.frame.Shape.{Shape}
use Rattle.resp_scan.specs.declared.frame.Shape.TheVariants.{Left, Begun}
use Rattle.resp_scan.specs.Machine.Tokens.{Byte, Give, Go, Move, Place, Refuse}
use Rattle.resp_scan.specs.Machine.Room.{begin_cause, after_begin, after_begin_in, has_all, has_all_of, over_total, need_after_begin, shape_after_begin}
use Rattle.resp_scan.specs.Machine.Moves.{move_unless}
use Rattle.resp_scan.specs.Kinds.{IsRefusedFor, rules_of}
use Rattle.resp_scan.specs.Machine.Standing.{AwaitsMember, HasCountsOf, HasBegunMember, IsInside, Leads, busy_shape, busy_levels, waiting_shape, waiting_levels}
use Rattle.resp_scan.specs.Machine.Sound.{need_of_frame, need_of_frames}
use Rattle.resp_scan.proofs.TokenMoves.Moves.{length-busy}
use Rattle.resp_scan.proofs.TokenMoves.RefusedMoves.{fits_or_past, unless_over}

-- as many levels wait as frames are open
pub length-waiting : (fs : List Frame) → length (waiting_levels fs) ≡ length fs
length-waiting [] = refl
length-waiting (f ∷ fs) = ap suc (length-busy fs)

-- the events aside
pub is_between : (r : Rules) (fs : List Frame) (front : List ℕ) (es : List Event) → AwaitsMember r fs front es → IsBetween r (waiting_levels fs) front
is_between r fs front es w = (w.frames, w.of_levels, w.ready, w.whole)

-- The innermost aggregate.

-- its shape once the member has begun
begun_shape : (k : Kind) (shape : Shape) (form : Form) (n : ℕ) → HasShape k (waiting_shape shape) form n →
    HasShape k (busy_shape (shape_after_begin shape)) form n
begun_shape k (Left m) form n h = (h.0, h.1, h.2, omega (arith, h.3, h.4), omega (arith, h.4))
begun_shape k (Begun m) form n h = (h.0, omega (arith, h.1))

has_begun : (shape : Shape) → HasBegunMember (shape_after_begin shape)
has_begun (Left m) = tt
has_begun (Begun m) = omega arith

-- a counted one has a member left
abbrev HasMore : Shape → Type 0
HasMore (Left m) = 0 < m
HasMore (Begun m) = Unit {0}

has_more : (shape : Shape) (k : Kind) (form : Form) (n : ℕ) → HasShape k (waiting_shape shape) form n → HasMore shape
has_more (Left m) k form n h = h.4
has_more (Begun m) k form n h = tt

-- what it needs then
need_is : (k : OpenKind) (shape : Shape) (frames_need others : ℕ) → HasMore shape → frames_need ≡ need_of_frame k shape + others →
    need_after_begin k shape frames_need ≡ need_of_frame k (shape_after_begin shape) + others
need_is k (Left m) frames_need others some_left e = omega (arith, e, some_left)
need_is kind.Array (Begun m) frames_need others some_left e = e
need_is kind.Set (Begun m) frames_need others some_left e = e
need_is kind.Attr (Begun m) frames_need others some_left e = e
need_is kind.Push (Begun m) frames_need others some_left e = e
need_is kind.Map (Begun m) frames_need others some_left e =
    if_equal (m % 2) 0 (λ x. frames_need ≡ cond x 3 6 + others → cond x (frames_need + 3) (frames_need - 3) ≡ cond (eqb ((m + 1) % 2) 0) 3 6 + others)
    (λ even q. let odd : eqb ((m + 1) % 2) 0 ≡ false = grind (arith, nat_tests) in ap (λ n. n + 3) q ∙ sums others ∙ ap (λ x. cond x 3 6 + others) (sym odd))
    (λ odd q. let even : eqb ((m + 1) % 2) 0 ≡ true = evens m odd in omega (arith, q) ∙ ap (λ x. cond x 3 6 + others) (sym even))
    e
  where
    sums : (n : ℕ) → 3 + n + 3 ≡ 6 + n
    sums n = omega arith

    evens : (m : ℕ) → (m % 2 ≡ 0 → ⊥) → eqb ((m + 1) % 2) 0 ≡ true
    evens m odd = let z : (m + 1) % 2 ≡ 0 = omega (arith, positive (m % 2) odd) in ap (λ n. eqb n 0) z

-- items let one more begin in a streamed aggregate
room_in : (r : Rules) (k : OpenKind) (m : ℕ) → items_of (kind_of k) (m + members_missing (kind_of k) Streamed m) ≤ r.limits.items →
    has_all_of k m r.limits.items ≡ false → items_of (kind_of k) (room (kind_of k) m) ≤ r.limits.items
room_in r kind.Attr m keeps e = let below : m < r.limits.items = grind (arith, nat_tests) in omega (arith, below)
room_in r kind.Map m keeps e =
    if_equal (m % 2) 0 (λ x. (x && nat_le r.limits.items (m / 2)) ≡ false → (m + 1 + (m + 1) % 2) / 2 ≤ r.limits.items)
    (λ even z. let below : m / 2 < r.limits.items = grind (arith, nat_tests) in omega (arith, below, even))
    (λ odd z. omega (arith, keeps, positive (m % 2) odd))
    e
room_in r _ m keeps e = grind (arith, nat_tests)

-- or do not
full_in : (r : Rules) (k : OpenKind) (m n : ℕ) → HasMembers (kind_of k) Streamed n → has_all_of k m r.limits.items ≡ true →
    r.limits.items < items_of (kind_of k) (room (kind_of k) m)
full_in r kind.Array m n can e = grind (arith, nat_tests)
full_in r kind.Set m n can e = grind (arith, nat_tests)
full_in r kind.Push m n can e = absurd can
full_in r kind.Attr m n can e = absurd can
full_in r kind.Map m n can e =
    if_equal (m % 2) 0 (λ x. (x && nat_le r.limits.items (m / 2)) ≡ true → r.limits.items < (m + 1 + (m + 1) % 2) / 2)
    (λ even z. let above : r.limits.items ≤ m / 2 = grind (arith, nat_tests) in omega (arith, above, even))
    (λ odd z. absurd cc)
    e

-- A value begins.

begins_in : (r : Rules) (f : Frame) (fs : List Frame) (T : ℕ → List ℕ → List Event → Type 0) (front : List ℕ) (es new : List Event) (byte : ℕ) →
    (w : AwaitsMember r (f ∷ fs) front es) → has_all f.kind f.shape r.limits.items ≡ false → ((level : ℕ) → level ≡ suc (length fs) → T level (byte ∷ []) new) →
    IsInside r T (record f { shape = shape_after_begin f.shape } ∷ fs) (front ++ byte ∷ []) (es ++ new)
begins_in r f fs T front es new byte w open_here took = record {
  frames = w.frames;
  bytes = byte ∷ [];
  shown = new;
  begun = (has_begun f.shape, w.begun);
  of_levels = levels w.frames w.of_levels;
  can_end = begun_can_end r (waiting_levels (f ∷ fs)) w.frames w.of_levels w.ready (λ v outer e. room_of w.frames w.of_levels w.ready v outer e);
  took = took (length w.frames) (sym (same_length (waiting_levels (f ∷ fs)) w.frames w.of_levels) ∙ length-waiting (f ∷ fs));
  whole = ap (λ z. z ++ byte ∷ []) w.whole ∙ around-append w.frames [] (byte ∷ []);
  told = ap (λ z. z ++ new) w.told;
}
  where
    levels : (gs : List opened.Frame) → AreLevelsOf (waiting_levels (f ∷ fs)) gs →
        AreLevelsOf (busy_levels (record f { shape = shape_after_begin f.shape } ∷ fs)) gs
    levels [] a = absurd a
    levels (g ∷ gs) a = (a.0, begun_shape g.kind f.shape g.form (count g.done) a.1, a.2)

    here : (shape : Shape) (g : opened.Frame) → HasShape g.kind (waiting_shape shape) g.form (count g.done) →
        CanEnd (NodeKeeps r WithinItems) (length fs) g.kind g.form (count g.done) → g.kind ≡ kind_of f.kind → has_all f.kind shape r.limits.items ≡ false →
        HasRoom r (record { kind = kind_of f.kind; shape = waiting_shape shape })
    here (Left m) g h c k e n is = let z : to_come m ≡ so_far n = is in absurd cc
    here (Begun m) g h c k e n is =
        let z : so_far m ≡ so_far n = is in
        let same : m ≡ n = cc in
        let keeps : items_of g.kind (count g.done + members_missing g.kind g.form (count g.done)) ≤ r.limits.items = c.1 WithinItems (omega arith) in
        let form : members_missing g.kind g.form (count g.done) ≡ members_missing (kind_of f.kind) Streamed m =
        ap (λ x. members_missing g.kind x (count g.done)) h.0 ∙ ap (λ x. members_missing g.kind Streamed x) (sym h.1) ∙
        ap (λ x. members_missing x Streamed m) k in
        let total : items_of g.kind (count g.done + members_missing g.kind g.form (count g.done)) ≡
        items_of (kind_of f.kind) (m + members_missing (kind_of f.kind) Streamed m) =
        ap (λ x. items_of g.kind (x + members_missing g.kind g.form (count g.done))) (sym h.1) ∙ ap (λ x. items_of g.kind (m + x)) form ∙
        ap (λ x. items_of x (m + members_missing (kind_of f.kind) Streamed m)) k in
        subst (λ x. items_of (kind_of f.kind) (room (kind_of f.kind) x) ≤ r.limits.items) same (room_in r f.kind m (omega (arith, keeps, total)) e)

    room_of : (gs : List opened.Frame) → AreLevelsOf (waiting_levels (f ∷ fs)) gs → AreReady (LeafKeeps r WithinItems) (NodeKeeps r WithinItems) gs →
        (v : Level) (outer : List Level) → waiting_levels (f ∷ fs) ≡ v ∷ outer → HasRoom r v
    room_of [] a o v outer e = absurd a
    room_of (g ∷ gs) a o v outer e =
        let first : record { kind = kind_of f.kind; shape = waiting_shape f.shape } ≡ v = cc in
        let length_is : length gs ≡ length fs = sym (same_length (busy_levels fs) gs a.2) ∙ length-busy fs in
        subst (HasRoom r) first (here f.shape g a.1 (subst (λ n. CanEnd (NodeKeeps r WithinItems) n g.kind g.form (count g.done)) length_is o.0) (sym a.0)
        open_here)

begins_at_top : (r : Rules) (T : ℕ → List ℕ → List Event → Type 0) (front : List ℕ) (es new : List Event) (byte : ℕ) → (w : AwaitsMember r [] front es) →
    T 0 (byte ∷ []) new → IsInside r T [] (front ++ byte ∷ []) (es ++ new)
begins_at_top r T front es new byte w took = case w.frames w.of_levels w.whole w.told
  where
    case : (gs : List opened.Frame) → AreLevelsOf [] gs → front ≡ text_around gs [] → es ≡ without_places (events_around gs) →
        IsInside r T [] (front ++ byte ∷ []) (es ++ new)
    case [] a e told = record {
      frames = [];
      bytes = byte ∷ [];
      shown = new;
      begun = tt;
      of_levels = tt;
      can_end = tt;
      took = took;
      whole =
          ap (λ z. z ++ byte ∷ []) e;
      told = ap (λ z. z ++ new) told;
    }
    case (g ∷ gs) a e told = absurd a

-- one item too many
full_leads : (s : Place) (f : Frame) (fs : List Frame) (front : List ℕ) (es : List Event) (byte : ℕ) → AreBounds s.bounds → (byte ≡ 46 → ⊥) →
    first_byte_refusal (rules_of s) (suc (length fs)) byte ≡ None → (w : AwaitsMember (rules_of s) (f ∷ fs) front es) →
    has_all f.kind f.shape s.bounds.items ≡ true → IsRefusedFor (rules_of s) (front ++ byte ∷ []) cause.Items
full_leads s f fs front es byte bounds no_stop none w full = case f.shape refl full
  where
    can : (gs : List opened.Frame) (m : ℕ) → f.shape ≡ Begun m → AreLevelsOf (waiting_levels (f ∷ fs)) gs →
        AreReady (LeafKeeps (rules_of s) WithinItems) (NodeKeeps (rules_of s) WithinItems) gs → (n : ℕ) × HasMembers (kind_of f.kind) Streamed n
    can [] m e a o = absurd a
    can (g ∷ gs) m e a o =
        let h : HasShape g.kind (so_far m) g.form (count g.done) = subst (λ x. HasShape g.kind (waiting_shape x) g.form (count g.done)) e a.1 in (
          count g.done + members_missing g.kind g.form (count g.done),
          subst (λ x. HasMembers x Streamed (count g.done + members_missing g.kind g.form (count g.done))) (sym a.0)
              (subst (λ x. HasMembers g.kind x (count g.done + members_missing g.kind g.form (count g.done))) h.0 o.0.0),
        )

    case : (shape : Shape) → f.shape ≡ shape → has_all f.kind shape s.bounds.items ≡ true → IsRefusedFor (rules_of s) (front ++ byte ∷ []) cause.Items
    case (Left m) e full = absurd cc
    case (Begun m) e full = record {
      rule = WithinItems;
      names = refl;
      cause = between.full_cause (rules_of s) (record { kind = kind_of f.kind; shape = waiting_shape f.shape }) (busy_levels fs) front byte m bounds no_stop
          (is_between (rules_of s) (f ∷ fs) front es w) (subst (λ n. first_byte_refusal (rules_of s) n byte ≡ None) (sym (ap suc (length-busy fs))) none)
          (ap waiting_shape e)
          (let c = can w.frames m e w.of_levels w.ready in full_in (rules_of s) f.kind m c.0 c.1 full);
    }

-- The test of a first byte.

-- the move is the same from the place whose value has begun
same_move : (s : Place) (front : List ℕ) (es : List Event) (byte : ℕ) (v : Move) → Leads (after_begin s) front es byte v → Leads s front es byte v
same_move s front es byte v h = case s.frames v h
  where
    case : (fs : List Frame) (v : Move) → Leads (after_begin_in s fs) front es byte v → Leads s front es byte v
    case [] v h = h
    case (f ∷ fs) (Go t) h = h
    case (f ∷ fs) (Byte t) h = h
    case (f ∷ fs) (Give e t) h = h
    case (f ∷ fs) (Refuse c) h = h

from_move : (s : Place) (front : List ℕ) (es : List Event) (byte : ℕ) (v : Move) → Leads s front es byte v → Leads (after_begin s) front es byte v
from_move s front es byte v h = case s.frames v h
  where
    case : (fs : List Frame) (v : Move) → Leads s front es byte v → Leads (after_begin_in s fs) front es byte v
    case [] v h = h
    case (f ∷ fs) (Go t) h = h
    case (f ∷ fs) (Byte t) h = h
    case (f ∷ fs) (Give e t) h = h
    case (f ∷ fs) (Refuse c) h = h

-- a first byte that begins a value leads on where its move does
pub begins_leads : (s : Place) (T : ℕ → List ℕ → List Event → Type 0) (front : List ℕ) (es new : List Event) (byte needed : ℕ) (v : Move) →
    HasCountsOf s 0 front → (byte ≡ 46 → ⊥) → first_byte_refusal (rules_of s) (length s.frames) byte ≡ None → AwaitsMember (rules_of s) s.frames front es →
    ((level : ℕ) → level ≡ length s.frames → T level (byte ∷ []) new) →
    ((level : ℕ) (bytes : List ℕ) (shown : List Event) → level ≡ length s.frames → T level bytes shown → IsBegunBy (rules_of s) level bytes needed) →
    (IsInside (rules_of s) T (after_begin s).frames (front ++ byte ∷ []) (es ++ new) → Leads s front es byte v) →
    Leads s front es byte (move_unless (begin_cause s needed) v)
begins_leads s T front es new byte needed v c no_stop none w took row leads = case s.frames c none w took row leads
  where
    more_in : (f : Frame) (fs : List Frame) (gs : List opened.Frame) → AreLevelsOf (waiting_levels (f ∷ fs)) gs → HasMore f.shape
    more_in f fs [] a = absurd a
    more_in f fs (g ∷ gs) a = has_more f.shape g.kind g.form (count g.done) a.1

    case : (fs : List Frame) → HasCountsOf (record s { frames = fs }) 0 front → first_byte_refusal (rules_of s) (length fs) byte ≡ None →
        AwaitsMember (rules_of s) fs front es → ((level : ℕ) → level ≡ length fs → T level (byte ∷ []) new) →
        ((level : ℕ) (bytes : List ℕ) (shown : List Event) → level ≡ length fs → T level bytes shown → IsBegunBy (rules_of s) level bytes needed) →
        (IsInside (rules_of s) T (after_begin (record s { frames = fs })).frames (front ++ byte ∷ []) (es ++ new) →
        Leads (record s { frames = fs }) front es byte v) → Leads (record s { frames = fs }) front es byte
        (move_unless (begin_cause (record s { frames = fs }) needed) v)
    case [] c none w took row leads =
        let p = record s { frames = [] } in
        let inside = begins_at_top (rules_of s) T front es new byte w (took 0 refl) in
        unless_over p front es 0 byte needed v (fits_or_past p T front es (es ++ new) 0 byte needed v c.sound.frames_need c.taken inside row (leads inside))
    case (f ∷ fs) c none w took row leads =
        let p = record s { frames = f ∷ fs } in
        let q = after_begin p in
        elim (has_all f.kind f.shape s.bounds.items) as (λ x. has_all f.kind f.shape s.bounds.items ≡ x →
        Leads p front es byte (move_unless (cond x (Some cause.Items) (over_total q 1 needed)) v)) [
          | true ↦ λ full. full_leads s f fs front es byte c.sound.bounds no_stop none w full
          | false ↦ λ open_here.
              let inside = begins_in (rules_of s) f fs T front es new byte w open_here took in
              let goes = leads inside in
              same_move p front es byte (move_unless (over_total q 1 needed) v)
              (unless_over q front es 0 byte needed v (fits_or_past q T front es (es ++ new) 0 byte needed v
              (need_is f.kind f.shape s.frames_need (need_of_frames fs) (more_in f fs w.frames w.of_levels) c.sound.frames_need) c.taken inside row
              (from_move p front es byte v goes)))
        ] refl
