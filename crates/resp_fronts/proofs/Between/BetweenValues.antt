-- Between values: a scanner that waits for a member or a close.
use Rattle.std.proofs.Common.{◌%◌, ◌+◌, ◌/◌, ◌<◌, ◌∙◌, ◌∷◌, ◌≡◌, ◌≤◌, List, [], ap, arith, length, refl, subst, suc, sym, ℕ}
use Rattle.resp_value.specs.Data.{Array, Attr, Kind, Map, Push, Set, items_of, members_of}
use Rattle.resp_value.specs.LocalRules.{LeafKeeps, LeafRule, NodeKeeps, NodeRule}
use Rattle.resp_value.specs.Numbers.{number}
use Rattle.resp_value.specs.Rules.{InVersion, NotStreamed, PushAtTop, Rule, Rules, WithinDepth, WithinItems}
use Rattle.resp_value.specs.Trees.{CanStream, Counted, Form, HasMembers, Streamed, count, text}
use Rattle.resp_value.proofs.DefaultLimits.{text_at_least}
use Rattle.resp_fronts.specs.Frames.{Frame, text_around}
use Rattle.resp_fronts.specs.LeastCompletions.{HasLeast}
use Rattle.resp_fronts.specs.MayFollow.{AreKept, AreOpen, CanAllEnd, CanEnd, IsWholeText, MayFollowFrames, MayFollowValue, frames_needed, members_needed, members_missing}
use Rattle.resp_fronts.proofs.FrameLaws.Composition.{around-append, compose, determine}
use Rattle.resp_fronts.proofs.FrameLaws.LeastAround.{after_least, are_kept, are_open, members_least}
use Rattle.resp_fronts.proofs.FrameLaws.Levels.{IsEnded, levels_needed, levels_needed_is, shape_needed, shape_needed_is, within_frames}
use Rattle.resp_fronts.proofs.FrameLaws.OpenFrames.{shortest_tree}
use Rattle.resp_fronts.proofs.Refusals.RefusedFronts.{CompletesFront}
use Rattle.resp_fronts.proofs.FrameLaws.KeptNodes.{shortest_keeps}
use Rattle.resp_fronts.specs.OpenLevels.{AreLevelsOf, AreReady, HasShape, Level, Shape, to_come, so_far}

-- a value or a close may come next
abbrev pub IsBetween : Rules → List Level → List ℕ → Type 0
IsBetween r vs p = IsEnded (LeafKeeps r WithinItems) (NodeKeeps r WithinItems) (within_frames vs) p

-- the bytes that are needed between values
abbrev pub between_needed : List Level → ℕ
between_needed [] = 3
between_needed (v ∷ vs) = shape_needed v.kind v.shape + levels_needed vs

can_stream_more : (k : Kind) (n : ℕ) → CanStream k n → CanStream k (n + 2)
can_stream_more Array n p = tt
can_stream_more Set n p = tt
can_stream_more Map n p = (p.0 + 1, omega (arith, p.1))
can_stream_more Attr n p = p
can_stream_more Push n p = p

open_in : (N : NodeRule) (l : ℕ) (k : Kind) (f : Form) (s : Shape) (n : ℕ) → HasShape k s f n → CanEnd N l k f n → (m : ℕ) × HasMembers k f m × (n < m)
open_in N l k (Counted ds) (to_come m) n h c =
    let e : Counted ds ≡ Counted h.0 = h.1 in
    let d : ds ≡ h.0 = cc in
    let b : members_of k (number ds) ≡ members_of k (number h.0) = ap (λ z. members_of k (number z)) d in
    (n + members_missing k (Counted ds) n, c.0, omega (arith, h.3, h.4))
open_in N l k Streamed (to_come m) n h c = let e : Streamed ≡ Counted h.0 = h.1 in absurd (cc)
open_in N l k (Counted ds) (so_far m) n h c = let e : Counted ds ≡ Streamed = h.0 in absurd (cc)
open_in N l k Streamed (so_far m) n h c = (n + members_missing k Streamed n + 2, can_stream_more k (n + members_missing k Streamed n) c.0, omega arith)

-- frames that wait for a member have room for one
pub ready_open : (L : LeafRule) (N : NodeRule) (vs : List Level) (fs : List Frame) → AreLevelsOf vs fs → AreReady L N fs → AreOpen fs
ready_open L N [] [] a o = tt
ready_open L N [] (f ∷ fs) a o = absurd a
ready_open L N (v ∷ vs) [] a o = absurd a
ready_open L N (v ∷ vs) (f ∷ fs) a o = let w = open_in N (length fs) f.kind f.form v.shape (count f.done) a.1 o.0 in (w.0, w.1, w.2, o.1, are_open L N fs o.3)

ready_kept : (L : LeafRule) (N : NodeRule) (fs : List Frame) → AreReady L N fs → AreKept L N fs
ready_kept L N [] o = tt
ready_kept L N (f ∷ fs) o = (o.1, o.2, are_kept L N fs o.3)

rest_least : (r : Rules) (vs : List Level) (fs : List Frame) → AreLevelsOf vs fs → AreReady (LeafKeeps r WithinItems) (NodeKeeps r WithinItems) fs →
    HasLeast (MayFollowFrames (LeafKeeps r WithinItems) (NodeKeeps r WithinItems) fs) (between_needed vs)
rest_least r [] [] a o = record {
  some = text shortest_tree;
  holds = record { tree = shortest_tree; is_tree = (tt, tt, tt); keep = shortest_keeps r WithinItems 0; whole = refl };
  size = refl;
  least = λ c w. omega (arith, text_at_least w.tree, ap length w.whole);
}
rest_least r [] (f ∷ fs) a o = absurd a
rest_least r (v ∷ vs) [] a o = absurd a
rest_least r (v ∷ vs) (f ∷ fs) a o =
    let e : shape_needed v.kind v.shape ≡ shape_needed f.kind v.shape = ap (λ z. shape_needed z v.shape) a.0 in
    let n : members_needed f.kind f.form (count f.done) (frames_needed fs) ≡ between_needed (v ∷ vs) =
    omega (arith, shape_needed_is f.kind v.shape f.form (count f.done) a.1, levels_needed_is vs fs a.2) in
    subst (HasLeast (MayFollowFrames (LeafKeeps r WithinItems) (NodeKeeps r WithinItems) (f ∷ fs))) n
    (members_least (LeafKeeps r WithinItems) (NodeKeeps r WithinItems) (length fs) f.kind f.form (count f.done) (frames_needed fs)
    (MayFollowValue (LeafKeeps r WithinItems) (NodeKeeps r WithinItems) fs) (shortest_keeps r WithinItems (suc (length fs))) o.0
    (after_least (LeafKeeps r WithinItems) (NodeKeeps r WithinItems) fs (shortest_keeps r WithinItems) o.3))

-- what is needed between values
pub between_least : (r : Rules) (vs : List Level) (p : List ℕ) → IsBetween r vs p → HasLeast (CompletesFront r WithinItems p) (between_needed vs)
between_least r vs p w =
    let (fs, a, o, e) = w in
    let l = rest_least r vs fs a o in
    let e0 : p ≡ text_around fs [] = e in
    subst (λ q. HasLeast (CompletesFront r WithinItems q) (between_needed vs)) (sym e0) (record {
      some = l.some;
      holds = subst (IsWholeText (LeafKeeps r WithinItems) (NodeKeeps r WithinItems)) (sym (around-append fs [] l.some))
          (compose (LeafKeeps r WithinItems) (NodeKeeps r WithinItems) fs l.some (ready_kept (LeafKeeps r WithinItems) (NodeKeeps r WithinItems) fs o) l.holds);
      size = l.size;
      least = λ c x. l.least c (determine (LeafKeeps r WithinItems) (NodeKeeps r WithinItems) fs c
          (ready_open (LeafKeeps r WithinItems) (NodeKeeps r WithinItems) vs fs a o)
          (subst (IsWholeText (LeafKeeps r WithinItems) (NodeKeeps r WithinItems)) (around-append fs [] c) x));
    })

-- a streamed aggregate has room for a member more, and a map for the value of its key
abbrev pub room : Kind → ℕ → ℕ
room Map m = m + 1 + (m + 1) % 2
room _ m = m + 1

-- room for a member more, where the frame is streamed
abbrev pub HasRoom : Rules → Level → Type 0
HasRoom r v = (m : ℕ) → v.shape ≡ so_far m → items_of v.kind (room v.kind m) ≤ r.limits.items

-- what a streamed frame with one member more has at least
pub room_is : (k : Kind) (n : ℕ) → suc n + members_missing k Streamed (suc n) ≡ room k n
room_is Map n = omega (arith, ap (λ z. z % 2) (omega_one n))
  where
    omega_one : (n : ℕ) → suc n ≡ n + 1
    omega_one n = omega arith
room_is _ n = omega arith

can_room : (k : Kind) (n m : ℕ) → CanStream k m → CanStream k (room k n)
can_room Array n m p = tt
can_room Set n m p = tt
can_room Map n m p = ((n + 1 + (n + 1) % 2) / 2, omega arith)
can_room Attr n m p = p
can_room Push n m p = p

-- the rules of an aggregate but that of items don't look at its size
pub node_resizes : (r : Rules) (g : Rule) (k : ℕ) (j : Kind) (f : Form) (m n : ℕ) → NodeKeeps r g k j f m → items_of j n ≤ r.limits.items →
    NodeKeeps r g k j f n
node_resizes r g k j f m n p l InVersion e = p InVersion e
node_resizes r g k j f m n p l PushAtTop e = p PushAtTop e
node_resizes r g k j f m n p l NotStreamed e = p NotStreamed e
node_resizes r g k j f m n p l WithinDepth e = p WithinDepth e
node_resizes r g k j f m n p l WithinItems e = l
node_resizes r g k j f m n p l _ e = tt

-- a frame that can end can end with one member more, where it has room
pub can_end_with_more : (r : Rules) (g : Rule) (k : ℕ) (j : Kind) (s : Shape) (f : Form) (n : ℕ) → HasShape j s f n →
    ((m : ℕ) → s ≡ so_far m → (x : ℕ) → NodeKeeps r g k j f x → NodeKeeps r g k j f (room j m)) → CanEnd (NodeKeeps r g) k j f n →
    CanEnd (NodeKeeps r g) k j f (suc n)
can_end_with_more r g k j (to_come m) (Counted ds) n h q c =
    let e : Counted ds ≡ Counted h.0 = h.1 in
    let d : ds ≡ h.0 = cc in
    let b : members_of j (number ds) ≡ members_of j (number h.0) = ap (λ z. members_of j (number z)) d in
    let x : n + members_missing j (Counted ds) n ≡ suc n + members_missing j (Counted ds) (suc n) = omega (arith, h.3, h.4) in
    (subst (HasMembers j (Counted ds)) x c.0, subst (NodeKeeps r g k j (Counted ds)) x c.1)
can_end_with_more r g k j (to_come m) Streamed n h q c = let e : Streamed ≡ Counted h.0 = h.1 in absurd (cc)
can_end_with_more r g k j (so_far m) (Counted ds) n h q c = let e : Counted ds ≡ Streamed = h.0 in absurd (cc)
can_end_with_more r g k j (so_far m) Streamed n h q c =
    let e : m ≡ n = h.1 in
    let x : room j m ≡ suc n + members_missing j Streamed (suc n) = ap (room j) e ∙ sym (room_is j n) in (
      subst (CanStream j) x (can_room j m (n + members_missing j Streamed n) c.0),
      subst (NodeKeeps r g k j Streamed) x (q m refl (n + members_missing j Streamed n) c.1),
    )

-- the aggregates with one member begun can be completed
pub begun_can_end : (r : Rules) (vs : List Level) (fs : List Frame) → AreLevelsOf vs fs → AreReady (LeafKeeps r WithinItems) (NodeKeeps r WithinItems) fs →
    ((v : Level) (us : List Level) → vs ≡ v ∷ us → HasRoom r v) → CanAllEnd (LeafKeeps r WithinItems) (NodeKeeps r WithinItems) fs
begun_can_end r [] [] a o h = tt
begun_can_end r [] (f ∷ fs) a o h = absurd a
begun_can_end r (v ∷ vs) [] a o h = absurd a
begun_can_end r (v ∷ vs) (f ∷ fs) a o h =
    let k : v.kind ≡ f.kind = a.0 in (
      can_end_with_more r WithinItems (length fs) f.kind v.shape f.form (count f.done) a.1
          (λ m e x y. node_resizes r WithinItems (length fs) f.kind f.form x (room f.kind m) y
          (subst (λ z. items_of z (room z m) ≤ r.limits.items) k (h v vs refl m e))) o.0,
      o.1,
      o.2,
      o.3,
    )
