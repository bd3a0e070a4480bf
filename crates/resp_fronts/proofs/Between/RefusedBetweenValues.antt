-- The bytes that are refused between values, and closes.
use Rattle.std.proofs.Common.{◌++◌, ◌+◌, ◌<◌, ◌∙◌, ◌∷◌, ◌≡◌, ◌≤◌, List, [], ap, append_assoc, arith, length, refl, subst, suc, sym, ℕ}
use Rattle.resp_value.specs.Data.{Array, Attr, Kind, Map, Push, Set, items_of, members_of}
use Rattle.resp_value.specs.LocalRules.{LeafKeeps, NodeKeeps}
use Rattle.resp_value.specs.Numbers.{number}
use Rattle.resp_value.specs.Rules.{InVersion, NotStreamed, PushAtTop, Rule, Rules, WithinDepth, WithinItems, WithinLength, rank}
use Rattle.resp_value.specs.Trees.{CanStream, Counted, Form, HasMembers, Streamed, count}
use Rattle.resp_value.proofs.LocalRuleLemmas.{weaker_each}
use Rattle.resp_fronts.specs.Frames.{Frame, text_around}
use Rattle.resp_fronts.specs.MayFollow.{CanAllEnd, IsWholeText, MayFollowFrames, members_missing}
use Rattle.resp_fronts.proofs.Between.BetweenValues.{IsBetween, can_end_with_more, ready_open, room}
use Rattle.resp_fronts.proofs.FrameLaws.Composition.{around-append, compose, determine}
use Rattle.resp_fronts.proofs.FrameLaws.LeastAround.{after_least, are_kept, parts_follow}
use Rattle.resp_fronts.proofs.FrameLaws.Levels.{shape_needed, shape_needed_is}
use Rattle.resp_fronts.proofs.Refusals.RefusedFronts.{CompletesFront, IsRefused, fewer_rules_can_end, full_node, no_stop, no_stop_top, refuse}
use Rattle.resp_fronts.proofs.FirstLines.CountRows.{CompletesUnder, IsRefusedHere}
use Rattle.resp_fronts.proofs.FrameLaws.KeptNodes.{shortest_keeps}
use Rattle.resp_fronts.specs.OpenLevels.{AreLevelsOf, AreReady, HasShape, Level, Shape, to_come, so_far}

resizes_before : (r : Rules) (g : Rule) (k : ℕ) (j : Kind) (f : Form) (m n : ℕ) → rank g ≤ 7 → NodeKeeps r WithinItems k j f m → NodeKeeps r g k j f n
resizes_before r g k j f m n z p InVersion e = p InVersion (omega arith)
resizes_before r g k j f m n z p PushAtTop e = p PushAtTop (omega arith)
resizes_before r g k j f m n z p NotStreamed e = p NotStreamed (omega arith)
resizes_before r g k j f m n z p WithinDepth e = p WithinDepth (omega arith)
resizes_before r g k j f m n z p WithinItems e = absurd (omega arith)
resizes_before r g k j f m n z p _ e = tt

-- aggregates with a member begun can be completed within the rules before that of items
pub can_end_before : (r : Rules) (g : Rule) (vs : List Level) (fs : List Frame) → rank g ≤ 7 → AreLevelsOf vs fs →
    AreReady (LeafKeeps r WithinItems) (NodeKeeps r WithinItems) fs → CanAllEnd (LeafKeeps r g) (NodeKeeps r g) fs
can_end_before r g [] [] z a o = tt
can_end_before r g [] (f ∷ fs) z a o = absurd a
can_end_before r g (v ∷ vs) [] z a o = absurd a
can_end_before r g (v ∷ vs) (f ∷ fs) z a o = (
  can_end_with_more r g (length fs) f.kind v.shape f.form (count f.done) a.1
      (λ m e x y. resizes_before_again r g (length fs) f.kind f.form x (room f.kind m) z y) (
        o.0.0,
        resizes_before r g (length fs) f.kind f.form (count f.done + members_missing f.kind f.form (count f.done))
            (count f.done + members_missing f.kind f.form (count f.done)) z o.0.1,
      ),
  o.1,
  weaker_each (LeafKeeps r WithinItems) (LeafKeeps r g) (NodeKeeps r WithinItems) (NodeKeeps r g) (suc (length fs)) f.done (λ i l q x y. q x (omega arith))
      (λ i j w n q x y. q x (omega arith)) o.2,
  fewer_rules_can_end r WithinItems g fs (omega arith) o.3,
)
  where
    resizes_before_again : (r : Rules) (g : Rule) (k : ℕ) (j : Kind) (f : Form) (m n : ℕ) → rank g ≤ 7 → NodeKeeps r g k j f m → NodeKeeps r g k j f n
    resizes_before_again r g k j f m n z p InVersion e = p InVersion e
    resizes_before_again r g k j f m n z p PushAtTop e = p PushAtTop e
    resizes_before_again r g k j f m n z p NotStreamed e = p NotStreamed e
    resizes_before_again r g k j f m n z p WithinDepth e = p WithinDepth e
    resizes_before_again r g k j f m n z p WithinItems e = absurd (omega arith)
    resizes_before_again r g k j f m n z p _ e = tt

-- a first byte is refused by a rule before that of items
pub refuse_first : (r : Rules) (g h : Rule) (vs : List Level) (p : List ℕ) (x : ℕ) (w : IsBetween r vs p) → rank h ≤ 7 → (x ≡ 46 → ⊥) →
    IsRefusedHere r g h (length w.0) (x ∷ []) → IsRefused r g h (p ++ x ∷ [])
refuse_first r g h vs p x w z n b =
    let e : p ++ x ∷ [] ≡ text_around w.0 (x ∷ []) = ap (λ q. q ++ x ∷ []) w.3 ∙ around-append w.0 [] (x ∷ []) in
    subst (IsRefused r g h) (sym e) (refuse r g h w.0 x [] n (can_end_before r h vs w.0 z w.1 w.2) b)

-- a member too many, whose first byte every earlier rule lets begin a value
pub refuse_member : (r : Rules) (v : Level) (vs : List Level) (p : List ℕ) (x : ℕ) (rest : List ℕ) (w : IsBetween r (v ∷ vs) p) → (m : ℕ) → v.shape ≡ so_far m →
    r.limits.items < items_of v.kind (room v.kind m) → (x ≡ 46 → ⊥) → CompletesUnder r WithinLength (length w.0) (x ∷ []) rest →
    IsRefused r WithinItems WithinLength (p ++ x ∷ [])
refuse_member r v vs p x rest ([], a, o, e) m s l n t = absurd a
refuse_member r v vs p x rest ((f ∷ fs), a, o, e) m s l n t =
    let k : v.kind ≡ f.kind = a.0 in
    let hs : CanAllEnd (LeafKeeps r WithinLength) (NodeKeeps r WithinLength) (f ∷ fs) = can_end_before r WithinLength (v ∷ vs) (f ∷ fs) (omega arith) a o in
    let h : HasShape f.kind (so_far m) f.form (count f.done) = subst (λ z. HasShape f.kind z f.form (count f.done)) s a.1 in
    let e2 : p ++ x ∷ [] ≡ text_around (f ∷ fs) (x ∷ []) = ap (λ q. q ++ x ∷ []) e ∙ around-append (f ∷ fs) [] (x ∷ []) in
    let af = after_least (LeafKeeps r WithinLength) (NodeKeeps r WithinLength) (f ∷ fs) (shortest_keeps r WithinLength) hs in
    let big : r.limits.items < items_of f.kind (room f.kind m) = subst (λ z. r.limits.items < items_of z (room z m)) k l in
    let op = ready_open (LeafKeeps r WithinItems) (NodeKeeps r WithinItems) (v ∷ vs) (f ∷ fs) a o in
    subst (IsRefused r WithinItems WithinLength) (sym e2) (record {
      dead = λ c y. full_node r f fs x c op n 0 (λ i j. more_room r f m i h big j)
          (determine (LeafKeeps r WithinItems) (NodeKeeps r WithinItems) (f ∷ fs) (x ∷ c) op
          (subst (IsWholeText (LeafKeeps r WithinItems) (NodeKeeps r WithinItems)) (around-append (f ∷ fs) (x ∷ []) c) y));
      rest = rest ++ af.some;
      alive = subst (IsWholeText (LeafKeeps r WithinLength) (NodeKeeps r WithinLength)) (sym (around-append (f ∷ fs) (x ∷ []) (rest ++ af.some)))
          (compose (LeafKeeps r WithinLength) (NodeKeeps r WithinLength) (f ∷ fs) (x ∷ (rest ++ af.some))
          (are_kept (LeafKeeps r WithinLength) (NodeKeeps r WithinLength) (f ∷ fs) hs)
          (parts_follow (LeafKeeps r WithinLength) (NodeKeeps r WithinLength) (f ∷ fs) (x ∷ []) (rest ++ af.some)
          (record { here = rest; beyond = af.some; tail = t; after = af.holds; whole = refl })));
    })
  where
    more_room : (r : Rules) (f : Frame) (m i : ℕ) → HasShape f.kind (so_far m) f.form (count f.done) → r.limits.items < items_of f.kind (room f.kind m) →
        HasMembers f.kind f.form (suc (count f.done) + i) → r.limits.items < items_of f.kind (suc (count f.done) + i)
    more_room r f m i h l j = cases f.kind h.1 l (subst (λ z. HasMembers f.kind z (suc (count f.done) + i)) h.0 j)
      where
        cases : (k : Kind) → m ≡ count f.done → r.limits.items < items_of k (room k m) → CanStream k (suc (count f.done) + i) →
            r.limits.items < items_of k (suc (count f.done) + i)
        cases Array e l j = omega arith
        cases Set e l j = omega arith
        cases Map e l j = let u : j.0 + j.0 ≡ suc (count f.done) + i = j.1 in omega arith
        cases Attr e l j = absurd j
        cases Push e l j = absurd j

-- a member must come before a close
abbrev pub GoesOn : Kind → Shape → Type 0
GoesOn k (to_come m) = Unit {0}
GoesOn k (so_far m) = 3 < shape_needed k (so_far m)

missing_some : (k : Kind) (s : Shape) (f : Form) (n : ℕ) → HasShape k s f n → GoesOn k s → 0 < members_missing k f n
missing_some k (to_come m) (Counted ds) n h g =
    let e : Counted ds ≡ Counted h.0 = h.1 in
    let d : ds ≡ h.0 = cc in
    let b : members_of k (number ds) ≡ members_of k (number h.0) = ap (λ z. members_of k (number z)) d in
    omega (arith, h.3, h.4)
missing_some k (to_come m) Streamed n h g = let e : Streamed ≡ Counted h.0 = h.1 in absurd (cc)
missing_some k (so_far m) (Counted ds) n h g = let e : Counted ds ≡ Streamed = h.0 in absurd (cc)
missing_some k (so_far m) Streamed n h g = omega (arith, shape_needed_is k (so_far m) Streamed n h)

stop_rest : (r : Rules) (g : Rule) (vs : List Level) (fs : List Frame) → AreLevelsOf vs fs →
    ((v : Level) (us : List Level) → vs ≡ v ∷ us → GoesOn v.kind v.shape) → (c : List ℕ) → MayFollowFrames (LeafKeeps r g) (NodeKeeps r g) fs (46 ∷ c) → ⊥
stop_rest r g [] [] a h c m = no_stop_top (LeafKeeps r g) (NodeKeeps r g) c m
stop_rest r g [] (f ∷ fs) a h c m = a
stop_rest r g (v ∷ vs) [] a h c m = a
stop_rest r g (v ∷ vs) (f ∷ fs) a h c m =
    let k : v.kind ≡ f.kind = a.0 in
    no_stop (LeafKeeps r g) (NodeKeeps r g) f fs c (missing_some f.kind v.shape f.form (count f.done) a.1 (subst (λ z. GoesOn z v.shape) k (h v vs refl))) m

-- no close where a member must come
pub refuse_stop : (r : Rules) (g : Rule) (vs : List Level) (p : List ℕ) → IsBetween r vs p →
    ((v : Level) (us : List Level) → vs ≡ v ∷ us → GoesOn v.kind v.shape) → (c : List ℕ) → CompletesFront r g (p ++ 46 ∷ []) c → ⊥
refuse_stop r g vs p w h c y =
    let (fs, a, o, e) = w in
    let e2 : (p ++ 46 ∷ []) ++ c ≡ text_around fs (46 ∷ c) = append_assoc p (46 ∷ []) c ∙ ap (λ q. q ++ 46 ∷ c) e ∙ around-append fs [] (46 ∷ c) in
    stop_rest r g vs fs a h c (determine (LeafKeeps r g) (NodeKeeps r g) fs (46 ∷ c) (ready_open (LeafKeeps r WithinItems) (NodeKeeps r WithinItems) vs fs a o)
    (subst (IsWholeText (LeafKeeps r g) (NodeKeeps r g)) e2 y))
