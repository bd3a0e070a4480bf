-- What completes a front, what refuses it, and bytes after which nothing is spelled.
use Rattle.std.proofs.Common.{◌++◌, ◌+◌, ◌<◌, ◌∙◌, ◌∷◌, ◌≡◌, ◌≤◌, List, [], ap, append-nil, append_assoc, arith, length, refl, subst, suc, sym, ℕ}
use Rattle.resp_value.specs.Data.{Array, Attr, Kind, Map, Push, Set, items_of, members_of}
use Rattle.resp_value.specs.LocalRules.{HoldsFrom, LeafKeeps, LeafRule, NodeKeeps, NodeRule}
use Rattle.resp_value.specs.Numbers.{number}
use Rattle.resp_value.specs.Rules.{Rule, Rules, WithinItems, rank}
use Rattle.resp_value.specs.Trees.{Counted, Form, HasMembers, Streamed, Tree, Trees, close, count, more, none, text, texts}
use Rattle.resp_value.proofs.LocalRuleLemmas.{weaker, weaker_each}
use Rattle.resp_value.proofs.Unique.{not_close}
use Rattle.resp_fronts.specs.Frames.{Frame, text_around}
use Rattle.resp_fronts.specs.MayFollow.{AreOpen, CanAllEnd, IsWholeText, MayFollowFrames, MayFollowValue, MembersThen, members_missing}
use Rattle.resp_fronts.proofs.FrameLaws.Composition.{around-append, compose, determine, first_member}
use Rattle.resp_fronts.proofs.FrameLaws.LeastAround.{IsBegun, after_least, are_kept, are_open, follow_parts, parts_follow}
use Rattle.resp_fronts.proofs.FirstLines.CountRows.{CompletesUnder, IsRefusedHere}
use Rattle.resp_fronts.proofs.FrameLaws.KeptNodes.{shortest_keeps}

-- c completes the front p within the rules up to g
abbrev pub CompletesFront : Rules → Rule → List ℕ → List ℕ → Type 0
CompletesFront r g p c = IsWholeText (LeafKeeps r g) (NodeKeeps r g) (p ++ c)

-- nothing completes the front p under the rules up to g, and something does under those up to h
pub record IsRefused (r : Rules) (g h : Rule) (p : List ℕ) : Type 0 where
  pub dead : (c : List ℕ) → CompletesFront r g p c → ⊥
  pub rest : List ℕ
  pub alive : CompletesFront r h p rest

-- what is within more rules is within fewer
pub fewer_rules : (r : Rules) (g h : Rule) (k : ℕ) (t : Tree) → rank h ≤ rank g → HoldsFrom (LeafKeeps r g) (NodeKeeps r g) k t →
    HoldsFrom (LeafKeeps r h) (NodeKeeps r h) k t
fewer_rules r g h k t e = weaker (LeafKeeps r g) (LeafKeeps r h) (NodeKeeps r g) (NodeKeeps r h) k t (λ i l p x y. p x (omega arith))
    (λ i j f n p x y. p x (omega arith))

-- frames that can end within more rules can end within fewer
pub fewer_rules_can_end : (r : Rules) (g h : Rule) (fs : List Frame) → rank h ≤ rank g → CanAllEnd (LeafKeeps r g) (NodeKeeps r g) fs →
    CanAllEnd (LeafKeeps r h) (NodeKeeps r h) fs
fewer_rules_can_end r g h [] e p = tt
fewer_rules_can_end r g h (f ∷ fs) e p = (
  (p.0.0, λ x y. p.0.1 x (omega arith)),
  p.1,
  weaker_each (LeafKeeps r g) (LeafKeeps r h) (NodeKeeps r g) (NodeKeeps r h) (suc (length fs)) f.done (λ i l q x y. q x (omega arith))
      (λ i j w n q x y. q x (omega arith)) p.2,
  fewer_rules_can_end r g h fs e p.3,
)

-- a byte of a begun value is refused, within aggregates that the last rule but it lets end
pub refuse : (r : Rules) (g h : Rule) (fs : List Frame) (x : ℕ) (b : List ℕ) → (x ≡ 46 → ⊥) → CanAllEnd (LeafKeeps r h) (NodeKeeps r h) fs →
    IsRefusedHere r g h (length fs) (x ∷ b) → IsRefused r g h (text_around fs (x ∷ b))
refuse r g h fs x b n o w =
    let a = after_least (LeafKeeps r h) (NodeKeeps r h) fs (shortest_keeps r h) o in
    let u : IsBegun (x ∷ b) = record { tree = w.alive.tree; more = w.rest; is_tree = w.alive.is_tree; whole = w.alive.whole; some = w.some } in
    let p = are_open (LeafKeeps r h) (NodeKeeps r h) fs o in
    record {
      dead = λ c v. (let m = follow_parts (LeafKeeps r g) (NodeKeeps r g) fs x b c p n u
          (determine (LeafKeeps r g) (NodeKeeps r g) fs ((x ∷ b) ++ c) p (subst (IsWholeText (LeafKeeps r g) (NodeKeeps r g)) (around-append fs (x ∷ b) c) v))
          in w.dead m.here m.tail);
      rest = w.rest ++ a.some;
      alive = subst (IsWholeText (LeafKeeps r h) (NodeKeeps r h)) (sym (around-append fs (x ∷ b) (w.rest ++ a.some)))
          (compose (LeafKeeps r h) (NodeKeeps r h) fs ((x ∷ b) ++ (w.rest ++ a.some)) (are_kept (LeafKeeps r h) (NodeKeeps r h) fs o)
          (parts_follow (LeafKeeps r h) (NodeKeeps r h) fs (x ∷ b) (w.rest ++ a.some)
          (record { here = w.rest; beyond = a.some; tail = w.alive; after = a.holds; whole = refl })));
    }

-- a member too many in a streamed aggregate
pub full_node : (r : Rules) (f : Frame) (fs : List Frame) (x : ℕ) (c : List ℕ) → AreOpen (f ∷ fs) → (x ≡ 46 → ⊥) → (n : ℕ) →
    ((m : ℕ) → HasMembers f.kind f.form (suc (count f.done) + m) → r.limits.items < items_of f.kind (suc (count f.done) + m)) →
    MayFollowFrames (LeafKeeps r WithinItems) (NodeKeeps r WithinItems) (f ∷ fs) (x ∷ c) → ⊥
full_node r f fs x c o n z l m =
    let w = first_member (LeafKeeps r WithinItems) (NodeKeeps r WithinItems) (f ∷ fs) (x ∷ c) o n m in
    let a : MembersThen (LeafKeeps r WithinItems) (NodeKeeps r WithinItems) (length fs) f.kind f.form (suc (count f.done))
    (MayFollowValue (LeafKeeps r WithinItems) (NodeKeeps r WithinItems) fs) w.rest = w.after in
    let i : items_of f.kind (suc (count f.done) + count a.members) ≤ r.limits.items = a.is_kept WithinItems (omega arith) in
    omega (arith, l (count a.members) a.is_form)

no_stop_in : (k : Kind) (f : Form) (d : ℕ) (ts : Trees) (y c : List ℕ) → (HasMembers k f (d + 0) → f ≡ Streamed → ⊥) →
    (HasMembers k f (d + 0) → (ds : List ℕ) → f ≡ Counted ds → ⊥) → HasMembers k f (d + count ts) → (texts ts ++ close f) ++ y ≡ 46 ∷ c → ⊥
no_stop_in k (Counted ds) d none y c u v i e = v i ds refl
no_stop_in k Streamed d none y c u v i e = u i refl
no_stop_in k f d (more t ts) y c u v i e = not_close t ((texts ts ++ close f) ++ y) c (sym (append_assoc (text t) (texts ts ++ close f) y) ∙
    ap (λ w. w ++ y) (sym (append_assoc (text t) (texts ts) (close f))) ∙ e)

-- `.` where an aggregate can't end: not streamed, or after a map's key
pub no_stop : (L : LeafRule) (N : NodeRule) (f : Frame) (fs : List Frame) (c : List ℕ) → 0 < members_missing f.kind f.form (count f.done) →
    MayFollowFrames L N (f ∷ fs) (46 ∷ c) → ⊥
no_stop L N f fs c h m = no_stop_in f.kind f.form (count f.done) m.members m.rest c (λ i e. short f.kind f.form (count f.done) h i)
    (λ i ds e. short f.kind f.form (count f.done) h i) m.is_form m.whole
  where
    short : (k : Kind) (w : Form) (n : ℕ) → 0 < members_missing k w n → HasMembers k w (n + 0) → ⊥
    short k (Counted ds) n h i = let u : members_of k (number ds) ≡ n + 0 = i.1 in omega arith
    short Array Streamed n h i = omega arith
    short Set Streamed n h i = omega arith
    short Map Streamed n h i = let u : i.0 + i.0 ≡ n + 0 = i.1 in omega arith
    short Attr Streamed n h i = i
    short Push Streamed n h i = i

-- nor at the top
pub no_stop_top : (L : LeafRule) (N : NodeRule) (c : List ℕ) → MayFollowFrames L N [] (46 ∷ c) → ⊥
no_stop_top L N c m = not_close m.tree [] c (append-nil (text m.tree) ∙ m.whole)

-- a byte after which nothing is spelled
pub hopeless : (r : Rules) (g : Rule) (fs : List Frame) (x : ℕ) (b : List ℕ) (y : ℕ) → (x ≡ 46 → ⊥) → AreOpen fs → IsBegun (x ∷ b) →
    ((c : List ℕ) → CompletesUnder r g (length fs) (x ∷ b) c → 0 < length c) → ((c : List ℕ) → CompletesUnder r g (length fs) (x ∷ b) (y ∷ c) → ⊥) →
    (c : List ℕ) → CompletesFront r g (text_around fs (x ∷ b) ++ y ∷ []) c → ⊥
hopeless r g fs x b y n o u z d c w =
    let e : (text_around fs (x ∷ b) ++ y ∷ []) ++ c ≡ text_around fs ((x ∷ b) ++ y ∷ c) = append_assoc (text_around fs (x ∷ b)) (y ∷ []) c ∙
    around-append fs (x ∷ b) (y ∷ c) in
    let m = follow_parts (LeafKeeps r g) (NodeKeeps r g) fs x b (y ∷ c) o n u
    (determine (LeafKeeps r g) (NodeKeeps r g) fs ((x ∷ b) ++ y ∷ c) o (subst (IsWholeText (LeafKeeps r g) (NodeKeeps r g)) e w)) in
    cases m.here m.beyond m.tail m.whole
  where
    cases : (h k : List ℕ) → CompletesUnder r g (length fs) (x ∷ b) h → y ∷ c ≡ h ++ k → ⊥
    cases [] k t e = omega (arith, z [] t)
    cases (a ∷ h) k t e = let q : a ≡ y = cc in d h (subst (λ v. CompletesUnder r g (length fs) (x ∷ b) (v ∷ h)) q t)
