-- A begun value within open aggregates: what may follow is what completes the value and then what may come after it.
use Rattle.std.proofs.Common.{◌*◌, ◌++◌, ◌+◌, ◌<◌, ◌∙◌, ◌∷◌, ◌≡◌, ◌≤◌, ◌⊎◌, List, [], ap, append-nil, append_assoc, arith, false, inl, inr, length, length-append, refl, subst, suc, sym, true, zero, ℕ}
use Rattle.resp_value.specs.Data.{Array, Attr, Kind, Map, Push, Set, members_of}
use Rattle.resp_value.specs.LocalRules.{HoldsFromEach, LeafRule, NodeRule}
use Rattle.resp_value.specs.Numbers.{number}
use Rattle.resp_value.specs.Trees.{ArrayNull, BulkNull, Counted, Form, HasMembers, IsTree, Leaf, PlainNull, Simple, Streamed, Tree, chunked, close, count, leaf, leaf_line, line, node, null, numeral, string, text, texts, truth}
use Rattle.resp_value.proofs.FirstLines.{first_line}
use Rattle.resp_value.proofs.Unique.{unique}
use Rattle.resp_value.proofs.DefaultLimits.{texts_at_least}
use Rattle.resp_fronts.specs.Frames.{Frame, text_around}
use Rattle.resp_fronts.specs.LeastCompletions.{HasLeast}
use Rattle.resp_fronts.specs.MayFollow.{AreKept, AreOpen, CanAllEnd, CanEnd, CompletesValue, IsWholeText, MayFollow, MayFollowValue, MembersThen, ValueThen, frames_needed, members_needed, members_missing}
use Rattle.resp_fronts.proofs.FrameLaws.Composition.{around-append, compose, determine, first_member, member_rest}
use Rattle.resp_fronts.proofs.FrameLaws.OpenFrames.{are_shortest_trees, count-shortest_trees, shortest_trees}

-- a begins with b, and what follows b is the rest of a, and what follows a
abbrev pub BeginsBy : List ℕ → List ℕ → List ℕ → List ℕ → Type 0
BeginsBy a b x y = (z : List ℕ) × (a ≡ b ++ z) × (y ≡ z ++ x)

-- of two texts that begin one text one begins the other
pub one_begins : (a b x y : List ℕ) → a ++ x ≡ b ++ y → BeginsBy a b x y ⊎ BeginsBy b a y x
one_begins [] b x y e = inr (b, refl, e)
one_begins (c ∷ a) [] x y e = inl (c ∷ a, refl, sym e)
one_begins (c ∷ a) (d ∷ b) x y e = cases (one_begins a b x y cc)
  where
    cases : BeginsBy a b x y ⊎ BeginsBy b a y x → BeginsBy (c ∷ a) (d ∷ b) x y ⊎ BeginsBy (d ∷ b) (c ∷ a) y x
    cases (inl w) = let h : a ≡ b ++ w.0 = w.1 in inl (w.0, cc, w.2)
    cases (inr w) = let h : b ≡ a ++ w.0 = w.1 in inr (w.0, cc, w.2)

-- what may follow begun bytes: what completes their value, and what follows that
pub record ValueParts (L : LeafRule) (N : NodeRule) (fs : List Frame) (b c : List ℕ) : Type 0 where
  pub here : List ℕ
  pub beyond : List ℕ
  pub tail : CompletesValue L N (length fs) b here
  pub after : MayFollowValue L N fs beyond
  pub whole : c ≡ here ++ beyond

-- b is begun and not whole
pub record IsBegun (b : List ℕ) : Type 0 where
  pub tree : Tree
  pub more : List ℕ
  pub is_tree : IsTree tree
  pub whole : text tree ≡ b ++ more
  pub some : 0 < length more

-- a value that begins with the begun bytes, in parts
pub member_parts : (L : LeafRule) (N : NodeRule) (fs : List Frame) (b c : List ℕ) → IsBegun b → ValueThen L N fs (b ++ c) → ValueParts L N fs b c
member_parts L N fs b c g m = cases (one_begins (text m.tree) b m.rest c m.whole)
  where
    cases : BeginsBy (text m.tree) b m.rest c ⊎ BeginsBy b (text m.tree) c m.rest → ValueParts L N fs b c
    cases (inl w) = record {
      here = w.0;
      beyond = m.rest;
      tail = record { tree = m.tree; is_tree = m.is_tree; keep = m.keep; whole = w.1 };
      after =
          m.after;
      whole = w.2;
    }
    cases (inr w) =
        let u = unique g.tree m.tree [] (w.0 ++ g.more) g.is_tree m.is_tree (append-nil (text g.tree) ∙ g.whole ∙ ap (λ z. z ++ g.more) w.1 ∙
        append_assoc (text m.tree) w.0 g.more) in
        let n : 0 ≡ length (w.0 ++ g.more) = ap length u.1 in
        let s : 0 < length g.more = g.some in
        absurd (omega (arith, length-append w.0 g.more))

-- the parts make a value that begins with the begun bytes
pub parts_member : (L : LeafRule) (N : NodeRule) (fs : List Frame) (b c : List ℕ) → ValueParts L N fs b c → ValueThen L N fs (b ++ c)
parts_member L N fs b c p = record {
  tree = p.tail.tree;
  rest = p.beyond;
  is_tree = p.tail.is_tree;
  keep = p.tail.keep;
  whole = ap (λ z. z ++ p.beyond) p.tail.whole ∙ append_assoc b p.here p.beyond ∙ ap (λ z. b ++ z) (sym p.whole);
  after = p.after;
}

missing_least : (k : Kind) (f : Form) (n m : ℕ) → HasMembers k f (n + m) → members_missing k f n ≤ m
missing_least k (Counted ds) n m i = let u : members_of k (number ds) ≡ n + m = i.1 in omega arith
missing_least Array Streamed n m i = omega arith
missing_least Set Streamed n m i = omega arith
missing_least Map Streamed n m i = let u : i.0 + i.0 ≡ n + m = i.1 in omega arith
missing_least Attr Streamed n m i = absurd i
missing_least Push Streamed n m i = absurd i

leaf_length : (l : Leaf) → 0 < length (leaf_line l)
leaf_length (null BulkNull) = omega arith
leaf_length (null ArrayNull) = omega arith
leaf_length (null PlainNull) = omega arith
leaf_length (truth true) = omega arith
leaf_length (truth false) = omega arith
leaf_length (chunked cs z) = omega arith
leaf_length (line k s) = omega arith
leaf_length (numeral k g ds) = omega arith
leaf_length (string k ds s) = omega arith

first_length : (t : Tree) → 0 < length (first_line t)
unfolding first_line
first_length (leaf l) = leaf_length l
first_length (node k f ts) = omega arith

-- the shortest trees have three bytes each
pub length-shortest_trees : (n : ℕ) → length (texts (shortest_trees n)) ≡ 3 * n
length-shortest_trees zero = refl
length-shortest_trees (suc n) = omega (arith, length-shortest_trees n)

-- what holds of the shortest value holds of each of them
pub shortest_trees_hold : (L : LeafRule) (N : NodeRule) (k n : ℕ) → L k (line Simple []) → HoldsFromEach L N k (shortest_trees n)
shortest_trees_hold L N k zero h = tt
shortest_trees_hold L N k (suc n) h = (h, shortest_trees_hold L N k n h)

-- the least that may follow within a frame: the shortest members that are missing, its close, and the rest's least
pub members_least : (L : LeafRule) (N : NodeRule) (k : ℕ) (j : Kind) (f : Form) (n q : ℕ) (P : List ℕ → Type 0) → L (suc k) (line Simple []) →
    CanEnd N k j f n → HasLeast P q → HasLeast (MembersThen L N k j f n P) (members_needed j f n q)
members_least L N k j f n q P s h l =
    let m = members_missing j f n in
    let c = count-shortest_trees m in
    let e : n + m ≡ n + count (shortest_trees m) = omega (arith, c) in
    record {
      some = (texts (shortest_trees m) ++ close f) ++ l.some;
      holds = record {
        members = shortest_trees m;
        rest = l.some;
        are_trees = are_shortest_trees m;
        keep = shortest_trees_hold L N (suc k) m s;
        is_form = subst (HasMembers j f) e h.0;
        is_kept = subst (N k j f) e h.1;
        whole = refl;
        after = l.holds;
      };
      size = omega (
        arith,
        length-append (texts (shortest_trees m) ++ close f) l.some,
        length-append (texts (shortest_trees m)) (close f),
        length-shortest_trees m,
        l.size,
      );
      least = λ c w. omega (
        arith,
        missing_least j f n (count w.members) w.is_form,
        texts_at_least w.members,
        l.least w.rest w.after,
        ap length w.whole,
        length-append (texts w.members ++ close f) w.rest,
        length-append (texts w.members) (close f),
      );
    }

-- the least that may follow a whole value within frames
pub after_least : (L : LeafRule) (N : NodeRule) (fs : List Frame) → ((k : ℕ) → L k (line Simple [])) → CanAllEnd L N fs →
    HasLeast (MayFollowValue L N fs) (frames_needed fs)
after_least L N [] s h = record { some = []; holds = refl; size = refl; least = λ c w. omega arith }
after_least L N (f ∷ fs) s h = members_least L N (length fs) f.kind f.form (suc (count f.done)) (frames_needed fs) (MayFollowValue L N fs) (s (suc (length fs)))
    h.0 (after_least L N fs s h.3)

-- frames that can end have room
pub are_open : (L : LeafRule) (N : NodeRule) (fs : List Frame) → CanAllEnd L N fs → AreOpen fs
are_open L N [] h = tt
are_open L N (f ∷ fs) h = (_, h.0.0, omega arith, h.1, are_open L N fs h.3)

-- the members of frames that can all end are within the rules
pub are_kept : (L : LeafRule) (N : NodeRule) (fs : List Frame) → CanAllEnd L N fs → AreKept L N fs
are_kept L N [] h = tt
are_kept L N (f ∷ fs) h = (h.1, h.2, are_kept L N fs h.3)

-- what may follow a begun value, in parts
pub follow_parts : (L : LeafRule) (N : NodeRule) (fs : List Frame) (x : ℕ) (b c : List ℕ) → AreOpen fs → (x ≡ 46 → ⊥) → IsBegun (x ∷ b) →
    MayFollow L N fs (x ∷ b) c → ValueParts L N fs (x ∷ b) c
follow_parts L N fs x b c o n g m = member_parts L N fs (x ∷ b) c g (first_member L N fs ((x ∷ b) ++ c) o n m)

-- the parts make what may follow the begun bytes
pub parts_follow : (L : LeafRule) (N : NodeRule) (fs : List Frame) (b c : List ℕ) → ValueParts L N fs b c → MayFollow L N fs b c
parts_follow L N fs b c p = member_rest L N fs (b ++ c) (parts_member L N fs b c p)

-- the least that may follow a begun value is the least that completes it, and what the aggregates around it need
pub follow_least : (L : LeafRule) (N : NodeRule) (fs : List Frame) (x : ℕ) (b : List ℕ) (m : ℕ) → ((k : ℕ) → L k (line Simple [])) → CanAllEnd L N fs →
    (x ≡ 46 → ⊥) → 0 < m → HasLeast (CompletesValue L N (length fs) (x ∷ b)) m → HasLeast (MayFollow L N fs (x ∷ b)) (m + frames_needed fs)
follow_least L N fs x b m s h n z l =
    let a = after_least L N fs s h in
    let g : IsBegun (x ∷ b) = record { tree = l.holds.tree; more = l.some; is_tree = l.holds.is_tree; whole = l.holds.whole; some = omega (arith, l.size) } in
    record {
      some = l.some ++ a.some;
      holds = parts_follow L N fs (x ∷ b) (l.some ++ a.some) (record { here = l.some; beyond = a.some; tail = l.holds; after = a.holds; whole = refl });
      size = omega (arith, length-append l.some a.some, l.size, a.size);
      least = λ c w. (let p = follow_parts L N fs x b c (are_open L N fs h) n g w in
          omega (arith, l.least p.here p.tail, a.least p.beyond p.after, ap length p.whole, length-append p.here p.beyond));
    }

-- the whole front
pub front_least : (L : LeafRule) (N : NodeRule) (fs : List Frame) (b : List ℕ) (m : ℕ) → CanAllEnd L N fs → HasLeast (MayFollow L N fs b) m →
    HasLeast (λ c. IsWholeText L N (text_around fs b ++ c)) m
front_least L N fs b m h l = record {
  some = l.some;
  holds = subst (IsWholeText L N) (sym (around-append fs b l.some)) (compose L N fs (b ++ l.some) (are_kept L N fs h) l.holds);
  size = l.size;
  least = λ c w. l.least c (determine L N fs (b ++ c) (are_open L N fs h) (subst (IsWholeText L N) (around-append fs b c) w));
}
