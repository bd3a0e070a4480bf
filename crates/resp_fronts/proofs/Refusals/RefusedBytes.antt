-- What refuses a type byte: the version, a push below the top, depth, and doubles that are not allowed.
use Rattle.std.proofs.Common.{◌++◌, ◌<◌, ◌∙◌, ◌∷◌, ◌≡◌, ◌≤◌, false, List, [], arith, refl, subst, ℕ}
use Rattle.std.specs.List.{AllByRecursion}
use Rattle.resp_value.specs.Bytes.{crlf}
use Rattle.resp_value.specs.Data.{Array, Kind, Push, members_of}
use Rattle.resp_value.specs.LocalRules.{HoldsFrom, LeafKeeps, LeafMeets, NodeKeeps, NodeMeets}
use Rattle.resp_value.specs.Numbers.{IsDigit, IsDigits, number}
use Rattle.resp_value.specs.Rules.{Grammar, InVersion, NoDouble, NotStreamed, PushAtTop, Rule, Rules, WithinDepth, WithinTotal, rank}
use Rattle.resp_value.specs.Trees.{Counted, Double, Form, count, kind_byte, leaf, line, node, texts}
use Rattle.resp_value.proofs.Doubles.{completes_double, is_double_leaf}
use Rattle.resp_value.proofs.FirstLines.{form_of, node_of, sort, sort_of-line}
use Rattle.resp_fronts.proofs.FirstLines.BegunLines.{completes_line, counted_is, tree_of_line, tree_of_node}
use Rattle.resp_fronts.proofs.FrameLaws.OpenFrames.{shortest_trees}
use Rattle.resp_fronts.proofs.FirstLines.CountRows.{IsRefusedHere, byte_line, count_ends, kind_line}
use Rattle.resp_fronts.proofs.FirstLines.FirstLineRows.{zero_digits}

-- a byte of digits is a digit
pub digits_hold : (a l : List ℕ) (x : ℕ) → AllByRecursion IsDigit (a ++ x ∷ l) → IsDigit x
digits_hold [] l x p = p.0
digits_hold (c ∷ a) l x p = digits_hold a l x p.1

-- an aggregate but an array
abbrev pub IsOther : Kind → Type 0
IsOther Array = ⊥
IsOther _ = Unit {0}

sort_other : (j : Kind) (l : List ℕ) → IsOther j → sort (kind_byte j ∷ l) ≡ node_of j (form_of l)
sort_other Array l o = absurd o
sort_other _ l o = refl

-- an aggregate's type byte that a rule refuses: NestedPush, Version or Depth
pub kind_refused : (r : Rules) (g h : Rule) (k : ℕ) (j : Kind) → IsOther j → ((f : Form) (n : ℕ) → NodeMeets r g k j f n → ⊥) →
    NodeKeeps r h k j (Counted (48 ∷ [])) (members_of j 0) → IsRefusedHere r g h k (kind_byte j ∷ [])
kind_refused r g h k j o n q =
    let e = count_ends r h k j 48 [] zero_digits q in
    record {
      dead = λ c t. (let u = completes_line (LeafKeeps r g) (NodeKeeps r g) k (kind_byte j ∷ []) c (byte_line j) t in
          let w = tree_of_node u.tree j (form_of u.line) (sort_of-line u.tree u.is_tree u.begins ∙ sort_other j u.line o) in
          let a : HoldsFrom (LeafKeeps r g) (NodeKeeps r g) k (node j (form_of u.line) w.0) = subst (HoldsFrom (LeafKeeps r g) (NodeKeeps r g) k) w.1 u.keep in
          n (form_of u.line) (count w.0) (a.0 g (omega arith)));
      rest = 48 ∷ crlf (texts (shortest_trees (members_of j 0)));
      alive = record { tree = e.tree; is_tree = e.is_tree; keep = e.keep; whole = e.whole };
      some = omega arith;
    }

-- a push below the top
pub push_below : (r : Rules) (k : ℕ) → 0 < k → NodeKeeps r InVersion k Push (Counted (48 ∷ [])) 0 → IsRefusedHere r PushAtTop InVersion k (62 ∷ [])
push_below r k l q = kind_refused r PushAtTop InVersion k Push tt (λ f n (e : k ≡ 0). omega arith) q

-- another aggregate too deep
pub kind_too_deep : (r : Rules) (k : ℕ) (j : Kind) → IsOther j → r.limits.depth ≤ k → NodeKeeps r NotStreamed k j (Counted (48 ∷ [])) (members_of j 0) →
    IsRefusedHere r WithinDepth NotStreamed k (kind_byte j ∷ [])
kind_too_deep r k j o l q = kind_refused r WithinDepth NotStreamed k j o (λ f n (e : k < r.limits.depth). omega arith) q

-- an array's first digit at full depth
pub array_too_deep : (r : Rules) (k : ℕ) (d : ℕ) → IsDigit d → r.limits.depth ≤ k → NodeKeeps r NotStreamed k Array (Counted (d ∷ [])) (number (d ∷ [])) →
    IsRefusedHere r WithinDepth NotStreamed k (42 ∷ d ∷ [])
array_too_deep r k d p l q =
    let i : IsDigits (d ∷ []) = (omega arith, (p, tt)) in
    let e = count_ends r NotStreamed k Array d [] i q in
    record {
      dead = λ c t. (let u = completes_line (LeafKeeps r WithinDepth) (NodeKeeps r WithinDepth) k (42 ∷ d ∷ []) c (kind_line Array (d ∷ []) i) t in
          let w = counted_is u.tree Array d u.line u.is_tree p u.begins in
          let a : HoldsFrom (LeafKeeps r WithinDepth) (NodeKeeps r WithinDepth) k (node Array (Counted (d ∷ u.line)) w.0) =
          subst (HoldsFrom (LeafKeeps r WithinDepth) (NodeKeeps r WithinDepth) k) w.1 u.keep in
          let m : k < r.limits.depth = a.0 WithinDepth (omega arith) in
          omega arith);
      rest = crlf (texts (shortest_trees (number (d ∷ []))));
      alive = e;
      some = omega arith;
    }

-- a double, where doubles aren't allowed
pub double_refused : (r : Rules) (k : ℕ) → r.limits.doubles ≡ false → IsRefusedHere r NoDouble Grammar k (44 ∷ [])
double_refused r k not_allowed = record {
  dead = λ c t. (let u = completes_line (LeafKeeps r NoDouble) (NodeKeeps r NoDouble) k (44 ∷ []) c ((λ e. omega arith, λ e. omega arith), tt) t in
      let e = tree_of_line u.tree Double u.line (sort_of-line u.tree u.is_tree u.begins) in
      let a : HoldsFrom (LeafKeeps r NoDouble) (NodeKeeps r NoDouble) k (leaf (line Double u.line)) =
      subst (HoldsFrom (LeafKeeps r NoDouble) (NodeKeeps r NoDouble) k) e u.keep in
      a NoDouble (omega arith) not_allowed);
  rest = 48 ∷ crlf [];
  alive = record {
    tree = leaf (line Double (48 ∷ []));
    is_tree = is_double_leaf (48 ∷ []) (completes_double (48 ∷ []) refl);
    keep = λ h e. only h e;
    whole = refl;
  };
  some = omega arith;
}
  where
    only : (h : Rule) → rank h ≤ 0 → LeafMeets r h k (line Double (48 ∷ []))
    only Grammar e = tt
    only WithinTotal e = tt
    only _ e = absurd (omega arith)
