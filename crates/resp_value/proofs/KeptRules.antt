-- Which rules a canonical tree keeps.
use Rattle.std.proofs.Common.{◌↔◌, ℕ, ◌^◌, List, ℤ, pos, neg_ℤ, ◌≤ℤ◌, ◌<ℤ◌, sym, subst}
use Rattle.resp_value.specs.Data.{Kind, Array, Set, Map, Attr, Push, Scalar, Datum, Data, scalar, aggregate, items_of}
use Rattle.resp_value.specs.Data as d
use Rattle.resp_value.specs.Trees.{Tree, Trees, leaf, node, none, more, Leaf, line, numeral, null, truth, string, chunked, Simple, Error, Double, Int, Big, Bulk, BulkError, Verbatim, Form, Counted}
use Rattle.resp_value.specs.TreeValues.{value, values, leaf_value}
use Rattle.resp_value.specs.Numbers.{decimal}
use Rattle.resp_value.specs.Rules.{Every, EveryOf, IsNoDouble, IsAnyNode, IsAnyLeaf, IsInRange, IsLeafInTwo, IsNodeInTwo, IsNoPush, IsCountedLeaf, IsCountedNode, HasVersion, HasPushAtRoot}
use Rattle.resp_value.specs.Canonical.{HasPushAtTop, HasTypes, IsInTwo, AreInTwo, IsScalarInTwo, IsKindInTwo, IsKindBelow, IsScalarButDouble, HasNoDouble, HaveNoDouble, HasNoPush, HaveNoPush, IsValue, AreValues, IsScalarValue, canonical_tree, canonical_trees, canonical_leaf}
use Rattle.resp_value.specs.declared.version.Version.{Version}
use Rattle.resp_value.specs.declared.version.Version.TheVariants.{Two, Three}
use Rattle.resp_value.proofs.CanonicalTrees.{signed-decimal}

mutual
  -- what holds of the leaf of each scalar value, and of each counted head, holds of a canonical tree
  pub every_canonical : (L : Leaf → Type 0) (N : Kind → Form → Type 0) (w : Version) → ((s : Scalar) → IsScalarValue s → L (canonical_leaf w s)) →
      ((k : Kind) (digits : List ℕ) → N k (Counted digits)) → (x : Datum) → IsValue x → Every L N (canonical_tree w x)
  every_canonical L N w at_leaf at_node (scalar s) p = at_leaf s p
  every_canonical L N w at_leaf at_node (aggregate k xs) p = (at_node k (decimal (items_of k (d.count xs))), every_of_canonical L N w at_leaf at_node xs p.1)

  every_of_canonical : (L : Leaf → Type 0) (N : Kind → Form → Type 0) (w : Version) → ((s : Scalar) → IsScalarValue s → L (canonical_leaf w s)) →
      ((k : Kind) (digits : List ℕ) → N k (Counted digits)) → (xs : Data) → AreValues xs → EveryOf L N (canonical_trees w xs)
  every_of_canonical L N w at_leaf at_node d.none p = tt
  every_of_canonical L N w at_leaf at_node (d.more x xs) p = (every_canonical L N w at_leaf at_node x p.0, every_of_canonical L N w at_leaf at_node xs p.1)

in_range_leaf : (w : Version) (s : Scalar) → IsScalarValue s → IsInRange (canonical_leaf w s)
in_range_leaf w (d.Int i) p = subst (λ (j : ℤ). (neg_ℤ (pos (2 ^ 63)) ≤ℤ j) × (j <ℤ pos (2 ^ 63))) (sym (signed-decimal i)) p
in_range_leaf w _ p = tt

counted_leaf : (w : Version) (s : Scalar) → IsScalarValue s → IsCountedLeaf (canonical_leaf w s)
counted_leaf w d.Null p = tt
counted_leaf w _ p = tt

-- a canonical tree's integers have 64 bits
pub canonical_in_range : (w : Version) (x : Datum) → IsValue x → Every IsInRange IsAnyNode (canonical_tree w x)
canonical_in_range w x p = every_canonical IsInRange IsAnyNode w (in_range_leaf w) (λ k digits. tt) x p

-- a canonical tree has no streamed form
pub canonical_counted : (w : Version) (x : Datum) → IsValue x → Every IsCountedLeaf IsCountedNode (canonical_tree w x)
canonical_counted w x p = every_canonical IsCountedLeaf IsCountedNode w (counted_leaf w) (λ k digits. tt) x p

same_fact : (P : Type 0) → P ↔ P
same_fact P = (λ p. p, λ p. p)

no_double_leaf : (l : Leaf) → IsNoDouble l ↔ IsScalarButDouble (leaf_value l)
no_double_leaf (line Simple s) = same_fact (Unit {0})
no_double_leaf (line Error s) = same_fact (Unit {0})
no_double_leaf (line Double s) = same_fact ⊥
no_double_leaf (numeral Int sign digits) = same_fact (Unit {0})
no_double_leaf (numeral Big sign digits) = same_fact (Unit {0})
no_double_leaf (null form) = same_fact (Unit {0})
no_double_leaf (truth b) = same_fact (Unit {0})
no_double_leaf (string Bulk digits s) = same_fact (Unit {0})
no_double_leaf (string BulkError digits s) = same_fact (Unit {0})
no_double_leaf (string (Verbatim format) digits s) = same_fact (Unit {0})
no_double_leaf (chunked chunks zeros) = same_fact (Unit {0})

mutual
  -- a tree has no double where its value has none
  pub no_double_tree : (t : Tree) → Every IsNoDouble IsAnyNode t ↔ HasNoDouble (value t)
  no_double_tree (leaf l) = no_double_leaf l
  no_double_tree (node k form ts) = let each = no_double_trees ts in (λ p. each.0 p.1, λ p. (tt, each.1 p))

  no_double_trees : (ts : Trees) → EveryOf IsNoDouble IsAnyNode ts ↔ HaveNoDouble (values ts)
  no_double_trees none = same_fact (Unit {0})
  no_double_trees (more t ts) =
      let h = no_double_tree t in
      let each = no_double_trees ts in
      (λ p. (h.0 p.0, each.0 p.1), λ p. (h.1 p.0, each.1 p.1))

two_leaf : (s : Scalar) → IsScalarInTwo s ↔ IsLeafInTwo (canonical_leaf Two s)
two_leaf d.Null = same_fact (Unit {0})
two_leaf (d.Bool b) = same_fact ⊥
two_leaf (d.Int i) = same_fact (Unit {0})
two_leaf (d.Simple s) = same_fact (Unit {0})
two_leaf (d.Error s) = same_fact (Unit {0})
two_leaf (d.Double s) = same_fact ⊥
two_leaf (d.Bulk s) = same_fact (Unit {0})
two_leaf (d.BulkError s) = same_fact ⊥
two_leaf (d.Verbatim format s) = same_fact ⊥
two_leaf (d.Big negative digits) = same_fact ⊥

two_kind : (k : Kind) (digits : List ℕ) → IsKindInTwo k ↔ IsNodeInTwo k (Counted digits)
two_kind Array digits = same_fact (Unit {0})
two_kind Set digits = same_fact ⊥
two_kind Map digits = same_fact ⊥
two_kind Attr digits = same_fact ⊥
two_kind Push digits = same_fact ⊥

mutual
  two_tree : (x : Datum) → IsInTwo x ↔ Every IsLeafInTwo IsNodeInTwo (canonical_tree Two x)
  two_tree (scalar s) = two_leaf s
  two_tree (aggregate k xs) =
      let h = two_kind k (decimal (items_of k (d.count xs))) in
      let t = two_trees xs in
      (λ p. (h.0 p.0, t.0 p.1), λ p. (h.1 p.0, t.1 p.1))

  two_trees : (xs : Data) → AreInTwo xs ↔ EveryOf IsLeafInTwo IsNodeInTwo (canonical_trees Two xs)
  two_trees d.none = same_fact (Unit {0})
  two_trees (d.more x xs) =
      let h = two_tree x in
      let t = two_trees xs in
      (λ p. (h.0 p.0, t.0 p.1), λ p. (h.1 p.0, t.1 p.1))

-- a canonical tree is one of the version's where the version has the value's types
pub canonical_version : (w : Version) (x : Datum) → HasTypes w x ↔ HasVersion w (canonical_tree w x)
canonical_version Two x = two_tree x
canonical_version Three x = same_fact (Unit {0})

push_kind : (k : Kind) (digits : List ℕ) → IsKindBelow k ↔ IsNoPush k (Counted digits)
push_kind Array digits = same_fact (Unit {0})
push_kind Set digits = same_fact (Unit {0})
push_kind Map digits = same_fact (Unit {0})
push_kind Attr digits = same_fact (Unit {0})
push_kind Push digits = same_fact ⊥

mutual
  push_tree : (w : Version) (x : Datum) → HasNoPush x ↔ Every IsAnyLeaf IsNoPush (canonical_tree w x)
  push_tree w (scalar s) = same_fact (Unit {0})
  push_tree w (aggregate k xs) =
      let h = push_kind k (decimal (items_of k (d.count xs))) in
      let t = push_trees w xs in
      (λ p. (h.0 p.0, t.0 p.1), λ p. (h.1 p.0, t.1 p.1))

  push_trees : (w : Version) (xs : Data) → HaveNoPush xs ↔ EveryOf IsAnyLeaf IsNoPush (canonical_trees w xs)
  push_trees w d.none = same_fact (Unit {0})
  push_trees w (d.more x xs) =
      let h = push_tree w x in
      let t = push_trees w xs in
      (λ p. (h.0 p.0, t.0 p.1), λ p. (h.1 p.0, t.1 p.1))

-- a canonical tree's pushes stand at the root where the value's stand at the top
pub canonical_push : (w : Version) (x : Datum) → HasPushAtTop x ↔ HasPushAtRoot (canonical_tree w x)
canonical_push w (scalar s) = same_fact (Unit {0})
canonical_push w (aggregate k xs) = push_trees w xs
