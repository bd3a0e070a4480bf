-- Small trees, which the limits never refuse.
use Rattle.std.proofs.Common.{ℕ, ◌≤◌, [], ◌∷◌, length, arith}
use Rattle.resp_value.specs.Bounds.{AreBounds}
use Rattle.resp_value.specs.Numbers.{IsDigits}
use Rattle.resp_value.specs.Data.{Kind, content_length, depth, longest, most_items}
use Rattle.resp_value.specs.Trees.{Tree, Trees, leaf, node, Leaf, Form, text, leaf_text, IsTree, IsLeaf}
use Rattle.resp_value.specs.TreeValues.{value, leaf_value}
use Rattle.resp_value.specs.Rules.{Rules, Rule, Grammar, NoDouble, InVersion, PushAtTop, InRange, NotStreamed, WithinDepth, WithinLength, WithinItems, WithinTotal, Meets, Every, EveryOf, HasVersion, HasPushAtRoot, IsAnyLeaf, IsAnyNode, IsNoPush, IsNoDouble, IsInRange, IsLeafInTwo, IsNodeInTwo, IsCountedLeaf, IsCountedNode}
use Rattle.resp_value.specs.declared.version.Version.{Version}
use Rattle.resp_value.specs.declared.version.Version.TheVariants.{Two, Three}

-- one digit
pub one_digit : (digit : ℕ) → 48 ≤ digit → digit ≤ 57 → IsDigits (digit ∷ [])
one_digit digit p q = (omega arith, ((p, q), tt))

-- every version has what version 2 has
pub in_each_version : (w : Version) (t : Tree) → Every IsLeafInTwo IsNodeInTwo t → HasVersion w t
in_each_version Two t p = p
in_each_version Three t p = tt

-- no switch refuses what isn't streamed
pub if_counted : (r : Rules) (t : Tree) → Every IsCountedLeaf IsCountedNode t → Meets r NotStreamed t
if_counted r t p off = p

-- a tree that keeps every rule but those of a version and of streamed forms, whatever the limits
pub record IsSmall (t : Tree) : Type 0 where
  pub is_tree : IsTree t
  pub no_double : Every IsNoDouble IsAnyNode t
  pub push_at_root : HasPushAtRoot t
  pub in_range : Every IsInRange IsAnyNode t
  pub depth_at_most : depth (value t) ≤ 4
  pub length_at_most : longest (value t) ≤ 64
  pub items_at_most : most_items (value t) ≤ 16
  pub total_at_most : length (text t) ≤ 256

-- a small tree of the version meets every rule
pub small_meets : (r : Rules) (t : Tree) → AreBounds r.limits → IsSmall t → HasVersion r.version t → Meets r NotStreamed t → (rule : Rule) → Meets r rule t
small_meets r t b s w f Grammar = tt
small_meets r t b s w f NoDouble = λ off. s.no_double
small_meets r t b s w f InVersion = w
small_meets r t b s w f PushAtTop = s.push_at_root
small_meets r t b s w f InRange = s.in_range
small_meets r t b s w f NotStreamed = f
small_meets r t b s w f WithinDepth = let h : 4 ≤ r.limits.depth = b.depth_in_range.0 in let h2 = s.depth_at_most in omega arith
small_meets r t b s w f WithinLength = let h : 64 ≤ r.limits.length = b.length_in_range.0 in let h2 = s.length_at_most in omega arith
small_meets r t b s w f WithinItems = let h : 16 ≤ r.limits.items = b.items_in_range.0 in let h2 = s.items_at_most in omega arith
small_meets r t b s w f WithinTotal = let h : 256 ≤ r.limits.total = b.total_in_range.0 in let h2 = s.total_at_most in omega arith

-- a small leaf
pub small_leaf : (l : Leaf) → IsLeaf l → IsNoDouble l → IsInRange l → content_length (leaf_value l) ≤ 64 → length (leaf_text l) ≤ 256 → IsSmall (leaf l)
small_leaf l p no_double in_range length_at_most total_at_most = record {
  is_tree = p;
  no_double = no_double;
  push_at_root = tt;
  in_range = in_range;
  depth_at_most = omega arith;
  length_at_most = length_at_most;
  items_at_most = omega arith;
  total_at_most = total_at_most;
}

-- a small aggregate
pub small_node : (k : Kind) (form : Form) (ts : Trees) → IsTree (node k form ts) → EveryOf IsNoDouble IsAnyNode ts → EveryOf IsAnyLeaf IsNoPush ts →
    EveryOf IsInRange IsAnyNode ts → depth (value (node k form ts)) ≤ 4 → longest (value (node k form ts)) ≤ 64 → most_items (value (node k form ts)) ≤ 16 →
    length (text (node k form ts)) ≤ 256 → IsSmall (node k form ts)
small_node k form ts p no_double no_push in_range depth_at_most length_at_most items_at_most total_at_most = record {
  is_tree = p;
  no_double = (tt, no_double);
  push_at_root = no_push;
  in_range = (tt, in_range);
  depth_at_most = depth_at_most;
  length_at_most = length_at_most;
  items_at_most = items_at_most;
  total_at_most = total_at_most;
}
