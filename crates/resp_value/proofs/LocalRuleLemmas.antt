-- The rules by recursion are the rules at each node.
use Rattle.std.proofs.Common.{◌≡◌, ◌↔◌, ℕ, suc, ◌+◌, ◌<◌, ◌≤◌, false, max, refl, ap, arith}
use Rattle.resp_value.specs.Data.{Kind, Array, Set, Map, Attr, Push, items_of, depth, greatest_depth, longest, longest_among, most_items, most_items_among}
use Rattle.resp_value.specs.Data as d
use Rattle.resp_value.specs.Trees.{Tree, Trees, leaf, node, none, more, Leaf, Form, count}
use Rattle.resp_value.specs.TreeValues.{value, values}
use Rattle.resp_value.specs.Rules.{Rules, Rule, Grammar, NoDouble, InVersion, PushAtTop, InRange, NotStreamed, WithinDepth, WithinLength, WithinItems, WithinTotal, rank, Keeps, Every, EveryOf, HasVersion, HasPushAtRoot, IsAnyLeaf, IsAnyNode, IsNoPush, IsNoDouble, IsInRange, IsLeafInTwo, IsNodeInTwo, IsCountedLeaf, IsCountedNode}
use Rattle.resp_value.specs.LocalRules.{LeafRule, NodeRule, HoldsFrom, HoldsFromEach, IsNoPushBelow, LeafMeets, NodeMeets, MeetsLocally, LeafKeeps, NodeKeeps}
use Rattle.resp_value.specs.Laws.{RulesHoldAtEachNode}
use Rattle.resp_value.specs.declared.version.Version.{Version}
use Rattle.resp_value.specs.declared.version.Version.TheVariants.{Two, Three}

mutual
  -- rules at each node give weaker rules at each node
  pub weaker : (L M : LeafRule) (N O : NodeRule) (level : ℕ) (t : Tree) → ((i : ℕ) (l : Leaf) → L i l → M i l) →
      ((i : ℕ) (k : Kind) (form : Form) (n : ℕ) → N i k form n → O i k form n) → HoldsFrom L N level t → HoldsFrom M O level t
  weaker L M N O level (leaf l) at_leaf at_node h = at_leaf level l h
  weaker L M N O level (node k form ts) at_leaf at_node h = (at_node level k form (count ts) h.0, weaker_each L M N O (suc level) ts at_leaf at_node h.1)

  pub weaker_each : (L M : LeafRule) (N O : NodeRule) (level : ℕ) (ts : Trees) → ((i : ℕ) (l : Leaf) → L i l → M i l) →
      ((i : ℕ) (k : Kind) (form : Form) (n : ℕ) → N i k form n → O i k form n) → HoldsFromEach L N level ts → HoldsFromEach M O level ts
  weaker_each L M N O level none at_leaf at_node h = tt
  weaker_each L M N O level (more t ts) at_leaf at_node h = (weaker L M N O level t at_leaf at_node h.0, weaker_each L M N O level ts at_leaf at_node h.1)

mutual
  -- a rule that looks at no level
  pub every_from : (L : Leaf → Type 0) (N : Kind → Form → Type 0) (level : ℕ) (t : Tree) → Every L N t ↔ HoldsFrom (λ i l. L l) (λ i k form n. N k form) level t
  every_from L N level (leaf l) = (λ p. p, λ p. p)
  every_from L N level (node k form ts) = let each = every_from_each L N (suc level) ts in (λ p. (p.0, each.0 p.1), λ p. (p.0, each.1 p.1))

  pub every_from_each : (L : Leaf → Type 0) (N : Kind → Form → Type 0) (level : ℕ) (ts : Trees) →
      EveryOf L N ts ↔ HoldsFromEach (λ i l. L l) (λ i k form n. N k form) level ts
  every_from_each L N level none = (λ p. tt, λ p. tt)
  every_from_each L N level (more t ts) =
      let h = every_from L N level t in
      let each = every_from_each L N level ts in
      (λ p. (h.0 p.0, each.0 p.1), λ p. (h.1 p.0, each.1 p.1))

mutual
  -- a rule that looks at no level, under a premise
  every_if : (P : Type 0) (L : Leaf → Type 0) (N : Kind → Form → Type 0) (level : ℕ) (t : Tree) →
      (P → Every L N t) ↔ HoldsFrom (λ i l. P → L l) (λ i k form n. P → N k form) level t
  every_if P L N level (leaf l) = (λ p. p, λ p. p)
  every_if P L N level (node k form ts) = let each = every_if_each P L N (suc level) ts in
      (λ p. (λ h. (p h).0, each.0 (λ h. (p h).1)), λ p h. (p.0 h, each.1 p.1 h))

  every_if_each : (P : Type 0) (L : Leaf → Type 0) (N : Kind → Form → Type 0) (level : ℕ) (ts : Trees) →
      (P → EveryOf L N ts) ↔ HoldsFromEach (λ i l. P → L l) (λ i k form n. P → N k form) level ts
  every_if_each P L N level none = (λ p. tt, λ p h. tt)
  every_if_each P L N level (more t ts) =
      let here = every_if P L N level t in
      let each = every_if_each P L N level ts in
      (λ p. (here.0 (λ h. (p h).0), each.0 (λ h. (p h).1)), λ p h. (here.1 p.0 h, each.1 p.1 h))

-- a rule of leaves that looks at no level, under a premise
leaves_if : (P : Type 0) (L : Leaf → Type 0) (level : ℕ) (t : Tree) → (P → Every L IsAnyNode t) ↔
    HoldsFrom (λ i l. P → L l) (λ i k form n. IsAnyNode k form) level t
leaves_if P L level t =
    let each = every_if P L IsAnyNode level t in (
      λ p. weaker (λ i l. P → L l) (λ i l. P → L l) (λ i k form n. P → IsAnyNode k form) (λ i k form n. IsAnyNode k form) level t (λ i l q. q)
          (λ i k form n q. tt) (each.0 p),
      λ p. each.1 (weaker (λ i l. P → L l) (λ i l. P → L l) (λ i k form n. IsAnyNode k form) (λ i k form n. P → IsAnyNode k form) level t (λ i l q. q)
          (λ i k form n q h. tt) p),
    )

-- a version is a rule for version 2 alone
version_if_two : (w : Version) (t : Tree) → HasVersion w t ↔ (w ≡ Two → Every IsLeafInTwo IsNodeInTwo t)
version_if_two Two t = (λ p e. p, λ p. p refl)
version_if_two Three t = (λ p e. absurd (cc), λ p. tt)

no_push_below : (level : ℕ) (k : Kind) (form : Form) → IsNoPush k form ↔ IsNoPushBelow (suc level) k
no_push_below level Array form = (λ p. tt, λ p. tt)
no_push_below level Set form = (λ p. tt, λ p. tt)
no_push_below level Map form = (λ p. tt, λ p. tt)
no_push_below level Attr form = (λ p. tt, λ p. tt)
no_push_below level Push form = (λ p. absurd p, λ e. absurd (omega arith))

mutual
  push_below : (r : Rules) (level : ℕ) (t : Tree) → Every IsAnyLeaf IsNoPush t ↔ HoldsFrom (LeafMeets r PushAtTop) (NodeMeets r PushAtTop) (suc level) t
  push_below r level (leaf l) = (λ p. tt, λ p. tt)
  push_below r level (node k form ts) =
      let h = no_push_below level k form in
      let each = push_below_each r (suc level) ts in
      (λ p. (h.0 p.0, each.0 p.1), λ p. (h.1 p.0, each.1 p.1))

  push_below_each : (r : Rules) (level : ℕ) (ts : Trees) → EveryOf IsAnyLeaf IsNoPush ts ↔
      HoldsFromEach (LeafMeets r PushAtTop) (NodeMeets r PushAtTop) (suc level) ts
  push_below_each r level none = (λ p. tt, λ p. tt)
  push_below_each r level (more t ts) =
      let h = push_below r level t in
      let each = push_below_each r level ts in
      (λ p. (h.0 p.0, each.0 p.1), λ p. (h.1 p.0, each.1 p.1))

kind_at_root : (k : Kind) → IsNoPushBelow 0 k
kind_at_root Array = tt
kind_at_root Set = tt
kind_at_root Map = tt
kind_at_root Attr = tt
kind_at_root Push = refl

-- pushes at the root alone are pushes on level 0 alone
pub push_from_root : (r : Rules) (t : Tree) → HasPushAtRoot t ↔ MeetsLocally r PushAtTop t
push_from_root r (leaf l) = (λ p. tt, λ p. tt)
push_from_root r (node k form ts) = let each = push_below_each r 0 ts in (λ p. (kind_at_root k, each.0 p), λ p. each.1 p.1)

mutual
  -- a tree is no deeper than the limit where each node's level is below it
  pub depth_from : (r : Rules) (level : ℕ) (t : Tree) → level ≤ r.limits.depth →
      (level + depth (value t) ≤ r.limits.depth) ↔ HoldsFrom (LeafMeets r WithinDepth) (NodeMeets r WithinDepth) level t
  depth_from r level (leaf l) h = (λ p. tt, λ p. omega arith)
  depth_from r level (node k form ts) h = (
    λ p. (omega arith, (depth_from_each r (suc level) ts (omega arith)).0 (omega arith)),
    λ p. let below : level < r.limits.depth = p.0 in let each : suc level + greatest_depth (values ts) ≤ r.limits.depth =
        (depth_from_each r (suc level) ts (omega arith)).1 p.1 in omega arith,
  )

  pub depth_from_each : (r : Rules) (level : ℕ) (ts : Trees) → level ≤ r.limits.depth → (level + greatest_depth (values ts) ≤ r.limits.depth) ↔
      HoldsFromEach (LeafMeets r WithinDepth) (NodeMeets r WithinDepth) level ts
  depth_from_each r level none h = (λ p. tt, λ p. omega arith)
  depth_from_each r level (more t ts) h = (
    λ p. ((depth_from r level t h).0 (omega arith), (depth_from_each r level ts h).0 (omega arith)),
    λ p. let here = (depth_from r level t h).1 p.0 in let each = (depth_from_each r level ts h).1 p.1 in omega arith,
  )

-- the greater of two is within a limit where both are
greater_within : (a b limit : ℕ) {P Q : Type 0} → ((a ≤ limit) ↔ P) → ((b ≤ limit) ↔ Q) → (max a b ≤ limit) ↔ (P × Q)
greater_within a b limit first second = (
  λ p. (first.0 (omega (arith, p)), second.0 (omega (arith, p))),
  λ p. let here = first.1 p.0 in let there = second.1 p.1 in omega arith,
)

mutual
  -- no content is longer than the limit where no leaf's is
  pub length_from : (r : Rules) (level : ℕ) (t : Tree) → (longest (value t) ≤ r.limits.length) ↔
      HoldsFrom (LeafMeets r WithinLength) (NodeMeets r WithinLength) level t
  length_from r level (leaf l) = (λ p. p, λ p. p)
  length_from r level (node k form ts) = let each = length_from_each r (suc level) ts in (λ p. (tt, each.0 p), λ p. each.1 p.1)

  pub length_from_each : (r : Rules) (level : ℕ) (ts : Trees) → (longest_among (values ts) ≤ r.limits.length) ↔
      HoldsFromEach (LeafMeets r WithinLength) (NodeMeets r WithinLength) level ts
  length_from_each r level none = (λ p. tt, λ p. omega arith)
  length_from_each r level (more t ts) =
      greater_within (longest (value t)) (longest_among (values ts)) r.limits.length (length_from r level t) (length_from_each r level ts)

-- a tree's value has as many members as the tree
pub count-values : (ts : Trees) → d.count (values ts) ≡ count ts
count-values none = refl
count-values (more t ts) = ap (λ n. n + 1) (count-values ts)

mutual
  -- no aggregate has more items than the limit where no node has
  pub items_from : (r : Rules) (level : ℕ) (t : Tree) → (most_items (value t) ≤ r.limits.items) ↔
      HoldsFrom (LeafMeets r WithinItems) (NodeMeets r WithinItems) level t
  items_from r level (leaf l) = (λ p. tt, λ p. omega arith)
  items_from r level (node k form ts) =
      let each = items_from_each r (suc level) ts in
      let same : items_of k (d.count (values ts)) ≡ items_of k (count ts) = ap (items_of k) (count-values ts) in (
        λ p. (omega arith, each.0 (omega arith)),
        λ p. let here : items_of k (count ts) ≤ r.limits.items = p.0 in let among = each.1 p.1 in omega arith,
      )

  pub items_from_each : (r : Rules) (level : ℕ) (ts : Trees) → (most_items_among (values ts) ≤ r.limits.items) ↔
      HoldsFromEach (LeafMeets r WithinItems) (NodeMeets r WithinItems) level ts
  items_from_each r level none = (λ p. tt, λ p. omega arith)
  items_from_each r level (more t ts) =
      greater_within (most_items (value t)) (most_items_among (values ts)) r.limits.items (items_from r level t) (items_from_each r level ts)

mutual
  every_is_any : (t : Tree) → Every IsAnyLeaf IsAnyNode t
  every_is_any (leaf l) = tt
  every_is_any (node k form ts) = (tt, every_of_is_any ts)

  every_of_is_any : (ts : Trees) → EveryOf IsAnyLeaf IsAnyNode ts
  every_of_is_any none = tt
  every_of_is_any (more t ts) = (every_is_any t, every_of_is_any ts)

-- each rule but the one of total holds of a tree where it holds at each node
pub rules_hold_at_each_node : RulesHoldAtEachNode
rules_hold_at_each_node r Grammar t before_total = (λ p. (every_from IsAnyLeaf IsAnyNode 0 t).0 (every_is_any t), λ p. tt)
rules_hold_at_each_node r NoDouble t before_total = leaves_if (r.limits.doubles ≡ false) IsNoDouble 0 t
rules_hold_at_each_node r InVersion t before_total =
    let two = version_if_two r.version t in
    let each = every_if (r.version ≡ Two) IsLeafInTwo IsNodeInTwo 0 t in
    (λ p. each.0 (two.0 p), λ p. two.1 (each.1 p))
rules_hold_at_each_node r PushAtTop t before_total = push_from_root r t
rules_hold_at_each_node r InRange t before_total = every_from IsInRange IsAnyNode 0 t
rules_hold_at_each_node r NotStreamed t before_total = every_if (r.limits.streamed ≡ false) IsCountedLeaf IsCountedNode 0 t
rules_hold_at_each_node r WithinDepth t before_total =
    let from = depth_from r 0 t (omega arith) in
    (λ p. from.0 (omega arith), λ p. let h : 0 + depth (value t) ≤ r.limits.depth = from.1 p in omega arith)
rules_hold_at_each_node r WithinLength t before_total = length_from r 0 t
rules_hold_at_each_node r WithinItems t before_total = items_from r 0 t
rules_hold_at_each_node r WithinTotal t before_total = absurd (omega arith)

mutual
  -- the rules up to one, each at each node, are these rules together at each node
  pub gather : (r : Rules) (rule : Rule) (level : ℕ) (t : Tree) →
      ((earlier : Rule) → rank earlier ≤ rank rule → HoldsFrom (LeafMeets r earlier) (NodeMeets r earlier) level t) →
      HoldsFrom (LeafKeeps r rule) (NodeKeeps r rule) level t
  gather r rule level (leaf l) h = h
  gather r rule level (node k form ts) h = (λ earlier e. (h earlier e).0, gather_each r rule (suc level) ts (λ earlier e. (h earlier e).1))

  gather_each : (r : Rules) (rule : Rule) (level : ℕ) (ts : Trees) →
      ((earlier : Rule) → rank earlier ≤ rank rule → HoldsFromEach (LeafMeets r earlier) (NodeMeets r earlier) level ts) →
      HoldsFromEach (LeafKeeps r rule) (NodeKeeps r rule) level ts
  gather_each r rule level none h = tt
  gather_each r rule level (more t ts) h = (gather r rule level t (λ earlier e. (h earlier e).0), gather_each r rule level ts (λ earlier e. (h earlier e).1))

-- where the rules hold together at each node, each one of them holds at each node
pub one_rule : (r : Rules) (rule earlier : Rule) (level : ℕ) (t : Tree) → rank earlier ≤ rank rule → HoldsFrom (LeafKeeps r rule) (NodeKeeps r rule) level t →
    HoldsFrom (LeafMeets r earlier) (NodeMeets r earlier) level t
one_rule r rule earlier level t e h = weaker (LeafKeeps r rule) (LeafMeets r earlier) (NodeKeeps r rule) (NodeMeets r earlier) level t (λ i l p. p earlier e)
    (λ i k form n p. p earlier e) h

-- a tree keeps the rules up to one before total where each of its nodes does
pub keeps_locally : (r : Rules) (rule : Rule) (t : Tree) → rank rule < rank WithinTotal → Keeps r rule t ↔ HoldsFrom (LeafKeeps r rule) (NodeKeeps r rule) 0 t
keeps_locally r rule t before_total = (
  λ keeps. gather r rule 0 t (λ earlier e. (rules_hold_at_each_node r earlier t (omega arith)).0 (keeps earlier e)),
  λ h earlier e. (rules_hold_at_each_node r earlier t (omega arith)).1 (one_rule r rule earlier 0 t e h),
)
