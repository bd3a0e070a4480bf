-- Each rule except the limit of total, as a rule about one node and its level below the root.
use Rattle.std.specs.Prelude.{◌≡◌, ℕ, suc, ◌<◌, ◌≤◌, false}
use Rattle.resp_value.specs.Data.{Kind, Push, content_length, items_of}
use Rattle.resp_value.specs.Trees.{Tree, Trees, leaf, node, none, more, Leaf, Form, count}
use Rattle.resp_value.specs.TreeValues.{leaf_value}
use Rattle.resp_value.specs.Rules.{Rules, Rule, NoDouble, InVersion, PushAtTop, InRange, NotStreamed, WithinDepth, WithinLength, WithinItems, rank, IsNoDouble, IsLeafInTwo, IsNodeInTwo, IsInRange, IsCountedLeaf, IsCountedNode}
use Rattle.resp_value.specs.declared.version.Version.TheVariants.{Two}

-- a rule about a leaf and its level
abbrev pub LeafRule : Type 1
LeafRule = ℕ → Leaf → Type 0

-- a rule about a node, its level and its number of members
abbrev pub NodeRule : Type 1
NodeRule = ℕ → Kind → Form → ℕ → Type 0

-- the rules hold at each node of a tree whose root is on this level
abbrev mutual
  pub HoldsFrom : LeafRule → NodeRule → ℕ → Tree → Type 0
  HoldsFrom L N level (leaf l) = L level l
  HoldsFrom L N level (node k form ts) = N level k form (count ts) × HoldsFromEach L N (suc level) ts

  pub HoldsFromEach : LeafRule → NodeRule → ℕ → Trees → Type 0
  HoldsFromEach L N level none = Unit {0}
  HoldsFromEach L N level (more t ts) = HoldsFrom L N level t × HoldsFromEach L N level ts

abbrev pub IsNoPushBelow : ℕ → Kind → Type 0
IsNoPushBelow level Push = level ≡ 0
IsNoPushBelow level _ = Unit {0}

-- the condition of each rule for a leaf
abbrev pub LeafMeets : Rules → Rule → LeafRule
LeafMeets r NoDouble level l = r.limits.doubles ≡ false → IsNoDouble l
LeafMeets r InVersion level l = r.version ≡ Two → IsLeafInTwo l
LeafMeets r InRange level l = IsInRange l
LeafMeets r NotStreamed level l = r.limits.streamed ≡ false → IsCountedLeaf l
LeafMeets r WithinLength level l = content_length (leaf_value l) ≤ r.limits.length
LeafMeets r _ level l = Unit {0}

-- the condition of each rule for a node
abbrev pub NodeMeets : Rules → Rule → NodeRule
NodeMeets r InVersion level k form n = r.version ≡ Two → IsNodeInTwo k form
NodeMeets r PushAtTop level k form n = IsNoPushBelow level k
NodeMeets r NotStreamed level k form n = r.limits.streamed ≡ false → IsCountedNode k form
NodeMeets r WithinDepth level k form n = level < r.limits.depth
NodeMeets r WithinItems level k form n = items_of k n ≤ r.limits.items
NodeMeets r _ level k form n = Unit {0}

-- one rule holds at each node of the tree
abbrev pub MeetsLocally : Rules → Rule → Tree → Type 0
MeetsLocally r rule t = HoldsFrom (LeafMeets r rule) (NodeMeets r rule) 0 t

-- each rule up to this one, for a leaf and for a node
abbrev pub LeafKeeps : Rules → Rule → LeafRule
LeafKeeps r rule level l = (earlier : Rule) → rank earlier ≤ rank rule → LeafMeets r earlier level l

abbrev pub NodeKeeps : Rules → Rule → NodeRule
NodeKeeps r rule level k form n = (earlier : Rule) → rank earlier ≤ rank rule → NodeMeets r earlier level k form n
