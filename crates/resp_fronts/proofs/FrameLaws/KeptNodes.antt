-- Which rules a leaf and a node keep by themselves.
use Rattle.std.proofs.Common.{◌≡◌, ℕ, ◌<◌, ◌≤◌, false, [], arith}
use Rattle.resp_value.specs.Data.{Kind, content_length, items_of}
use Rattle.resp_value.specs.Trees.{Leaf, line, Simple, Form}
use Rattle.resp_value.specs.TreeValues.{leaf_value}
use Rattle.resp_value.specs.Rules.{Rules, Rule, Grammar, NoDouble, InVersion, PushAtTop, InRange, NotStreamed, WithinDepth, WithinLength, WithinItems, WithinTotal, IsNoDouble, IsLeafInTwo, IsNodeInTwo, IsInRange, IsCountedLeaf, IsCountedNode}
use Rattle.resp_value.specs.LocalRules.{LeafMeets, NodeMeets, LeafKeeps, NodeKeeps, IsNoPushBelow}
use Rattle.resp_value.specs.declared.version.Version.TheVariants.{Two}

-- what holds of each rule holds of a rule
pub at_each_rule : (P : Rule → Type 0) → P Grammar → P NoDouble → P InVersion → P PushAtTop → P InRange → P NotStreamed → P WithinDepth → P WithinLength →
    P WithinItems → P WithinTotal → (rule : Rule) → P rule
at_each_rule P a b c d e f g h i j Grammar = a
at_each_rule P a b c d e f g h i j NoDouble = b
at_each_rule P a b c d e f g h i j InVersion = c
at_each_rule P a b c d e f g h i j PushAtTop = d
at_each_rule P a b c d e f g h i j InRange = e
at_each_rule P a b c d e f g h i j NotStreamed = f
at_each_rule P a b c d e f g h i j WithinDepth = g
at_each_rule P a b c d e f g h i j WithinLength = h
at_each_rule P a b c d e f g h i j WithinItems = i
at_each_rule P a b c d e f g h i j WithinTotal = j

-- a leaf within every rule
pub leaf_meets : (r : Rules) (level : ℕ) (l : Leaf) → IsNoDouble l → (r.version ≡ Two → IsLeafInTwo l) → IsInRange l →
    (r.limits.streamed ≡ false → IsCountedLeaf l) → content_length (leaf_value l) ≤ r.limits.length → (rule : Rule) → LeafMeets r rule level l
leaf_meets r level l no_double in_version in_range counted within_length =
    at_each_rule (λ rule. LeafMeets r rule level l) tt (λ off. no_double) in_version tt in_range counted tt within_length tt tt

-- a leaf that breaks no rule by itself keeps the rules up to any one
pub leaf_keeps : (r : Rules) (rule : Rule) (level : ℕ) (l : Leaf) → IsNoDouble l → (r.version ≡ Two → IsLeafInTwo l) → IsInRange l →
    (r.limits.streamed ≡ false → IsCountedLeaf l) → content_length (leaf_value l) ≤ r.limits.length → LeafKeeps r rule level l
leaf_keeps r rule level l no_double in_version in_range counted within_length earlier e =
    leaf_meets r level l no_double in_version in_range counted within_length earlier

-- a node within every rule
pub node_keeps : (r : Rules) (rule : Rule) (level : ℕ) (k : Kind) (form : Form) (n : ℕ) → (r.version ≡ Two → IsNodeInTwo k form) → IsNoPushBelow level k →
    (r.limits.streamed ≡ false → IsCountedNode k form) → level < r.limits.depth → items_of k n ≤ r.limits.items → NodeKeeps r rule level k form n
node_keeps r rule level k form n in_version no_push counted within_depth within_items earlier e =
    at_each_rule (λ a. NodeMeets r a level k form n) tt tt in_version no_push tt counted within_depth tt within_items tt earlier

-- the shortest value is within every rule
pub shortest_keeps : (r : Rules) (rule : Rule) (level : ℕ) → LeafKeeps r rule level (line Simple [])
shortest_keeps r rule level = leaf_keeps r rule level (line Simple []) tt (λ is_two. tt) tt (λ off. tt) (omega arith)
