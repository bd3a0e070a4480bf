-- The contracts of a call that reads one value.
use Rattle.std.specs.Prelude.{◌≡◌, ◌⊎◌, ℕ, ◌+◌, ◌-◌, ◌/◌, ◌≤◌, ◌<◌, ◌^◌, List, ◌∷◌, ◌++◌, length, take, drop}
use Rattle.std.specs.Str.{byte}
use Rattle.resp_value.specs.Bytes.{IsLine, crlf}
use Rattle.resp_value.specs.Data.{Datum, Kind, members_of}
use Rattle.resp_value.specs.Kinds.{kind_of}
use Rattle.resp_value.specs.declared.kind.OpenKind.{OpenKind}
use Rattle.resp_value.specs.LocalRules.{HoldsFrom, LeafKeeps, NodeKeeps}
use Rattle.resp_value.specs.Numbers.{IsDigits, IsNumber, Plus, number}
use Rattle.resp_value.specs.Rules.{IsCountedNode, Keeps, Rules, WithinItems, WithinTotal}
use Rattle.resp_value.specs.Spellings.{IsSpelling}
use Rattle.resp_value.specs.Trees.{Big, Counted, Form, Int, Leaf, Spells, StringKind, Tree, Trees, Verbatim, chunked, numeral, IsLeaf, IsTree, kind_byte, leaf_text, text}
use Rattle.resp_value.specs.Trees as t
use Rattle.resp_value.specs.TreeValues.{leaf_value, value}
use Rattle.resp_flat.specs.declared.node.Node.{Node}
use Rattle.resp_flat.specs.declared.reading.Filled.{Filled}
use Rattle.resp_flat.specs.Nodes.{AreNodesOf, IsLeafNode, node_count}

-- A plain leaf: no streamed string, no big number, and no integer with a `+`. Its text is one part of its spelling.
abbrev pub IsPlainLeaf : ℕ → Leaf → Type 0
IsPlainLeaf level (numeral Int Plus digits) = ⊥
IsPlainLeaf level (numeral Big sign digits) = ⊥
IsPlainLeaf level (chunked chunks zeros) = ⊥
IsPlainLeaf level _ = Unit {0}

-- a plain aggregate: not streamed, and in fewer than 16 others
pub record IsPlainNode (level : ℕ) (kind : Kind) (form : Form) (members : ℕ) : Type 0 where
  pub shallow : level < 16
  pub counted : IsCountedNode kind form

-- the bytes begin with a spelling within the rules whose leaves and aggregates are plain
pub record BeginsWithPlain (rules : Rules) (bytes : List ℕ) : Type 0 where
  pub size : ℕ
  pub tree : Tree
  pub within : size ≤ length bytes
  pub spells : Spells tree (take size bytes)
  pub keeps : Keeps rules WithinTotal tree
  pub plain : HoldsFrom IsPlainLeaf IsPlainNode 0 tree

-- the bytes begin with a plain reply within the rules that has more nodes than this, and those are fewer than a third of its bytes
pub record LacksNodes (rules : Rules) (bytes : List ℕ) (room : ℕ) : Type 0 where
  pub reply : BeginsWithPlain rules bytes
  pub lacks : room < node_count (value reply.tree)
  pub few : room < reply.size / 3

-- the text begins with digits of this number and CR LF, and then has this rest
pub record BeginsWithNumber (text : List ℕ) (n : ℕ) (rest : List ℕ) : Type 0 where
  pub digits : List ℕ
  pub counted : IsNumber n digits
  pub whole : text ≡ digits ++ crlf rest

-- the text begins with a line of this length, and then has this rest
pub record BeginsWithLine (text : List ℕ) (size : ℕ) (rest : List ℕ) : Type 0 where
  pub line : List ℕ
  pub is_line : IsLine line
  pub sized : length line ≡ size
  pub whole : text ≡ line ++ rest

-- a null may begin with this byte in any version
abbrev pub IsNullByte : ℕ → Type 0
IsNullByte b = (b ≡ byte "$") ⊎ (b ≡ byte "*")

-- the string has no format
abbrev pub HasNoFormat : StringKind → Type 0
HasNoFormat (Verbatim format) = ⊥
HasNoFormat _ = Unit {0}

-- the buffer has a value without members from this index up to that one, and the node is its node
pub record IsLeafAt (rules : Rules) (buffer : List ℕ) (at end : ℕ) (node : Node) : Type 0 where
  pub leaf : Leaf
  pub is_leaf : IsLeaf leaf
  pub keeps : (level : ℕ) → LeafKeeps rules WithinItems level leaf
  pub plain : (level : ℕ) → IsPlainLeaf level leaf
  pub whole : drop at buffer ≡ leaf_text leaf ++ drop end buffer
  pub within : end ≤ length buffer
  pub one : node.size ≡ 1
  pub stands : IsLeafNode buffer node (leaf_value leaf)

-- the buffer has a plain leaf within the rules from this index on, this deep in aggregates
pub record HasLeaf (rules : Rules) (level : ℕ) (buffer : List ℕ) (at : ℕ) : Type 0 where
  pub leaf : Leaf
  pub rest : List ℕ
  pub is_leaf : IsLeaf leaf
  pub keeps : LeafKeeps rules WithinItems level leaf
  pub plain : IsPlainLeaf level leaf
  pub whole : drop at buffer ≡ leaf_text leaf ++ rest

-- the buffer has a plain aggregate within the rules from this index on, this deep in others
pub record HasAggregate (rules : Rules) (level : ℕ) (buffer : List ℕ) (at : ℕ) : Type 0 where
  pub kind : Kind
  pub form : Form
  pub members : Trees
  pub rest : List ℕ
  pub is_tree : IsTree (t.node kind form members)
  pub keeps : HoldsFrom (LeafKeeps rules WithinItems) (NodeKeeps rules WithinItems) level (t.node kind form members)
  pub plain : HoldsFrom IsPlainLeaf IsPlainNode level (t.node kind form members)
  pub whole : drop at buffer ≡ text (t.node kind form members) ++ rest

-- the buffer has the head of an aggregate of this kind from this index up to that one, this deep in others
pub record IsHeadAt (rules : Rules) (level : ℕ) (buffer : List ℕ) (at : ℕ) (kind : OpenKind) (members end : ℕ) : Type 0 where
  pub digits : List ℕ
  pub are_digits : IsDigits digits
  pub counted : members_of (kind_of kind) (number digits) ≡ members
  pub keeps : NodeKeeps rules WithinItems level (kind_of kind) (Counted digits) members
  pub whole : drop at buffer ≡ (kind_byte (kind_of kind) ∷ digits) ++ crlf (drop end buffer)
  pub within : end ≤ length buffer
  pub few : members < 2 ^ 62

-- The buffer has a value from the one index up to the other, this deep in aggregates. Its nodes follow those that were
-- filled, if there is room for them.
pub record IsValueAt (rules : Rules) (level : ℕ) (buffer : List ℕ) (before after : Filled) (old new : List Node) :
    Type 0 where
  pub tree : Tree
  pub own : List Node
  pub is_tree : IsTree tree
  pub keeps : HoldsFrom (LeafKeeps rules WithinItems) (NodeKeeps rules WithinItems) level tree
  pub plain : HoldsFrom IsPlainLeaf IsPlainNode level tree
  pub whole : drop before.end buffer ≡ text tree ++ drop after.end buffer
  pub within : after.end ≤ length buffer
  pub stand : AreNodesOf buffer (value tree) own
  pub filled : after.count ≤ length new → take after.count new ≡ take before.count old ++ own
  pub counted : after.count ≡ before.count + length own

-- The buffer has a spelling of a value from the one index up to the other. Its nodes follow those that were filled.
pub record IsPlain (rules : Rules) (buffer : List ℕ) (before after : Filled) (old new : List Node) : Type 0 where
  pub value : Datum
  pub own : List Node
  pub spelling : IsSpelling rules value (take (after.end - before.end) (drop before.end buffer))
  pub forward : before.end < after.end
  pub within : after.end ≤ length buffer
  pub stand : AreNodesOf buffer value own
  pub filled : take after.count new ≡ take before.count old ++ own
  pub counted : after.count ≡ before.count + length own
  pub room : after.count ≤ length new
