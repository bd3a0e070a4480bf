-- The values that nodes stand for, with the texts in the buffer.
use Rattle.std.specs.Prelude.{◌≡◌, ℕ, ℤ, pos, ◌+◌, ◌≤◌, List, [], ◌∷◌, ◌++◌, length, take, drop}
use Rattle.resp_value.specs.Data.{Scalar, Datum, Data, Kind, scalar, aggregate, none, more, count}
use Rattle.resp_value.specs.Data as d
use Rattle.resp_flat.specs.declared.node.Node.{Node}
use Rattle.resp_flat.specs.Numbers.{kind_form, truth_number}

-- the node of a value without content
abbrev pub leaf_node : ℕ → ℤ → Node
leaf_node kind number = record {
  kind = kind;
  form = 0;
  format = 0 ∷ 0 ∷ 0 ∷ [];
  number = number;
  start = 0;
  length = 0;
  size = 1;
}

-- the node of a text in the buffer
abbrev pub text_node : ℕ → ℕ → ℕ → Node
text_node form start size = record {
  kind = 4;
  form = form;
  format = 0 ∷ 0 ∷ 0 ∷ [];
  number = pos 0;
  start = start;
  length = size;
  size = 1;
}

-- the node of a verbatim string in the buffer
abbrev pub verbatim_node : List ℕ → ℕ → ℕ → Node
verbatim_node format start size = record {
  kind = 4;
  form = 5;
  format = format;
  number = pos 0;
  start = start;
  length = size;
  size = 1;
}

-- the node of an aggregate
abbrev pub aggregate_node : ℕ → ℕ → ℕ → Node
aggregate_node form members size = record {
  kind = 7;
  form = form;
  format = 0 ∷ 0 ∷ 0 ∷ [];
  number = pos 0;
  start = 0;
  length = members;
  size = size;
}

-- a node of a text of this form, whose bytes are these bytes of the buffer
pub record IsTextNode (buffer : List ℕ) (node : Node) (form : ℕ) (text : List ℕ) : Type 0 where
  pub kind_is : node.kind ≡ 4
  pub form_is : node.form ≡ form
  pub within : node.start + node.length ≤ length buffer
  pub text_is : text ≡ take node.length (drop node.start buffer)

-- a node of this value without members
abbrev pub IsLeafNode : List ℕ → Node → Scalar → Type 0
IsLeafNode buffer node d.Null = node.kind ≡ 1
IsLeafNode buffer node (d.Bool truth) = (node.kind ≡ 2) × (node.number ≡ truth_number truth)
IsLeafNode buffer node (d.Int number) = (node.kind ≡ 3) × (node.number ≡ number)
IsLeafNode buffer node (d.Simple text) = IsTextNode buffer node 0 text
IsLeafNode buffer node (d.Error text) = IsTextNode buffer node 1 text
IsLeafNode buffer node (d.Double text) = IsTextNode buffer node 2 text
IsLeafNode buffer node (d.Bulk text) = IsTextNode buffer node 3 text
IsLeafNode buffer node (d.BulkError text) = IsTextNode buffer node 4 text
IsLeafNode buffer node (d.Verbatim format text) = IsTextNode buffer node 5 text × (node.format ≡ format)
IsLeafNode buffer node (d.Big negative digits) = IsTextNode buffer node 6 digits × (node.number ≡ truth_number negative)

-- the first node is that of an aggregate of this kind, with as many members and nodes as there are; its members have the
-- other nodes
pub record IsAggregate (kind : Kind) (members : ℕ) (Members : List Node → Type 0) (nodes : List Node) : Type 0 where
  pub node : Node
  pub inner : List Node
  pub parts : nodes ≡ node ∷ inner
  pub kind_is : node.kind ≡ 7
  pub form_is : node.form ≡ kind_form kind
  pub counted : node.length ≡ members
  pub sized : node.size ≡ length inner + 1
  pub are_members : Members inner

-- one node, of a value without members
pub record IsLeaf (buffer : List ℕ) (s : Scalar) (nodes : List Node) : Type 0 where
  pub node : Node
  pub alone : nodes ≡ node ∷ []
  pub one : node.size ≡ 1
  pub is_leaf : IsLeafNode buffer node s

-- the nodes are those of a first value, and then those of others
pub record AreParted (First Others : List Node → Type 0) (nodes : List Node) : Type 0 where
  pub first : List Node
  pub others : List Node
  pub nodes_are : nodes ≡ first ++ others
  pub is_first : First first
  pub are_others : Others others

abbrev mutual
  -- the nodes stand for the value
  pub AreNodesOf : List ℕ → Datum → List Node → Type 0
  AreNodesOf buffer (scalar s) nodes = IsLeaf buffer s nodes
  AreNodesOf buffer (aggregate kind xs) nodes = IsAggregate kind (count xs) (AreNodesOfEach buffer xs) nodes

  -- the nodes stand for the values, one after another
  pub AreNodesOfEach : List ℕ → Data → List Node → Type 0
  AreNodesOfEach buffer none nodes = nodes ≡ []
  AreNodesOfEach buffer (more x xs) nodes = AreParted (AreNodesOf buffer x) (AreNodesOfEach buffer xs) nodes

abbrev mutual
  -- the number of nodes of a value: 1, and those of its members
  pub node_count : Datum → ℕ
  node_count (scalar s) = 1
  node_count (aggregate kind xs) = node_count_of_each xs + 1

  pub node_count_of_each : Data → ℕ
  node_count_of_each none = 0
  node_count_of_each (more x xs) = node_count x + node_count_of_each xs
