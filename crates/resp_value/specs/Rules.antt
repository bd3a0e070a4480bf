-- The rules of a version and limits, in order. Each rule admits fewer trees than the rule before it.
use Rattle.std.specs.Prelude.{◌≡◌, ℕ, ◌^◌, ◌≤◌, false, pos, ◌≤ℤ◌, ◌<ℤ◌, length}
use Rattle.std.proofs.Common.{neg_ℤ}
use Rattle.resp_value.specs.Numbers.{signed_value}
use Rattle.resp_value.specs.Data.{Kind, Array, Push, depth, longest, most_items}
use Rattle.resp_value.specs.Trees.{Tree, Trees, leaf, node, none, more, Leaf, line, numeral, null, string, chunked, Simple, Error, Double, Int, BulkNull, ArrayNull, Bulk, Form, Counted, Streamed, text}
use Rattle.resp_value.specs.TreeValues.{value}
use Rattle.resp_value.specs.Bounds.{Bounds}
use Rattle.resp_value.specs.declared.version.Version.{Version}
use Rattle.resp_value.specs.declared.version.Version.TheVariants.{Two, Three}

-- a version and limits
pub record Rules : Type 0 where
  pub version : Version
  pub limits : Bounds

-- the rules of this version under these limits
abbrev pub rules_under : Version → Bounds → Rules
rules_under version limits = record { version = version; limits = limits }

-- the rules that a tree has to meet, each with its number in `rank`
pub data Rule : Type 0 where
  Grammar : Rule
  NoDouble : Rule
  InVersion : Rule
  PushAtTop : Rule
  InRange : Rule
  NotStreamed : Rule
  WithinDepth : Rule
  WithinLength : Rule
  WithinItems : Rule
  WithinTotal : Rule

-- the number of a rule in their order
abbrev pub rank : Rule → ℕ
rank Grammar = 0
rank NoDouble = 1
rank InVersion = 2
rank PushAtTop = 3
rank InRange = 4
rank NotStreamed = 5
rank WithinDepth = 6
rank WithinLength = 7
rank WithinItems = 8
rank WithinTotal = 9

-- this holds for each leaf and each node of a tree
abbrev mutual
  pub Every : (Leaf → Type 0) → (Kind → Form → Type 0) → Tree → Type 0
  Every L N (leaf l) = L l
  Every L N (node k form ts) = N k form × EveryOf L N ts

  pub EveryOf : (Leaf → Type 0) → (Kind → Form → Type 0) → Trees → Type 0
  EveryOf L N none = Unit {0}
  EveryOf L N (more t ts) = Every L N t × EveryOf L N ts

-- any leaf
abbrev pub IsAnyLeaf : Leaf → Type 0
IsAnyLeaf l = Unit {0}

-- any node
abbrev pub IsAnyNode : Kind → Form → Type 0
IsAnyNode k form = Unit {0}

-- the leaf is not a double
abbrev pub IsNoDouble : Leaf → Type 0
IsNoDouble (line Double s) = ⊥
IsNoDouble _ = Unit {0}

-- the leaves of version 2
abbrev pub IsLeafInTwo : Leaf → Type 0
IsLeafInTwo (line Simple s) = Unit {0}
IsLeafInTwo (line Error s) = Unit {0}
IsLeafInTwo (numeral Int sign digits) = Unit {0}
IsLeafInTwo (null BulkNull) = Unit {0}
IsLeafInTwo (null ArrayNull) = Unit {0}
IsLeafInTwo (string Bulk digits s) = Unit {0}
IsLeafInTwo _ = ⊥

-- the aggregates of version 2
abbrev pub IsNodeInTwo : Kind → Form → Type 0
IsNodeInTwo Array (Counted digits) = Unit {0}
IsNodeInTwo _ _ = ⊥

-- the version has each leaf and each aggregate of the tree
abbrev pub HasVersion : Version → Tree → Type 0
HasVersion Two t = Every IsLeafInTwo IsNodeInTwo t
HasVersion Three t = Unit {0}

-- the kind is not a push
abbrev pub IsNoPush : Kind → Form → Type 0
IsNoPush Push form = ⊥
IsNoPush _ form = Unit {0}

-- there is no push below the root
abbrev pub HasPushAtRoot : Tree → Type 0
HasPushAtRoot (leaf l) = Unit {0}
HasPushAtRoot (node k form ts) = EveryOf IsAnyLeaf IsNoPush ts

-- an integer fits 64 bits
abbrev pub IsInRange : Leaf → Type 0
IsInRange (numeral Int sign digits) = (neg_ℤ (pos (2 ^ 63)) ≤ℤ signed_value sign digits) ×
    (signed_value sign digits <ℤ pos (2 ^ 63))
IsInRange _ = Unit {0}

-- the leaf is not streamed
abbrev pub IsCountedLeaf : Leaf → Type 0
IsCountedLeaf (chunked chunks zeros) = ⊥
IsCountedLeaf _ = Unit {0}

-- the aggregate is not streamed
abbrev pub IsCountedNode : Kind → Form → Type 0
IsCountedNode k (Counted digits) = Unit {0}
IsCountedNode k Streamed = ⊥

-- the condition of one rule for a tree
abbrev pub Meets : Rules → Rule → Tree → Type 0
Meets r Grammar t = Unit {0}
Meets r NoDouble t = r.limits.doubles ≡ false → Every IsNoDouble IsAnyNode t
Meets r InVersion t = HasVersion r.version t
Meets r PushAtTop t = HasPushAtRoot t
Meets r InRange t = Every IsInRange IsAnyNode t
Meets r NotStreamed t = r.limits.streamed ≡ false → Every IsCountedLeaf IsCountedNode t
Meets r WithinDepth t = depth (value t) ≤ r.limits.depth
Meets r WithinLength t = longest (value t) ≤ r.limits.length
Meets r WithinItems t = most_items (value t) ≤ r.limits.items
Meets r WithinTotal t = length (text t) ≤ r.limits.total

-- the tree meets each rule up to this one
abbrev pub Keeps : Rules → Rule → Tree → Type 0
Keeps r rule t = (earlier : Rule) → rank earlier ≤ rank rule → Meets r earlier t
