-- The canonical text of a value in a version, and the conditions under which it is an encoding of the value.
use Rattle.std.specs.Prelude.{◌≡◌, ℕ, ◌+◌, ◌/◌, ◌^◌, ◌<◌, ◌≤◌, Bool, true, false, ℤ, pos, negsuc, ◌≤ℤ◌, ◌<ℤ◌, List, length}
use Rattle.std.proofs.Common.{neg_ℤ}
use Rattle.resp_value.specs.Bounds.{Bounds}
use Rattle.resp_value.specs.Bytes.{IsLine, IsText}
use Rattle.resp_value.specs.Doubles.{IsDouble}
use Rattle.resp_value.specs.Numbers.{Sign, Unsigned, Minus, decimal, IsKept}
use Rattle.resp_value.specs.Data.{Kind, Array, Map, Attr, Push, Scalar, Datum, Data, scalar, aggregate, items_of, depth, longest, most_items}
use Rattle.resp_value.specs.Data as d
use Rattle.resp_value.specs.Trees.{Tree, Trees, leaf, node, none, more, Leaf, line, numeral, null, truth, string, Simple, Error, Double, Int, Big, NullForm, BulkNull, PlainNull, Bulk, BulkError, Verbatim, Counted, text}
use Rattle.resp_value.specs.Rules.{Rules}
use Rattle.resp_value.specs.declared.cause.Limit.{Limit}
use Rattle.resp_value.specs.declared.cause.Limit.TheVariants.{Depth, Length, Items, Total}
use Rattle.resp_value.specs.declared.version.Version.{Version}
use Rattle.resp_value.specs.declared.version.Version.TheVariants.{Two, Three}

-- the form of Null in a version
abbrev pub null_form : Version → NullForm
null_form Two = BulkNull
null_form Three = PlainNull

-- the sign with which an integer is written
abbrev pub int_sign : ℤ → Sign
int_sign (pos n) = Unsigned
int_sign (negsuc n) = Minus

-- the absolute value of an integer
abbrev pub int_size : ℤ → ℕ
int_size (pos n) = n
int_size (negsuc n) = n + 1

-- the sign with which a big number is written
abbrev pub sign_of : Bool → Sign
sign_of true = Minus
sign_of false = Unsigned

-- the canonical encoding of a value without members
abbrev pub canonical_leaf : Version → Scalar → Leaf
canonical_leaf w d.Null = null (null_form w)
canonical_leaf w (d.Bool b) = truth b
canonical_leaf w (d.Int i) = numeral Int (int_sign i) (decimal (int_size i))
canonical_leaf w (d.Simple s) = line Simple s
canonical_leaf w (d.Error s) = line Error s
canonical_leaf w (d.Double s) = line Double s
canonical_leaf w (d.Bulk s) = string Bulk (decimal (length s)) s
canonical_leaf w (d.BulkError s) = string BulkError (decimal (length s)) s
canonical_leaf w (d.Verbatim format s) = string (Verbatim format) (decimal (length s + 4)) s
canonical_leaf w (d.Big negative digits) = numeral Big (sign_of negative) digits

-- the canonical encoding of a value
abbrev mutual
  pub canonical_tree : Version → Datum → Tree
  canonical_tree w (scalar s) = leaf (canonical_leaf w s)
  canonical_tree w (aggregate k xs) = node k (Counted (decimal (items_of k (d.count xs)))) (canonical_trees w xs)

  pub canonical_trees : Version → Data → Trees
  canonical_trees w d.none = none
  canonical_trees w (d.more x xs) = more (canonical_tree w x) (canonical_trees w xs)

-- the canonical text of a value in a version
abbrev pub canonical_text : Version → Datum → List ℕ
canonical_text w x = text (canonical_tree w x)

-- the content of a scalar that the program can hold
abbrev pub IsScalarValue : Scalar → Type 0
IsScalarValue d.Null = Unit {0}
IsScalarValue (d.Bool b) = Unit {0}
IsScalarValue (d.Int i) = (neg_ℤ (pos (2 ^ 63)) ≤ℤ i) × (i <ℤ pos (2 ^ 63))
IsScalarValue (d.Simple s) = IsLine s × IsText s
IsScalarValue (d.Error s) = IsLine s × IsText s
IsScalarValue (d.Double s) = IsLine s × IsText s × IsDouble s
IsScalarValue (d.Bulk s) = IsText s
IsScalarValue (d.BulkError s) = IsText s
IsScalarValue (d.Verbatim format s) = (length format ≡ 3) × IsText format × IsText s
IsScalarValue (d.Big negative digits) = IsKept negative digits

-- the members of a map are whole pairs, and the members of an attribute are whole pairs and one value
abbrev pub IsWhole : Kind → ℕ → Type 0
IsWhole Map n = n / 2 + n / 2 ≡ n
IsWhole Attr n = n / 2 + n / 2 + 1 ≡ n
IsWhole _ n = Unit {0}

-- the values that the program can hold
abbrev mutual
  pub IsValue : Datum → Type 0
  IsValue (scalar s) = IsScalarValue s
  IsValue (aggregate k xs) = IsWhole k (d.count xs) × AreValues xs

  pub AreValues : Data → Type 0
  AreValues d.none = Unit {0}
  AreValues (d.more x xs) = IsValue x × AreValues xs

-- version 2 has the type of this scalar
abbrev pub IsScalarInTwo : Scalar → Type 0
IsScalarInTwo d.Null = Unit {0}
IsScalarInTwo (d.Int i) = Unit {0}
IsScalarInTwo (d.Simple s) = Unit {0}
IsScalarInTwo (d.Error s) = Unit {0}
IsScalarInTwo (d.Bulk s) = Unit {0}
IsScalarInTwo _ = ⊥

-- version 2 has this kind of aggregate
abbrev pub IsKindInTwo : Kind → Type 0
IsKindInTwo Array = Unit {0}
IsKindInTwo _ = ⊥

-- version 2 has each type in the value
abbrev mutual
  pub IsInTwo : Datum → Type 0
  IsInTwo (scalar s) = IsScalarInTwo s
  IsInTwo (aggregate k xs) = IsKindInTwo k × AreInTwo xs

  pub AreInTwo : Data → Type 0
  AreInTwo d.none = Unit {0}
  AreInTwo (d.more x xs) = IsInTwo x × AreInTwo xs

-- the version has each type in the value
abbrev pub HasTypes : Version → Datum → Type 0
HasTypes Two x = IsInTwo x
HasTypes Three x = Unit {0}

-- an aggregate of this kind may be inside another value
abbrev pub IsKindBelow : Kind → Type 0
IsKindBelow Push = ⊥
IsKindBelow _ = Unit {0}

-- the value holds no push, and is not a push itself
abbrev mutual
  pub HasNoPush : Datum → Type 0
  HasNoPush (scalar s) = Unit {0}
  HasNoPush (aggregate k xs) = IsKindBelow k × HaveNoPush xs

  pub HaveNoPush : Data → Type 0
  HaveNoPush d.none = Unit {0}
  HaveNoPush (d.more x xs) = HasNoPush x × HaveNoPush xs

-- the value holds no push inside another value
abbrev pub HasPushAtTop : Datum → Type 0
HasPushAtTop (scalar s) = Unit {0}
HasPushAtTop (aggregate k xs) = HaveNoPush xs

-- the scalar is not a double
abbrev pub IsScalarButDouble : Scalar → Type 0
IsScalarButDouble (d.Double s) = ⊥
IsScalarButDouble _ = Unit {0}

-- the value holds no double
abbrev mutual
  pub HasNoDouble : Datum → Type 0
  HasNoDouble (scalar s) = IsScalarButDouble s
  HasNoDouble (aggregate k xs) = HaveNoDouble xs

  pub HaveNoDouble : Data → Type 0
  HaveNoDouble d.none = Unit {0}
  HaveNoDouble (d.more x xs) = HasNoDouble x × HaveNoDouble xs

-- if the limits forbid doubles, the value holds no double
abbrev pub AllowsDoubles : Bounds → Datum → Type 0
AllowsDoubles limits x = limits.doubles ≡ false → HasNoDouble x

-- the conditions under which a value's canonical text is an encoding of the value
pub record Fits (rules : Rules) (x : Datum) : Type 0 where
  pub allows_doubles : AllowsDoubles rules.limits x
  pub has_types : HasTypes rules.version x
  pub push_at_top : HasPushAtTop x
  pub within_depth : depth x ≤ rules.limits.depth
  pub within_length : longest x ≤ rules.limits.length
  pub within_items : most_items x ≤ rules.limits.items
  pub within_total : length (canonical_text rules.version x) ≤ rules.limits.total

-- the value exceeds this limit, and no limit before it
abbrev pub IsFirstOver : Rules → Datum → Limit → Type 0
IsFirstOver rules x Depth = rules.limits.depth < depth x
IsFirstOver rules x Length = (depth x ≤ rules.limits.depth) × (rules.limits.length < longest x)
IsFirstOver rules x Items = (depth x ≤ rules.limits.depth) × (longest x ≤ rules.limits.length) ×
    (rules.limits.items < most_items x)
IsFirstOver rules x Total = (depth x ≤ rules.limits.depth) × (longest x ≤ rules.limits.length) ×
    (most_items x ≤ rules.limits.items) × (rules.limits.total < length (canonical_text rules.version x))
