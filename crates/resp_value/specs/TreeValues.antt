-- The value of a tree, which does not depend on how the tree is written.
use Rattle.std.specs.Prelude.{ℕ, List}
use Rattle.resp_value.specs.Numbers.{Sign, signed_value, kept_digits, is_below_zero}
use Rattle.resp_value.specs.Data.{Scalar, Datum, Data, scalar, aggregate}
use Rattle.resp_value.specs.Data as d
use Rattle.resp_value.specs.Trees.{Tree, Trees, leaf, node, none, more, Leaf, line, numeral, null, truth, string, chunked, LineKind, Simple, Error, Double, NumberKind, Int, Big, StringKind, Bulk, BulkError, Verbatim, joined_content}

abbrev pub line_value : LineKind → List ℕ → Scalar
line_value Simple s = d.Simple s
line_value Error s = d.Error s
line_value Double s = d.Double s

abbrev pub number_value : NumberKind → Sign → List ℕ → Scalar
number_value Int sign digits = d.Int (signed_value sign digits)
number_value Big sign digits = d.Big (is_below_zero sign digits) (kept_digits digits)

abbrev pub string_value : StringKind → List ℕ → Scalar
string_value Bulk s = d.Bulk s
string_value BulkError s = d.BulkError s
string_value (Verbatim format) s = d.Verbatim format s

abbrev pub leaf_value : Leaf → Scalar
leaf_value (line k s) = line_value k s
leaf_value (numeral k sign digits) = number_value k sign digits
leaf_value (null form) = d.Null
leaf_value (truth b) = d.Bool b
leaf_value (string k digits s) = string_value k s
leaf_value (chunked chunks zeros) = d.Bulk (joined_content chunks)

abbrev mutual
  pub value : Tree → Datum
  value (leaf l) = scalar (leaf_value l)
  value (node k form ts) = aggregate k (values ts)

  pub values : Trees → Data
  values none = d.none
  values (more t ts) = d.more (value t) (values ts)
