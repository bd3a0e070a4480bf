-- The meaning of a value's measure.
use Rattle.std.specs.Prelude.{◌≡◌, ◌↔◌, length, IsTrue}
use Rattle.resp_value.specs.Data.{Datum, Data, depth, greatest_depth, longest, longest_among, most_items, most_items_among}
use Rattle.resp_value.specs.Trees.{texts}
use Rattle.resp_value.specs.Canonical.{IsInTwo, AreInTwo, HasNoDouble, HaveNoDouble, HasNoPush, HaveNoPush, HasPushAtTop, canonical_text, canonical_trees}
use Rattle.resp_value.specs.declared.version.Version.{Version}
use Rattle.resp_encode.specs.Walks.Sizes.{IsSize, IsSaturated}
use Rattle.resp_encode.specs.declared.measure.Measure.{Measure}

-- the measure is that of the value
pub record Describes (version : Version) (x : Datum) (found : Measure) : Type 0 where
  pub in_two : IsTrue found.in_two ↔ IsInTwo x
  pub no_double : IsTrue found.no_double ↔ HasNoDouble x
  pub no_push : IsTrue found.no_push ↔ HasNoPush x
  pub push_at_top : IsTrue found.push_at_top ↔ HasPushAtTop x
  pub depth_found : IsSaturated found.depth (depth x)
  pub longest_found : found.longest ≡ longest x
  pub most_items_found : found.most_items ≡ most_items x
  pub size_found : IsSize found.size (length (canonical_text version x))

-- the measure is that of the members of a value
pub record DescribesEach (version : Version) (xs : Data) (found : Measure) : Type 0 where
  pub in_two : IsTrue found.in_two ↔ AreInTwo xs
  pub no_double : IsTrue found.no_double ↔ HaveNoDouble xs
  pub no_push : IsTrue found.no_push ↔ HaveNoPush xs
  pub depth_found : IsSaturated found.depth (greatest_depth xs)
  pub longest_found : found.longest ≡ longest_among xs
  pub most_items_found : found.most_items ≡ most_items_among xs
  pub size_found : IsSize found.size (length (texts (canonical_trees version xs)))
