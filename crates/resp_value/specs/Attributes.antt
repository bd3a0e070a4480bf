-- A value without the attributes in front of it.
use Rattle.resp_value.specs.Data.{Datum, Data, scalar, aggregate, none, more, Array, Set, Map, Attr, Push}
use Rattle.resp_value.specs.Data as d

abbrev mutual
  -- the value without the attributes in front of it
  pub without_attributes : Datum → Datum
  without_attributes (scalar s) = scalar s
  without_attributes (aggregate Array xs) = aggregate Array xs
  without_attributes (aggregate Set xs) = aggregate Set xs
  without_attributes (aggregate Map xs) = aggregate Map xs
  without_attributes (aggregate Attr xs) = annotated_value xs
  without_attributes (aggregate Push xs) = aggregate Push xs

  -- the value that an attribute with these members annotates: its last member, without attributes of its own
  pub annotated_value : Data → Datum
  annotated_value none = scalar d.Null
  annotated_value (more x none) = without_attributes x
  annotated_value (more x (more y ys)) = annotated_value (more y ys)
