-- The data of a value in memory.
use Rattle.std.specs.Prelude.{ℕ, List}
use Rattle.std.specs.Prelude.{Bool as Truth}
use Rattle.resp_value.specs.Data.{Datum, Data, scalar, aggregate}
use Rattle.resp_value.specs.Data as d
use Rattle.resp_value.specs.declared.line.Line.{Line}
use Rattle.resp_value.specs.declared.content.Content.{Content}
use Rattle.resp_value.specs.declared.digits.Digits.{Digits}
use Rattle.resp_value.specs.declared.double.Double as double
use Rattle.resp_value.specs.declared.value.Value.{Value, Row_of-Value, end_of-Value, more_of-Value, Row_of-PairList-pairs-2, end_of-PairList-pairs-2, more_of-PairList-pairs-2}
use Rattle.resp_value.specs.declared.value.Members.{Members, out-Members}
use Rattle.resp_value.specs.declared.value.PairList.{PairList, out-PairList}
use Rattle.resp_value.specs.declared.value.Value.TheVariants.{Null, Bool, Int, Simple, Error, Double, Bulk, BulkError, Verbatim, Big, Array', Set', Map', Attr', Push'}

-- the bytes of a line
abbrev pub line_text : Line → List ℕ
line_text line = line.text.items

-- the text of a double
abbrev pub double_text : double.Double → List ℕ
double_text x = x.text.items

-- the bytes of a content
abbrev pub content_bytes : Content → List ℕ
content_bytes content = content.bytes.items

-- whether a big number is below zero
abbrev pub is_negative : Digits → Truth
is_negative digits = digits.negative

-- the digits of a big number
abbrev pub digits_text : Digits → List ℕ
digits_text digits = digits.digits.items

-- the members of an array, a set or a push
abbrev pub list_of : Members → List Value
list_of members = (out-Members members).items.items

-- the pairs of a map or an attribute
abbrev pub pairs_of : PairList → List (Value × Value)
pairs_of pairs = (out-PairList pairs).pairs.items

-- data with one more datum after them
abbrev pub extended : Data → Datum → Data
extended d.none x = d.more x d.none
extended (d.more y ys) x = d.more y (extended ys x)

abbrev mutual
  -- the data of a value
  pub datum_of : Value → Datum
  datum_of Null = scalar d.Null
  datum_of (Bool b) = scalar (d.Bool b)
  datum_of (Int i) = scalar (d.Int i)
  datum_of (Simple line) = scalar (d.Simple (line_text line))
  datum_of (Error line) = scalar (d.Error (line_text line))
  datum_of (Double x) = scalar (d.Double (double_text x))
  datum_of (Bulk content) = scalar (d.Bulk (content_bytes content))
  datum_of (BulkError content) = scalar (d.BulkError (content_bytes content))
  datum_of (Verbatim format content) = scalar (d.Verbatim format (content_bytes content))
  datum_of (Big digits) = scalar (d.Big (is_negative digits) (digits_text digits))
  datum_of (Array' shape row) = aggregate d.Array (data_of_row row)
  datum_of (Set' shape row) = aggregate d.Set (data_of_row row)
  datum_of (Map' shape row) = aggregate d.Map (data_of_pairs row)
  datum_of (Attr' shape row pairs annotated) = aggregate d.Attr (extended (data_of_pairs row) (datum_of annotated))
  datum_of (Push' shape row) = aggregate d.Push (data_of_row row)

  -- the members of a value, as the type stores them
  pub data_of_row : {m : _} → Row_of-Value m → Data
  data_of_row end_of-Value = d.none
  data_of_row (more_of-Value x rest) = d.more (datum_of x) (data_of_row rest)

  -- keys and values in turn, as the type stores them
  pub data_of_pairs : {m : _} → Row_of-PairList-pairs-2 m → Data
  data_of_pairs end_of-PairList-pairs-2 = d.none
  data_of_pairs (more_of-PairList-pairs-2 k x rest) = d.more (datum_of k) (d.more (datum_of x) (data_of_pairs rest))

-- the data of a key and its value
abbrev pub pair_data : Value × Value → Datum × Datum
pair_data pair = (datum_of pair.0, datum_of pair.1)
