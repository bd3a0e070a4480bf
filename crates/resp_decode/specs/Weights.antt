-- The weight of a partial value: three for each finished node and each open aggregate, and one for each byte of
-- content.
use Rattle.std.specs.Prelude.{ℕ, ◌+◌, Option, None, Some, List, [], ◌∷◌, length}
use Rattle.resp_value.specs.Data.{Kind, Scalar, Datum, Data, scalar, aggregate, none, more}
use Rattle.resp_value.specs.Data as d
use Rattle.resp_fronts.specs.Events.{Event, TextKind}
use Rattle.resp_fronts.specs.Events as e
use Rattle.resp_decode.specs.Builds.{Group, Text, Construction}

-- the number of content bytes of a scalar, including the format of a verbatim string and the digits of a big number
abbrev pub content_size : Scalar → ℕ
content_size d.Null = 0
content_size (d.Bool b) = 0
content_size (d.Int i) = 0
content_size (d.Simple s) = length s
content_size (d.Error s) = length s
content_size (d.Double s) = length s
content_size (d.Bulk s) = length s
content_size (d.BulkError s) = length s
content_size (d.Verbatim format s) = length format + length s
content_size (d.Big negative digits) = length digits

-- the weight of a value
abbrev mutual
  pub weight : Datum → ℕ
  weight (scalar s) = content_size s + 3
  weight (aggregate k xs) = weight_of_each xs + 3

  pub weight_of_each : Data → ℕ
  weight_of_each none = 0
  weight_of_each (more x xs) = weight x + weight_of_each xs

-- the weight of finished members
abbrev pub weight_of_all : List Datum → ℕ
weight_of_all [] = 0
weight_of_all (x ∷ xs) = weight x + weight_of_all xs

-- the weight of open aggregates with their finished members
abbrev pub weight_of_groups : List Group → ℕ
weight_of_groups [] = 0
weight_of_groups (g ∷ gs) = weight_of_all g.members + 3 + weight_of_groups gs

-- the number of bytes of a text's format
abbrev pub format_weight : TextKind → ℕ
format_weight (e.Verbatim format) = length format
format_weight _ = 0

-- the weight of the text that is being read
abbrev pub weight_of_text : Option Text → ℕ
weight_of_text None = 0
weight_of_text (Some t) = format_weight t.kind + length t.content

abbrev pub weight_of_whole : Option Datum → ℕ
weight_of_whole None = 0
weight_of_whole (Some x) = weight x

-- the weight of a partial value
abbrev pub weight_of : Construction → ℕ
weight_of b = weight_of_groups b.groups + weight_of_text b.text + weight_of_whole b.whole
