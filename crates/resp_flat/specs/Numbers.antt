-- The numbers of nodes, of texts and of aggregates, as include/resp.h names them.
use Rattle.std.specs.Prelude.{ℕ, ℤ, pos, Bool, true, false}
use Rattle.resp_value.specs.Data.{Kind, Array, Set, Map, Attr, Push}
use Rattle.resp_value.specs.Trees.{LineKind, Simple, Error, Double, StringKind, Bulk, BulkError, Verbatim}

-- the number of a boolean, and of a big number's sign
abbrev pub truth_number : Bool → ℤ
truth_number false = pos 0
truth_number true = pos 1

-- the number of each kind of aggregate
abbrev pub kind_form : Kind → ℕ
kind_form Array = 0
kind_form Set = 1
kind_form Map = 2
kind_form Attr = 3
kind_form Push = 4

-- the number of each kind of text on one line
abbrev pub line_form : LineKind → ℕ
line_form Simple = 0
line_form Error = 1
line_form Double = 2

-- the number of each kind of string
abbrev pub string_form : StringKind → ℕ
string_form Bulk = 3
string_form BulkError = 4
string_form (Verbatim format) = 5
