-- The numbers of events, of texts and of aggregates, as include/resp.h names them.
use Rattle.std.specs.Prelude.{ℕ}
use Rattle.resp_scan.specs.declared.event.TextKind.{TextKind}
use Rattle.resp_scan.specs.declared.event.TextKind.TheVariants as text
use Rattle.resp_value.specs.declared.kind.OpenKind.{OpenKind}
use Rattle.resp_value.specs.declared.kind.OpenKind.TheVariants as kind

abbrev pub more_number : ℕ
more_number = 0

abbrev pub null_number : ℕ
null_number = 1

abbrev pub bool_number : ℕ
bool_number = 2

abbrev pub int_number : ℕ
int_number = 3

abbrev pub text_number : ℕ
text_number = 4

abbrev pub part_number : ℕ
part_number = 5

abbrev pub text_end_number : ℕ
text_end_number = 6

abbrev pub open_number : ℕ
open_number = 7

abbrev pub close_number : ℕ
close_number = 8

abbrev pub done_number : ℕ
done_number = 9

abbrev pub whole_number : ℕ
whole_number = 10

-- the number of each kind of text
abbrev pub text_form : TextKind → ℕ
text_form text.Simple = 0
text_form text.Error = 1
text_form text.Double = 2
text_form text.Bulk = 3
text_form text.BulkError = 4
text_form (text.Verbatim format) = 5
text_form (text.Big negative) = 6

-- the number of each kind of aggregate
abbrev pub kind_form : OpenKind → ℕ
kind_form kind.Array = 0
kind_form kind.Set = 1
kind_form kind.Map = 2
kind_form kind.Attr = 3
kind_form kind.Push = 4
