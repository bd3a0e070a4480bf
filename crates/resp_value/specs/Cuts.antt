-- Cut values: of each text only the first bytes are kept, and beside them the lengths of the longer texts.
use Rattle.std.specs.Prelude.{◌≡◌, ℕ, suc, nat_lt, if◌then◌else◌, List, [], ◌∷◌, ◌++◌, length, take}
use Rattle.resp_value.specs.Data.{Scalar, Datum, Data, scalar, aggregate, none, more}
use Rattle.resp_value.specs.Data as d
use Rattle.resp_value.specs.Values.{datum_of}
use Rattle.resp_value.specs.declared.cut_value.CutValue.{CutValue}

-- the first bytes of a text: one byte more than is shown, so that a longer text can be told from one that is not
abbrev pub kept_part : ℕ → List ℕ → List ℕ
kept_part shown text = take (suc shown) text

-- a value without members, with the first bytes of its text; doubles and the digits of big numbers are kept whole
abbrev pub cut_scalar : ℕ → Scalar → Scalar
cut_scalar shown d.Null = d.Null
cut_scalar shown (d.Bool b) = d.Bool b
cut_scalar shown (d.Int i) = d.Int i
cut_scalar shown (d.Simple text) = d.Simple (kept_part shown text)
cut_scalar shown (d.Error text) = d.Error (kept_part shown text)
cut_scalar shown (d.Double text) = d.Double text
cut_scalar shown (d.Bulk text) = d.Bulk (kept_part shown text)
cut_scalar shown (d.BulkError text) = d.BulkError (kept_part shown text)
cut_scalar shown (d.Verbatim format text) = d.Verbatim format (kept_part shown text)
cut_scalar shown (d.Big negative digits) = d.Big negative digits

-- a value, with the first bytes of each text
abbrev mutual
  pub cut : ℕ → Datum → Datum
  cut shown (scalar s) = scalar (cut_scalar shown s)
  cut shown (aggregate k xs) = aggregate k (cut_each shown xs)

  pub cut_each : ℕ → Data → Data
  cut_each shown none = none
  cut_each shown (more x xs) = more (cut shown x) (cut_each shown xs)

-- the length of a text, if it has more bytes than are shown
abbrev pub longer : ℕ → ℕ → List ℕ
longer shown count = if nat_lt shown count then count ∷ [] else []

-- the length of the text of a value without members, if it is longer; doubles and big numbers have none
abbrev pub scalar_lengths : ℕ → Scalar → List ℕ
scalar_lengths shown d.Null = []
scalar_lengths shown (d.Bool b) = []
scalar_lengths shown (d.Int i) = []
scalar_lengths shown (d.Simple text) = longer shown (length text)
scalar_lengths shown (d.Error text) = longer shown (length text)
scalar_lengths shown (d.Double text) = []
scalar_lengths shown (d.Bulk text) = longer shown (length text)
scalar_lengths shown (d.BulkError text) = longer shown (length text)
scalar_lengths shown (d.Verbatim format text) = longer shown (length text)
scalar_lengths shown (d.Big negative digits) = []

-- the lengths of the texts of a value that have more bytes than are shown, in the order of the texts
abbrev mutual
  pub cut_lengths : ℕ → Datum → List ℕ
  cut_lengths shown (scalar s) = scalar_lengths shown s
  cut_lengths shown (aggregate k xs) = lengths_of_each shown xs

  pub lengths_of_each : ℕ → Data → List ℕ
  lengths_of_each shown none = []
  lengths_of_each shown (more x xs) = cut_lengths shown x ++ lengths_of_each shown xs

-- the first bytes of each text of a value were kept, and the lengths of its longer texts
pub record IsCutOf (shown : ℕ) (x : Datum) (kept : CutValue) : Type 0 where
  pub value : datum_of kept.value ≡ cut shown x
  pub lengths : kept.lengths.items ≡ cut_lengths shown x
