-- Words for the contracts of private functions: texts around a pair, and keys that are compared.
use Rattle.std.specs.Prelude.{ℕ, Bool, true, false, List, [], codes}
use Rattle.std.specs.Str.{bytes_eq}
use Rattle.resp_value.specs.Data.{Bulk, Datum, scalar}

-- the texts before a key, between a key and its value, and after the value: of a member of an object, or of an array
abbrev pub before_key : Bool → List ℕ
before_key true = []
before_key false = codes "["

abbrev pub before_value : Bool → List ℕ
before_value true = codes ":"
before_value false = codes ","

abbrev pub after_value : Bool → List ℕ
after_value true = []
after_value false = codes "]"

-- whether it is the bulk string with these bytes
abbrev pub is_bulk : List ℕ → Datum → Bool
is_bulk text (scalar (Bulk other)) = bytes_eq text other
is_bulk text _ = false
