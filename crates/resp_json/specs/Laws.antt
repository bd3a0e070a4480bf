-- Statements that have to be true if the mapping to JSON keeps every value.
use Rattle.std.specs.Prelude.{◌≡◌}
use Rattle.resp_value.specs.Canonical.{IsValue}
use Rattle.resp_value.specs.Data.{Datum}
use Rattle.resp_json.specs.Json.{json_of}

-- two values with the same JSON text are equal
abbrev pub EqualJsonMeansEqualValues : Type 0
EqualJsonMeansEqualValues = (x y : Datum) → IsValue x → IsValue y → json_of x ≡ json_of y → x ≡ y
