-- The values of replies.
use Rattle.std.specs.Prelude.{ℕ, pos, List, [], ◌∷◌, Option, None, Some, codes}
use Rattle.resp_value.specs.Data.{Datum, scalar, aggregate, none, data_of_list, in_turn}
use Rattle.resp_value.specs.Data as d
use Rattle.resp_value.specs.declared.version.Version.{Version}
use Rattle.resp_value.specs.declared.version.Version.TheVariants.{Two, Three}

-- a simple string
abbrev pub simple_string : List ℕ → Datum
simple_string text = scalar (d.Simple text)

-- an error
abbrev pub error : List ℕ → Datum
error text = scalar (d.Error text)

-- a bulk string
abbrev pub bulk_string : List ℕ → Datum
bulk_string content = scalar (d.Bulk content)

-- an integer that is not below zero
abbrev pub natural : ℕ → Datum
natural n = scalar (d.Int (pos n))

-- a null
abbrev pub null : Datum
null = scalar d.Null

-- a bulk string if there is a value, and otherwise a null
abbrev pub bulk_string_or_null : Option (List ℕ) → Datum
bulk_string_or_null None = null
bulk_string_or_null (Some content) = bulk_string content

-- the number of a version in HELLO
abbrev pub version_number : Version → ℕ
version_number Two = 2
version_number Three = 3

-- the description of the session with this number in the reply to HELLO
abbrev pub hello_pairs : Version → ℕ → List (Datum × Datum)
hello_pairs version id =
    (bulk_string (codes "server"), bulk_string (codes "resp_loop")) ∷
    (bulk_string (codes "version"), bulk_string (codes "1.0.0")) ∷
    (bulk_string (codes "proto"), natural (version_number version)) ∷
    (bulk_string (codes "id"), natural id) ∷
    (bulk_string (codes "mode"), bulk_string (codes "standalone")) ∷
    (bulk_string (codes "role"), bulk_string (codes "master")) ∷
    (bulk_string (codes "modules"), aggregate d.Array none) ∷ []

-- a map in version 3, and in version 2 an array of keys and values in turn
abbrev pub hello_reply : Version → ℕ → Datum
hello_reply Two id = aggregate d.Array (data_of_list (in_turn (hello_pairs Two id)))
hello_reply Three id = aggregate d.Map (data_of_list (in_turn (hello_pairs Three id)))
