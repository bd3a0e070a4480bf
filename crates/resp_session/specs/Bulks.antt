-- Bulk strings in memory.
use Rattle.std.specs.Prelude.{◌≡◌, ℕ, List, []}
use Rattle.resp_value.specs.Values.{datum_of, content_bytes}
use Rattle.resp_value.specs.declared.value.Value.{Value}
use Rattle.resp_value.specs.declared.value.Value.TheVariants.{Bulk}
use Rattle.resp_session.specs.Replies.{bulk_string}

-- the bytes of a bulk string, and no bytes of any other value
abbrev pub bulk_bytes : Value → List ℕ
bulk_bytes (Bulk content) = content_bytes content
bulk_bytes _ = []

-- the value is a bulk string
abbrev pub IsBulk : Value → Type 0
IsBulk x = datum_of x ≡ bulk_string (bulk_bytes x)
