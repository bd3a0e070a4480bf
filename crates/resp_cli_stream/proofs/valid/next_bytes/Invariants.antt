use Rattle.std.proofs.Common.{◌≡◌, ◌↔◌, ◌<◌, ◌++◌, ◌∷◌, ℕ, []}
use Rattle.std.specs.List.{Contains}
use Rattle.resp_cli_stream.specs.Valid.{GoesOn}
use Rattle.resp_value.specs.Rules.{rules_under}
use Rattle.resp_cli_stream.proofs.valid.next_bytes.Given as goal

abbrev pub invariant-loop-byte : goal.invariant-loop-byte
invariant-loop-byte l = record {
  last_byte : ℕ;
  is_text : l.text.items ≡ l.front ++ last_byte ∷ [];
  found : (b : ℕ) → Contains l.bytes.items b → b < l.byte;
  exact : (b : ℕ) → b < l.byte → Contains l.bytes.items b ↔ GoesOn (rules_under l.version l.limits) l.front l.goes_on b;
}
