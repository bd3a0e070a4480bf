use Rattle.std.proofs.Common.{◌≡◌, ℕ, ◌<◌, get_or}
use Rattle.std.specs.Char.{to_ascii_lowercase}
use Rattle.resp_session.proofs.names.is_name.Given as goal

abbrev pub invariant-loop-index : goal.invariant-loop-index
invariant-loop-index l = record {
  same : (i : ℕ) → i < l.index → to_ascii_lowercase (get_or l.word i 0) ≡ get_or l.name i 0;
}
