use Rattle.std.proofs.Common.{◌<◌, ℕ, [], drop}
use Rattle.std.specs.Prelude.{slice_index_or}
use Rattle.resp_commands.specs.Keys.{AreKeys, IsKey}
use Rattle.resp_commands.specs.declared.command.Keys.{Keys}
use Rattle.resp_tap.specs.Keyed.{IsLike}
use Rattle.resp_tap.proofs.keys.has_key_at.Given as goal

-- no word before this place is a key that the glob matches
abbrev pub invariant-loop-place : goal.invariant-loop-place
invariant-loop-place l =
    (keys : Keys) → AreKeys keys (drop 1 l.words) l.places → (before : ℕ) → before < l.place → IsKey keys (drop 1 l.words) before →
    IsLike l.glob (slice_index_or l.words before []) → ⊥
