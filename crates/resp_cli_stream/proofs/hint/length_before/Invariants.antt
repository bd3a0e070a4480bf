use Rattle.std.proofs.Common.{◌+◌, ◌-◌, ◌<◌, ℕ, length, take}
use Rattle.resp_cli_stream.specs.Hints.{EndsWithLength}
use Rattle.resp_cli_stream.proofs.hint.length_before.Given as goal

abbrev pub invariant-loop-at : goal.invariant-loop-at
invariant-loop-at l = record {
  none_before : (i : ℕ) → i < l.at → EndsWithLength (length l.before - i) (take i l.before) → ⊥;
}

abbrev pub decreases-loop-at : goal.decreases-loop-at
decreases-loop-at l = length l.before + 1 - l.at
