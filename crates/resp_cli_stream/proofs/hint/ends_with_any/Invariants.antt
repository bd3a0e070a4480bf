use Rattle.std.proofs.Common.{◌≡◌, ◌++◌, List, ℕ, length}
use Rattle.resp_cli_stream.proofs.HintLemmas.{AreDigits}
use Rattle.resp_cli_stream.proofs.hint.ends_with_any.Given as goal

abbrev pub invariant-loop-byte : goal.invariant-loop-byte
invariant-loop-byte l = record {
  last : List ℕ;
  whole : l.before ≡ l.rest ++ last;
  are_digits : AreDigits l.digits last;
}

abbrev pub decreases-loop-byte : goal.decreases-loop-byte
decreases-loop-byte l = length l.rest
