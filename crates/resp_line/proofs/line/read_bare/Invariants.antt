use Rattle.std.proofs.Common.{◌≡◌, ◌++◌, List, ℕ, length, true}
use Rattle.std.specs.List.{AllByRecursion}
use Rattle.resp_line.specs.Lines.{is_bare}
use Rattle.resp_line.proofs.line.read_bare.Given as goal

abbrev pub invariant-loop-byte : goal.invariant-loop-byte
invariant-loop-byte l = record {
  read : (bare : List ℕ) × (l.word.items ≡ l.fn.word.items ++ bare) × AllByRecursion (λ b. is_bare b ≡ true) bare × (l.text ≡ bare ++ l.rest);
}

abbrev pub decreases-loop-byte : goal.decreases-loop-byte
decreases-loop-byte l = length l.rest
