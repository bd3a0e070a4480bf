use Rattle.std.proofs.Common.{◌≡◌, ◌≤◌, ◌++◌, List, ℕ, length}
use Rattle.resp_line.specs.Lines.{ReadsUpTo}
use Rattle.resp_line.proofs.line.read_quoted.Given as goal

abbrev pub invariant-loop-byte : goal.invariant-loop-byte
invariant-loop-byte l = record {
  read : (content : List ℕ) × (l.word.items ≡ l.fn.word.items ++ content) ×
      ((more rest : List ℕ) → ReadsUpTo l.quote more l.rest rest → ReadsUpTo l.quote (content ++ more) l.fn.text rest);
  through : (content end : List ℕ) → ReadsUpTo l.quote content l.fn.text end → (more : List ℕ) × ReadsUpTo l.quote more l.rest end;
  short : length l.rest ≤ length l.fn.text;
}

abbrev pub decreases-loop-byte : goal.decreases-loop-byte
decreases-loop-byte l = length l.rest
