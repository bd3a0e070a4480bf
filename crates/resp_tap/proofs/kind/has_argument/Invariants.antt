use Rattle.std.proofs.Common.{◌≡◌, ◌-◌, ◌≤◌, drop, length}
use Rattle.resp_tap.specs.Kinds.{has_word}
use Rattle.resp_tap.proofs.kind.has_argument.Given as goal

abbrev pub invariant-loop-index : goal.invariant-loop-index
invariant-loop-index l = record {
  first : 1 ≤ l.index;
  rest : has_word l.name (drop 1 l.words) ≡ has_word l.name (drop l.index l.words);
}

abbrev pub decreases-loop-index : goal.decreases-loop-index
decreases-loop-index l = length l.words - l.index
