use Rattle.std.proofs.Common.{◌≡◌, ◌+◌, length}
use Rattle.resp_commands.proofs.KeyLemmas.{Seen}
use Rattle.resp_commands.proofs.keys.find_both.Given as goal

abbrev pub invariant-loop-place : goal.invariant-loop-place
invariant-loop-place g l = record {
  left : l.place + length (g.A.Arguments.words l.words) ≡ length (g.A.Arguments.words l.fn.words);
  first : Seen l.first (g.A.Arguments.words l.fn.words) (g.A.Arguments.words l.words) l.place l.found.first;
  second : Seen l.second (g.A.Arguments.words l.fn.words) (g.A.Arguments.words l.words) l.place l.found.second;
}
