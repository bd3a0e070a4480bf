use Rattle.std.proofs.Common.{◌≡◌, drop}
use Rattle.resp_commands.proofs.arguments.skip.Given as goal

abbrev pub invariant-loop : goal.invariant-loop
invariant-loop g l = g.A.Arguments.words l.words ≡ drop l.counter (g.A.Arguments.words l.fn.words)
