use Rattle.std.proofs.Common.{◌≡◌, length}
use Rattle.resp_commands.proofs.Migrated.{Passed}
use Rattle.resp_commands.proofs.migrate.words_before_keys.Given as goal

abbrev pub invariant-loop-word : goal.invariant-loop-word
invariant-loop-word g l =
    (l.left ≡ length (g.A.Arguments.words l.words)) × (l.total ≡ length (g.A.Arguments.words l.initial.words)) ×
    Passed (g.A.Arguments.words l.initial.words) (g.A.Arguments.words l.words)

abbrev pub decreases-loop-word : goal.decreases-loop-word
decreases-loop-word g l = length (g.A.Arguments.words l.words)
