use Rattle.std.proofs.Common.{inl, inr}
use Rattle.resp_frames.proofs.KnownHeads.{decided_by_words}
use Rattle.resp_frames.proofs.known_head.class_of_all.Goals as goal
use Rattle.resp_frames.proofs.known_head.class_of_all.Goals.{then-command-via-then-command, then-command-via-else-command+then-has_subcommands}

pub returns-then-command-clause-none : goal.returns-then-command-clause-none
returns-then-command-clause-none c =
    decided_by_words c.in_ok-command.command.now c.args.name.now c.in_ok-command.ensures.found c.in_ok-command.ensures.named
    (elim c.then-command.branch [
      | then-command-via-then-command w ↦ inl w.if-command.true
      | then-command-via-else-command+then-has_subcommands w ↦ inr (w.has_subcommands.ensures.0 w.if-has_subcommands.true)
    ])
