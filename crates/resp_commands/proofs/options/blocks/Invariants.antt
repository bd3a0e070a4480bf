use Rattle.resp_commands.specs.Options.{Blocks}
use Rattle.resp_commands.proofs.options.blocks.Given as goal

abbrev pub invariant-loop-word : goal.invariant-loop-word
invariant-loop-word l = (Blocks l.fn.words → Blocks l.words) × (Blocks l.words → Blocks l.fn.words)
