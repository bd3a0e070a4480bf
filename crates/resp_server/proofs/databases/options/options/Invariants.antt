use Rattle.std.proofs.Common.{◌≡◌, length}
use Rattle.std.specs.Prelude.{None, option_map}
use Rattle.resp_server.specs.Deeds.{options_ask}
use Rattle.resp_server.proofs.databases.options.options.Given as goal

abbrev pub invariant-loop-option : goal.invariant-loop-option
invariant-loop-option l = record { read : options_ask l.version (option_map (λ n. n.now) l.name) l.words ≡ options_ask l.version None l.fn.words }

abbrev pub decreases-loop-option : goal.decreases-loop-option
decreases-loop-option l = length l.words
