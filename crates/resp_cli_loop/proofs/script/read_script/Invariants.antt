use Rattle.std.proofs.Common.{ℕ, List, length}
use Rattle.resp_cli_loop.proofs.ScriptReading.{HaveRead}
use Rattle.resp_cli_loop.proofs.script.read_script.Given as goal

abbrev pub invariant-loop-content : goal.invariant-loop-content
invariant-loop-content l = (done : List (List ℕ)) × HaveRead l.bytes l.rest done l.line l.clients l.steps.items

abbrev pub decreases-loop-content : goal.decreases-loop-content
decreases-loop-content l = length l.rest
