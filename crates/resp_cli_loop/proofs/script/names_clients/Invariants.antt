use Rattle.std.proofs.Common.{length}
use Rattle.resp_cli_loop.specs.Scripts.{NameNoClients, lines_of}
use Rattle.resp_cli_loop.proofs.script.names_clients.Given as goal

abbrev pub invariant-loop-line : goal.invariant-loop-line
invariant-loop-line l =
    (NameNoClients (lines_of l.text) → NameNoClients (lines_of l.rest)) × (NameNoClients (lines_of l.rest) → NameNoClients (lines_of l.text))

abbrev pub decreases-loop-line : goal.decreases-loop-line
decreases-loop-line l = length l.rest
