use Rattle.std.proofs.Common.{◌≡◌, length}
use Rattle.resp_cli_ask.specs.Lined.{are_lines, lines_after}
use Rattle.resp_cli_ask.proofs.lined.are_lines.Given as goal

-- the rest decides whether all bytes are lines
abbrev pub invariant-loop-first : goal.invariant-loop-first
invariant-loop-first l = are_lines l.bytes ≡ lines_after l.ends l.rest

abbrev pub decreases-loop-first : goal.decreases-loop-first
decreases-loop-first l = length l.rest
