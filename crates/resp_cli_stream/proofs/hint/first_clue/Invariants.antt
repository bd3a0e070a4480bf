use Rattle.std.proofs.Common.{◌≡◌, ◌++◌, List, length}
use Rattle.std.specs.List.{Contains}
use Rattle.resp_cli_stream.specs.Hints.{Shows, clues}
use Rattle.resp_cli_stream.specs.declared.hint.Clue.{Clue}
use Rattle.resp_cli_stream.proofs.hint.first_clue.Given as goal

abbrev pub invariant-loop-clue : goal.invariant-loop-clue
invariant-loop-clue l = record {
  passed : List Clue;
  whole : clues ≡ passed ++ l.rest;
  not_shown : (other : Clue) → Contains passed other → Shows other l.before l.from → ⊥;
}

abbrev pub decreases-loop-clue : goal.decreases-loop-clue
decreases-loop-clue l = length l.rest
