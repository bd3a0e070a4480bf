use Rattle.std.proofs.Common.{◌+◌, ◌∷◌, length}
use Rattle.resp_commands.specs.Globs.{Matches, MatchesPieces, pieces_of, star}
use Rattle.resp_commands.proofs.glob.matches.Given as goal

-- the glob matches the text exactly if a star and the rest of the glob match the rest of the text
abbrev pub invariant-loop-next : goal.invariant-loop-next
invariant-loop-next l = record {
  back : MatchesPieces (star ∷ pieces_of l.later) l.rest → Matches l.glob l.text;
  forth : Matches l.glob l.text → MatchesPieces (star ∷ pieces_of l.later) l.rest;
}

abbrev pub decreases-loop-next : goal.decreases-loop-next
decreases-loop-next l = length l.later + length l.rest
