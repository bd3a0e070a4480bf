use Rattle.std.proofs.Common.{◌≡◌, ℕ, ◌≤◌, List, drop, length}
use Rattle.resp_commands.specs.Globs.{Matches}
use Rattle.resp_commands.proofs.glob.fit_to_star.Given as goal

-- the pieces so far fit one byte each, and the rest of the glob decides about the rest of a text
abbrev pub invariant-loop-later : goal.invariant-loop-later
invariant-loop-later l = record {
  count : ℕ;
  there : l.rest ≡ drop count l.text;
  back : Matches l.later l.rest → Matches l.glob l.text;
  forth : (other : List ℕ) → Matches l.glob other → Matches l.later (drop count other);
  shorter : length l.later ≤ length l.glob;
  no_longer : length l.rest ≤ length l.text;
}

abbrev pub decreases-loop-later : goal.decreases-loop-later
decreases-loop-later l = length l.later
