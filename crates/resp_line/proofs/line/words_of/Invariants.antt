use Rattle.std.proofs.Common.{◌<◌, ◌++◌, List, ℕ, length}
use Rattle.resp_value.specs.Words.{texts_of}
use Rattle.resp_line.specs.Lines.{AreWords, FollowsBlanks, StartsWord}
use Rattle.resp_line.proofs.line.words_of.Given as goal

abbrev pub invariant-loop-rest : goal.invariant-loop-rest
invariant-loop-rest l = record {
  read : (after : List ℕ) × FollowsBlanks after l.rest × ((more : List (List ℕ)) → AreWords more after → AreWords (texts_of l.words.items ++ more) l.line) ×
      ((words : List (List ℕ)) → AreWords words l.line → (more : List (List ℕ)) × AreWords more after);
  starts : 0 < length l.rest → StartsWord l.rest;
}

abbrev pub decreases-loop-rest : goal.decreases-loop-rest
decreases-loop-rest l = length l.rest
