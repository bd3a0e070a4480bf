use Rattle.std.proofs.Common.{◌≡◌, ◌≤◌, ◌-◌, ℕ, List, length, take}
use Rattle.resp_print.specs.Shown.{quoted_text}
use Rattle.resp_print.proofs.text.plain_length.Given as goal

-- the first bytes stand for themselves
pub record IsPlainFront (text : List ℕ) (n : ℕ) : Type 0 where
  pub within : n ≤ length text
  pub plain : quoted_text (take n text) ≡ take n text

abbrev pub invariant-loop-length : goal.invariant-loop-length
invariant-loop-length l = IsPlainFront l.text l.length

abbrev pub decreases-loop-length : goal.decreases-loop-length
decreases-loop-length l = length l.text - l.length

abbrev pub invariant-loop-length-2 : goal.invariant-loop-length-2
invariant-loop-length-2 l = IsPlainFront l.text l.length

abbrev pub decreases-loop-length-2 : goal.decreases-loop-length-2
decreases-loop-length-2 l = length l.text - l.length
