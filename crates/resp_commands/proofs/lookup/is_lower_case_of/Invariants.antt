use Rattle.std.proofs.Common.{◌≡◌, length}
use Rattle.resp_commands.proofs.Cases.{AreAlike}
use Rattle.resp_commands.proofs.lookup.is_lower_case_of.Given as goal

abbrev pub invariant-loop-i : goal.invariant-loop-i
invariant-loop-i l = (l.i-end ≡ length l.word) × (length l.word ≡ length l.text) × AreAlike l.word l.text l.i
