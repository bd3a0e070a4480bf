use Rattle.std.proofs.Common.{◌≡◌, drop, length}
use Rattle.std.specs.Prelude.{◌||◌}
use Rattle.resp_commands.specs.Globs.{class_length_after, is_in_any, members_after}
use Rattle.resp_commands.proofs.glob.members.Given as goal

-- the members so far were tried, and the rest of the class is that of the whole
abbrev pub invariant-loop-rest : goal.invariant-loop-rest
invariant-loop-rest l = record {
  fits : is_in_any l.byte (members_after 0 l.text) ≡ (l.fits || is_in_any l.byte (members_after 0 l.rest));
  rest : drop (class_length_after 0 l.text) l.text ≡ drop (class_length_after 0 l.rest) l.rest;
}

abbrev pub decreases-loop-rest : goal.decreases-loop-rest
decreases-loop-rest l = length l.rest
