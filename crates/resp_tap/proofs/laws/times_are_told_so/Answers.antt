use Rattle.std.proofs.Common.{refl}
use Rattle.resp_tap.proofs.laws.times_are_told_so.Goals as goal

pub returns : goal.returns
returns c = record { midnight = refl; morning = refl; last_of_day = refl; whole_seconds_left_out = refl }
