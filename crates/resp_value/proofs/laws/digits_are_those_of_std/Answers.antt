use Rattle.resp_value.proofs.StdDigits.{decimal-std}
use Rattle.resp_value.proofs.laws.digits_are_those_of_std.Goals as goal

pub returns : goal.returns
returns c = decimal-std
