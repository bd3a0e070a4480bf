use Rattle.std.proofs.Common.{arith}
use Rattle.resp_encode.proofs.Pairs.{pair_tens, pair_ones}
use Rattle.resp_encode.proofs.digits.two_digits.Goals as goal

pub returns-clause-tens : goal.returns-clause-tens
returns-clause-tens c = pair_tens c.args.number (omega arith)

pub returns-clause-ones : goal.returns-clause-ones
returns-clause-ones c = pair_ones c.args.number (omega arith)
