use Rattle.resp_tap.proofs.Counting.{counts_replies}
use Rattle.resp_tap.proofs.laws.replies_are_counted.Goals as goal

pub returns : goal.returns
returns c = counts_replies
