use Rattle.resp_scan.proofs.Wholes.ShortNumbers.{short_is_head}
use Rattle.resp_scan.proofs.whole.head_of.Goals as goal

pub returns-then-short-most-clause-begins : goal.returns-then-short-most-clause-begins
returns-then-short-most-clause-begins c = short_is_head c.args.text.now c.args.kind c.in-Some.short.head c.in-Some.short.count
    c.if-text-ge5.true c.if-text-kind.true c.in-Some.ensures
