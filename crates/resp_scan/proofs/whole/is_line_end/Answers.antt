use Rattle.std.proofs.Common.{arith}
use Rattle.resp_scan.proofs.Wholes.HeadNumbers.{no_line_end}
use Rattle.resp_scan.proofs.whole.is_line_end.Goals as goal

pub returns-then-text-index-lt2 : goal.returns-then-text-index-lt2
returns-then-text-index-lt2 c rest there =
    let (fits, cr, lf) = no_line_end c.args.text.now c.args.index rest there in
    omega (arith, fits, c.if-text-index-lt2.true)
