use Rattle.std.proofs.Common.{ap, length, arith, length-drop}
use Rattle.resp_flat.proofs.heads.is_line_end.Goals as goal

pub returns-then-buffer-at-lt2 : goal.returns-then-buffer-at-lt2
returns-then-buffer-at-lt2 c rest e =
    let long = ap length e in
    let left = length-drop c.args.at c.args.buffer.now in
    omega (arith, long, left, c.if-buffer-at-lt2.true)
