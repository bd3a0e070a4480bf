use Rattle.std.proofs.Common.{◌≡◌, ◌+◌, ◌-◌, arith, drop, subst, take}
use Rattle.resp_print.specs.Shown.{quoted_text}
use Rattle.resp_print.proofs.Quoted.{quoted-front}
use Rattle.resp_print.proofs.text.plain_length.Goals as goal

pub loop-length-preserved : goal.loop-length-preserved
loop-length-preserved c =
    let w = c.loop-length.invariant in
    let n = c.loop-length.length in
    let rest = drop n c.args.text.now in
    let run : (n + 64) - n ≡ 64 = omega arith in
    record {
      within = omega (arith, c.loop-length-test.true, w.within);
      plain = quoted-front c.args.text.now n 64 w.plain (subst (λ m. quoted_text (take m rest) ≡ take m rest) run
          (c.is_all_plain.ensures c.if-is_all_plain.true));
    }
