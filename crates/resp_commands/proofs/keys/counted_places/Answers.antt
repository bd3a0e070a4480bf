use Rattle.std.proofs.Common.{ap, arith, length, length-drop}
use Rattle.resp_commands.proofs.keys.counted_places.Goals as goal

pub overflow_add-result : goal.overflow_add-result
overflow_add-result g c =
    omega (
      arith,
      ap length c.in_ok-word.ensures.steps,
      ap length c.skip.ensures,
      length-drop c.saturating_sub-skipped.result (g.A.Arguments.words c.args.arguments),
      c.left-total.ensures,
      c.left.ensures,
      c.in_ok-count.ensures.within,
      c.from-after.ensures,
    )
