use Rattle.std.proofs.Common.{decimal}
use Rattle.resp_print.proofs.WrittenLemmas.{writes_next, writes_part}
use Rattle.resp_cli_args.proofs.Tried.{counts_parts}
use Rattle.resp_cli_stream.proofs.check.write_counts.Goals as goal

pub returns-in_err-write_number : goal.returns-in_err-write_number
returns-in_err-write_number g c =
    rw (counts_parts (decimal c.args.totals.values) (decimal c.args.totals.bytes))
    (writes_part c.from_residual.result _ _ _ _ _ _ c.from_residual.ensures.0 c.in_err-write_number.ensures)

pub returns : goal.returns
returns g c =
    rw (counts_parts (decimal c.args.totals.values) (decimal c.args.totals.bytes))
    (writes_next c.write_number-2.result _ _ _ _ _ _ _ _ c.in_ok-write_number.ensures c.write_number-2.ensures)
