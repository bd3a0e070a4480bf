use Rattle.std.proofs.Common.{◌++◌, codes, decimal}
use Rattle.resp_print.specs.Shown.{quoted_text}
use Rattle.resp_print.proofs.WrittenLemmas.{writes_next, writes_part}
use Rattle.resp_cli_stream.proofs.explain.write_margin.Goals as goal

pub returns-in_err-write_number : goal.returns-in_err-write_number
returns-in_err-write_number g c =
    writes_part c.from_residual.result _ _ _ _ (codes "  at byte " ++ decimal c.args.place ++ codes " of the input: ") (quoted_text c.args.before.now)
    c.from_residual.ensures.0 c.in_err-write_number.ensures

pub returns : goal.returns
returns g c =
    writes_next c.write_quoted.result _ _ _ _ _ _ (codes "  at byte " ++ decimal c.args.place ++ codes " of the input: ") (quoted_text c.args.before.now)
    c.in_ok-write_number.ensures c.write_quoted.ensures
