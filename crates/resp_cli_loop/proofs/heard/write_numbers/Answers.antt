use Rattle.std.proofs.Common.{◌++◌, codes, decimal}
use Rattle.resp_print.proofs.WrittenLemmas.{writes_next, writes_part}
use Rattle.resp_cli_loop.proofs.heard.write_numbers.Goals as goal

pub returns-in_err-write_number : goal.returns-in_err-write_number
returns-in_err-write_number g c =
    writes_part c.from_residual.result _ _ _ _ (c.args.words.now ++ decimal c.args.first ++ c.args.between.now) (decimal c.args.second ++ codes "\n")
    c.from_residual.ensures.0 c.in_err-write_number.ensures

pub returns : goal.returns
returns g c =
    writes_next c.write_number-2.result _ _ _ _ _ _ (c.args.words.now ++ decimal c.args.first ++ c.args.between.now)
    (decimal c.args.second ++ codes "\n") c.in_ok-write_number.ensures c.write_number-2.ensures
