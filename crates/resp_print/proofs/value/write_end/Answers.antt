use Rattle.std.proofs.Common.{◌++◌, codes, decimal}
use Rattle.resp_print.specs.Shown.{indentation}
use Rattle.resp_print.proofs.WrittenLemmas.{writes_next, writes_part}
use Rattle.resp_print.proofs.value.write_end.Goals as goal

pub returns-in_err-write_indentation : goal.returns-in_err-write_indentation
returns-in_err-write_indentation g c =
    writes_part c.from_residual.result _ _ _ _ (indentation c.args.level) (codes "end " ++ decimal c.args.items ++ codes "\n")
    c.from_residual.ensures.0 c.in_err-write_indentation.ensures

pub returns : goal.returns
returns g c =
    writes_next c.write_number.result _ _ _ _ _ _ (indentation c.args.level) (codes "end " ++ decimal c.args.items ++ codes "\n")
    c.in_ok-write_indentation.ensures c.write_number.ensures
