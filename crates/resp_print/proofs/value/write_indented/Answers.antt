use Rattle.resp_print.specs.Shown.{indentation}
use Rattle.resp_print.proofs.WrittenLemmas.{writes_next, writes_part}
use Rattle.resp_print.proofs.value.write_indented.Goals as goal

pub returns-in_err-write_indentation : goal.returns-in_err-write_indentation
returns-in_err-write_indentation g c =
    writes_part c.from_residual.result _ _ _ _ (indentation c.args.level) c.args.words.now c.from_residual.ensures.0 c.in_err-write_indentation.ensures

pub returns : goal.returns
returns g c =
    writes_next c.write_text.result _ _ _ _ _ _ (indentation c.args.level) c.args.words.now c.in_ok-write_indentation.ensures c.write_text.ensures
