use Rattle.std.proofs.Common.{refl}
use Rattle.resp_print.specs.Shown.{indentation}
use Rattle.resp_cli_stream.proofs.PageLemmas.{both_written, first_fails}
use Rattle.resp_cli_stream.proofs.lines.write_indented.Goals as goal

pub returns-in_err-write_indentation : goal.returns-in_err-write_indentation
returns-in_err-write_indentation g c =
    first_fails c.from_residual.result _ _ _ _ (indentation c.args.level) c.args.line.now _ c.from_residual.ensures.0 refl c.in_err-write_indentation.ensures

pub returns : goal.returns
returns g c = both_written c.write_text.result _ _ _ _ _ _ (indentation c.args.level) c.args.line.now _ refl c.in_ok-write_indentation.ensures
    c.write_text.ensures
