use Rattle.std.proofs.Common.{ap, refl, ◌++◌}
use Rattle.resp_cli_stream.specs.Lines.{page_of}
use Rattle.resp_cli_stream.specs.Pages.{of_line}
use Rattle.resp_print.specs.Shown.{indentation}
use Rattle.resp_cli_stream.proofs.PageLemmas.{both_written, first_fails}
use Rattle.resp_cli_stream.proofs.lines.Lines.begin_line.Goals as goal

pub returns-in_err-write_of : goal.returns-in_err-write_of
returns-in_err-write_of g c =
    first_fails c.from_residual.result _ _ _ _ (of_line (page_of c.args.self.now).open_lines) _ _ c.from_residual.ensures.0 refl c.in_err-write_of.ensures

pub returns : goal.returns
returns g c =
    both_written c.write_indentation.result _ _ _ _ _ _ (of_line (page_of c.args.self.now).open_lines) (indentation c.level-level.result) _
    (ap (λ n. of_line (page_of c.args.self.now).open_lines ++ indentation n) c.level-level.ensures.value) c.in_ok-write_of.ensures c.write_indentation.ensures
