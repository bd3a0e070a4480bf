use Rattle.std.proofs.Common.{rules, ◌++◌, codes, sym, append-nil}
use Rattle.std.specs.Fmt.{signed_decimal}
use Rattle.resp_cli_stream.specs.Lines.{page_of}
use Rattle.resp_cli_stream.specs.Pages.{beginning}
use Rattle.resp_cli_stream.proofs.PageLemmas.{no_page, first_fails, int_fails}
use Rattle.resp_cli_stream.proofs.lines.Lines.int.Goals as goal

pub returns-in_err-begin_line : goal.returns-in_err-begin_line
returns-in_err-begin_line g c =
    let first = beginning (page_of c.args.self.now) in
    let words = (codes "int " ++ signed_decimal c.args.number ++ codes "\n") in
    (first_fails c.from_residual.result _ _ _ _ first words _ c.from_residual.ensures.0 (sym (append-nil (first ++ words))) c.in_err-begin_line.ensures, no_page c.from_residual.result _ c.from_residual.ensures.0)

pub returns-in_err-write_number : goal.returns-in_err-write_number
returns-in_err-write_number g c = (
  int_fails c.from_residual-in_err-write_number.result _ _ _ _ _ _ (beginning (page_of c.args.self.now)) _ c.args.number (search rules)
      c.from_residual-in_err-write_number.ensures.0 c.in_ok-begin_line.ensures c.in_err-write_number.ensures,
  no_page c.from_residual-in_err-write_number.result _ c.from_residual-in_err-write_number.ensures.0,
)
