use Rattle.std.proofs.Common.{[], ◌++◌, sym, append-nil, ap, ◌∙◌}
use Rattle.resp_scan.specs.Kinds.{text_kind_of}
use Rattle.resp_cli_stream.specs.Pages.{text_words}
use Rattle.resp_cli_stream.specs.Lines.{page_of}
use Rattle.resp_cli_stream.specs.Pages.{beginning}
use Rattle.resp_cli_stream.proofs.PageLemmas.{no_page, first_fails, second_fails}
use Rattle.resp_cli_stream.proofs.lines.Lines.text.Goals as goal

pub returns-in_err-begin_line : goal.returns-in_err-begin_line
returns-in_err-begin_line g c =
    let first = beginning (page_of c.args.self.now) in
    let words = (text_words (text_kind_of c.args.kind)) in
    (first_fails c.from_residual.result _ _ _ _ first words _ c.from_residual.ensures.0 (sym (append-nil (first ++ words))) c.in_err-begin_line.ensures, no_page c.from_residual.result _ c.from_residual.ensures.0)

pub returns-in_err-write_head : goal.returns-in_err-write_head
returns-in_err-write_head g c =
    let first = beginning (page_of c.args.self.now) in
    let words = (text_words (text_kind_of c.args.kind)) in (
      second_fails c.from_residual-in_err-write_head.result _ _ _ _ _ _ first words [] _ c.from_residual-in_err-write_head.ensures.0
          (ap (λ z. first ++ z) (append-nil words) ∙ sym (append-nil (first ++ words))) c.in_ok-begin_line.ensures c.in_err-write_head.ensures,
      no_page c.from_residual-in_err-write_head.result _ c.from_residual-in_err-write_head.ensures.0,
    )
