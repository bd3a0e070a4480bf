use Rattle.std.proofs.Common.{◌++◌, codes, sym, append_assoc}
use Rattle.resp_print.specs.Shown.{quoted_text}
use Rattle.resp_cli_stream.proofs.PageLemmas.{both_written, first_fails, second_fails}
use Rattle.resp_print.proofs.WrittenLemmas.{writes_next}
use Rattle.resp_cli_stream.proofs.lines.write_format.Goals as goal

pub returns-in_err-write_text : goal.returns-in_err-write_text
returns-in_err-write_text g c =
    let quoted = quoted_text c.args.format.now in
    first_fails c.from_residual.result _ _ _ _ (codes "verbatim \"") (quoted ++ codes "\" \"") _ c.from_residual.ensures.0
    (sym (append_assoc (codes "verbatim \"") quoted (codes "\" \""))) c.in_err-write_text.ensures

pub returns-in_err-write_quoted : goal.returns-in_err-write_quoted
returns-in_err-write_quoted g c =
    let quoted = quoted_text c.args.format.now in
    second_fails c.from_residual-in_err-write_quoted.result _ _ _ _ _ _ (codes "verbatim \"") quoted (codes "\" \"") _
    c.from_residual-in_err-write_quoted.ensures.0 (sym (append_assoc (codes "verbatim \"") quoted (codes "\" \""))) c.in_ok-write_text.ensures
    c.in_err-write_quoted.ensures

pub returns : goal.returns
returns g c =
    let quoted = quoted_text c.args.format.now in
    both_written c.write_text-2.result _ _ _ _ _ _ (codes "verbatim \"") (quoted ++ codes "\" \"") _
    (sym (append_assoc (codes "verbatim \"") quoted (codes "\" \""))) c.in_ok-write_text.ensures
    (writes_next c.write_text-2.result _ _ _ _ _ _ quoted (codes "\" \"") c.in_ok-write_quoted.ensures c.write_text-2.ensures)
