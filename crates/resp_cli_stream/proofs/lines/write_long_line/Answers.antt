use Rattle.std.proofs.Common.{◌++◌, Some, length, refl}
use Rattle.resp_scan.specs.Kinds.{text_kind_of}
use Rattle.resp_cli_stream.specs.Pages.{end_of_text, is_big, text_words}
use Rattle.resp_print.specs.Shown.{quoted_text}
use Rattle.resp_cli_stream.proofs.PageLemmas.{both_written, first_fails, second_fails}
use Rattle.resp_print.proofs.WrittenLemmas.{writes_next}
use Rattle.resp_cli_stream.proofs.lines.write_long_line.Goals as goal

pub returns-in_err-write_head : goal.returns-in_err-write_head
returns-in_err-write_head g c =
    let k = text_kind_of c.args.kind in
    let ends = end_of_text (Some (record { is_big = is_big k; size = length c.args.bytes.now })) in
    first_fails c.from_residual.result _ _ _ _ (text_words k) (quoted_text c.args.bytes.now ++ ends) _ c.from_residual.ensures.0 refl
    c.in_err-write_head.ensures

pub returns-in_err-write_quoted : goal.returns-in_err-write_quoted
returns-in_err-write_quoted g c =
    let k = text_kind_of c.args.kind in
    let ends = end_of_text (Some (record { is_big = is_big k; size = length c.args.bytes.now })) in
    second_fails c.from_residual-in_err-write_quoted.result _ _ _ _ _ _ (text_words k) (quoted_text c.args.bytes.now) ends _
    c.from_residual-in_err-write_quoted.ensures.0 refl c.in_ok-write_head.ensures c.in_err-write_quoted.ensures

pub returns : goal.returns
returns g c =
    let k = text_kind_of c.args.kind in
    let quoted = quoted_text c.args.bytes.now in
    let ends = end_of_text (Some (record { is_big = is_big k; size = length c.args.bytes.now })) in
    both_written c.write_end.result _ _ _ _ _ _ (text_words k) (quoted ++ ends) _ refl c.in_ok-write_head.ensures
    (writes_next c.write_end.result _ _ _ _ _ _ quoted ends c.in_ok-write_quoted.ensures (rw c.is_big.ensures at c.write_end.ensures))
