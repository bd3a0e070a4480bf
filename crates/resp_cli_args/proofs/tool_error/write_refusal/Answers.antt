use Rattle.std.proofs.Common.{◌++◌, codes, decimal}
use Rattle.resp_print.proofs.WrittenLemmas.{writes_next, writes_part}
use Rattle.resp_cli_args.proofs.Tried.{line_parts}
use Rattle.resp_cli_args.proofs.tool_error.write_refusal.Goals as goal

pub returns-in_err-write_number : goal.returns-in_err-write_number
returns-in_err-write_number g c =
    rw (line_parts (codes "value " ++ decimal c.args.value ++ codes ": ") c.args.name.now)
    (writes_part c.from_residual.result _ _ _ _ _ _ c.from_residual.ensures.0 c.in_err-write_number.ensures)

pub returns-in_err-write_text : goal.returns-in_err-write_text
returns-in_err-write_text g c =
    let r = c.from_residual-in_err-write_text.result in
    rw (line_parts (codes "value " ++ decimal c.args.value ++ codes ": ") c.args.name.now)
    (writes_next r _ _ _ _ _ _ _ _ c.in_ok-write_number.ensures
    (writes_part r _ _ _ _ c.args.name.now _ c.from_residual-in_err-write_text.ensures.0 c.in_err-write_text.ensures))

pub returns : goal.returns
returns g c =
    let r = c.write_number-2.result in
    rw (line_parts (codes "value " ++ decimal c.args.value ++ codes ": ") c.args.name.now)
    (writes_next r _ _ _ _ _ _ _ _ c.in_ok-write_number.ensures
    (writes_next r _ _ _ _ _ _ c.args.name.now _ c.in_ok-write_text.ensures c.write_number-2.ensures))
