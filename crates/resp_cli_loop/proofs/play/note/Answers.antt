use Rattle.std.proofs.Common.{◌++◌, append_assoc, codes, decimal}
use Rattle.resp_print.proofs.WrittenLemmas.{writes_next, writes_part}
use Rattle.resp_cli_loop.proofs.play.note.Goals as goal

pub returns-in_err-write_number : goal.returns-in_err-write_number
returns-in_err-write_number g c =
    rw (append_assoc (c.args.subject.now ++ decimal c.args.number ++ codes ": ") c.args.why.now (codes "\n"))
    (writes_part c.from_residual.result _ _ _ _ _ _ c.from_residual.ensures.0 c.in_err-write_number.ensures)

pub returns-in_err-write_text : goal.returns-in_err-write_text
returns-in_err-write_text g c =
    let r = c.from_residual-in_err-write_text.result in
    rw (append_assoc (c.args.subject.now ++ decimal c.args.number ++ codes ": ") c.args.why.now (codes "\n"))
    (writes_next r _ _ _ _ _ _ _ _ c.in_ok-write_number.ensures
    (writes_part r _ _ _ _ c.args.why.now _ c.from_residual-in_err-write_text.ensures.0 c.in_err-write_text.ensures))

pub returns : goal.returns
returns g c =
    let r = c.write_text-2.result in
    rw (append_assoc (c.args.subject.now ++ decimal c.args.number ++ codes ": ") c.args.why.now (codes "\n"))
    (writes_next r _ _ _ _ _ _ _ _ c.in_ok-write_number.ensures
    (writes_next r _ _ _ _ _ _ c.args.why.now _ c.in_ok-write_text.ensures c.write_text-2.ensures))
