use Rattle.resp_print.proofs.WrittenLemmas.{writes_next, writes_part}
use Rattle.resp_tap.proofs.print.write_command.Goals as goal

pub returns-in_err-write_heading : goal.returns-in_err-write_heading
returns-in_err-write_heading g c = λ whole are.
    let p = c.args.options in
    writes_part _ _ _ _ _ _ _ c.from_residual.ensures.0 c.in_err-write_heading.ensures

pub returns : goal.returns
returns g c = λ whole are.
    let p = c.args.options in
    writes_next _ _ _ _ _ _ _ _ _ c.in_ok-write_heading.ensures
    (c.write_words_line.ensures whole are)
