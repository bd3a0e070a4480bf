use Rattle.resp_print.proofs.Printing.{prints_next, failed_part}
use Rattle.resp_tap.proofs.print.write_push.Goals as goal

pub returns-in-Ok : goal.returns-in-Ok
returns-in-Ok g c = λ whole members lengths.
    prints_next _ _ _ _ _ _ _ _ _ _ c.in-Ok.ensures (c.write_kept_push.ensures whole members lengths)

pub returns-in-Err : goal.returns-in-Err
returns-in-Err g c = λ whole members lengths. failed_part _ _ _ _ _ _ 0 c.in-Err.ensures
