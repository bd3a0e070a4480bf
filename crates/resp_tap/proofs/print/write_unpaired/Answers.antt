use Rattle.resp_print.proofs.Printing.{prints_next, failed_part}
use Rattle.resp_tap.proofs.print.write_unpaired.Goals as goal

pub returns-in-Ok : goal.returns-in-Ok
returns-in-Ok g c = λ whole kept. prints_next _ _ _ _ _ _ _ _ _ _ c.in-Ok.ensures (c.write_kept.ensures whole kept)

pub returns-in-Err : goal.returns-in-Err
returns-in-Err g c = λ whole kept. failed_part _ _ _ _ _ _ 0 c.in-Err.ensures
