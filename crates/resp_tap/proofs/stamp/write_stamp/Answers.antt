use Rattle.resp_print.proofs.WrittenLemmas.{writes_next, writes_part}
use Rattle.resp_tap.proofs.stamp.write_stamp.Goals as goal

pub returns-in_err-write_clock : goal.returns-in_err-write_clock
returns-in_err-write_clock g c = writes_part _ _ _ _ _ _ _ c.from_residual.ensures.0 c.in_err-write_clock.ensures

pub returns : goal.returns
returns g c = writes_next _ _ _ _ _ _ _ _ _ c.in_ok-write_clock.ensures c.write_waited.ensures
