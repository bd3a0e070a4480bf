use Rattle.std.proofs.Common.{subst}
use Rattle.resp_print.proofs.WrittenLemmas.{writes_next, writes_part}
use Rattle.resp_print.specs.Written.{WritesText}
use Rattle.resp_tap.proofs.stamp.write_utc.Goals as goal

pub returns-in_err-write_text : goal.returns-in_err-write_text
returns-in_err-write_text g c = writes_part _ _ _ _ _ _ _ c.from_residual.ensures.0 c.in_err-write_text.ensures

pub returns : goal.returns
returns g c =
    writes_next _ _ _ _ _ _ _ _ _ c.in_ok-write_text.ensures
    (subst (WritesText _ _ _ _ c.write_text-2.result) c.date_and_time.ensures c.write_text-2.ensures)
