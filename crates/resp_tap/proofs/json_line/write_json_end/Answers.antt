use Rattle.resp_print.proofs.WrittenLemmas.{writes_next, writes_part}
use Rattle.resp_tap.proofs.json_line.write_json_end.Goals as goal

pub returns-in_err-write_utc : goal.returns-in_err-write_utc
returns-in_err-write_utc g c = writes_part _ _ _ _ _ _ _ c.from_residual.ensures.0 c.in_err-write_utc.ensures

pub returns : goal.returns
returns g c = writes_next _ _ _ _ _ _ _ _ _ c.in_ok-write_utc.ensures c.write_text.ensures
