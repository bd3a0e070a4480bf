use Rattle.resp_print.proofs.WrittenLemmas.{writes_next, writes_part}
use Rattle.resp_tap.proofs.json_line.write_reply.Goals as goal

pub returns-in_err-write_segments : goal.returns-in_err-write_segments
returns-in_err-write_segments g c = writes_part _ _ _ _ _ _ _ c.from_residual.ensures.0 c.in_err-write_segments.ensures

pub returns : goal.returns
returns g c = writes_next _ _ _ _ _ _ _ _ _ c.in_ok-write_segments.ensures c.write_answer.ensures
