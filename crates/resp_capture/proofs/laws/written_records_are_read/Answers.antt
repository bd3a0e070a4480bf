use Rattle.resp_capture.proofs.RecordLemmas.{segments_are_read_back, times_are_read_back}
use Rattle.resp_capture.proofs.laws.written_records_are_read.Goals as goal

pub returns-clause-segments : goal.returns-clause-segments
returns-clause-segments c = segments_are_read_back

pub returns-clause-times : goal.returns-clause-times
returns-clause-times c = times_are_read_back
