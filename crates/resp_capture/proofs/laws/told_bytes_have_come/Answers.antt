use Rattle.resp_capture.proofs.HistoryLemmas.{stays_true_of_held, stays_true_of_missing, stays_true_of_segments}
use Rattle.resp_capture.proofs.laws.told_bytes_have_come.Goals as goal

pub returns-clause-segments : goal.returns-clause-segments
returns-clause-segments c = stays_true_of_segments

pub returns-clause-held : goal.returns-clause-held
returns-clause-held c = stays_true_of_held

pub returns-clause-missing : goal.returns-clause-missing
returns-clause-missing c = stays_true_of_missing
