use Rattle.resp_scan.proofs.CallClauses.Judged.{every_text_is_judged}
use Rattle.resp_scan.proofs.laws.every_text_is_viable_or_has_one_fault.Goals as goal

pub returns : goal.returns
returns c = every_text_is_judged
