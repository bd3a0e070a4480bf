use Rattle.std.proofs.Common.{reverse, ap, refl}
use Rattle.resp_scan.proofs.Soundness.Kept.{sound_new}
use Rattle.resp_scan.proofs.CallClauses.Calls.{follows_none}
use Rattle.resp_scan.proofs.scanner.Scanner.new.Goals as goal

pub invariant_of-result : goal.invariant_of-result
invariant_of-result c = sound_new c.args.version c.args.limits.now (reverse c.new.result.items) c.are_in_range.ensures (ap reverse c.new.ensures)

pub returns-clause-nothing_read : goal.returns-clause-nothing_read
returns-clause-nothing_read c = follows_none _ refl (ap reverse c.new.ensures) refl
