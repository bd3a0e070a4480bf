use Rattle.std.proofs.Common.{arith}
use Rattle.resp_capture.proofs.HeaderLemmas.{carries_no_six, carries_six}
use Rattle.resp_capture.proofs.network.read_six.Goals as goal

pub returns-clause-some : goal.returns-clause-some
returns-clause-some c = carries_six _ c.args.packet.now _ (record { least = omega arith; version = omega arith }) c.end_six.ensures.end
    c.end_six.ensures.least c.after_headers.ensures.some

pub returns-clause-none : goal.returns-clause-none
returns-clause-none c = carries_no_six _ c.args.packet.now _ c.end_six.ensures.end c.end_six.ensures.least c.after_headers.ensures.none
