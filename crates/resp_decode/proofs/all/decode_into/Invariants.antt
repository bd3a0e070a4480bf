use Rattle.std.proofs.Common.{length}
use Rattle.resp_decode.specs.Decoding.{rules_of}
use Rattle.resp_decode.specs.Inputs.{IsReadUpTo}
use Rattle.resp_decode.proofs.all.decode_into.Given as goal

abbrev pub invariant-loop-rest : goal.invariant-loop-rest
invariant-loop-rest l = IsReadUpTo (rules_of l.fn.decoder) l.fn.bytes l.decoder l.values.items l.rest

abbrev pub decreases-loop-rest : goal.decreases-loop-rest
decreases-loop-rest l = length l.rest
