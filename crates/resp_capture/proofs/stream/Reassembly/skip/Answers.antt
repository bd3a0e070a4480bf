use Rattle.std.proofs.Common.{arith, refl}
use Rattle.resp_capture.proofs.StreamLemmas.{skips_to}
use Rattle.resp_capture.proofs.stream.Reassembly.skip.Goals as goal

pub returns-clause-skips : goal.returns-clause-skips
returns-clause-skips c = rw (← c.self.view_is) (skips_to _ _ c.in_ok-least.field-0.now.at c.saturating_sub-missing.result
    (λ part among. c.in_ok-least.ensures.least part (rw c.as_slice.ensures.value among)) refl refl (omega arith) (omega arith))

pub returns-clause-ready : goal.returns-clause-ready
returns-clause-ready c = record {
  part = c.in_ok-least.field-0.now;
  among = rw c.as_slice.ensures.value at c.in_ok-least.ensures.some;
  ready = omega arith;
}
