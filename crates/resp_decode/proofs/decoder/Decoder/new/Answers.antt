use Rattle.std.proofs.Common.{inl, []}
use Rattle.resp_decode.specs.Hearing.{HasHeard}
use Rattle.resp_decode.proofs.Feeding.{takes_nothing}
use Rattle.resp_decode.proofs.decoder.Decoder.new.Goals as goal

pub returns-clause-nothing_taken : goal.returns-clause-nothing_taken
returns-clause-nothing_taken c = takes_nothing (HasHeard c.new-2.result) c.new.result c.new.ensures.nothing_read
    (record { holds = c.new-2.ensures.holds; weighs = c.new-2.ensures.weighs })

pub invariant_of-result : goal.invariant_of-result
invariant_of-result c = record {
  reading = ∣ inl (
    [],
    takes_nothing (HasHeard c.new-2.result) c.new.result c.new.ensures.nothing_read
        (record { holds = c.new-2.ensures.holds; weighs = c.new-2.ensures.weighs }),
  ) ∣₁;
}
