use Rattle.std.proofs.Common.{inl, []}
use Rattle.resp_decode.specs.Keeping.{HasKept}
use Rattle.resp_decode.proofs.CutFeeding.{keeps_nothing}
use Rattle.resp_decode.proofs.Feeding.{takes_nothing}
use Rattle.resp_decode.proofs.cut_decoder.CutDecoder.new.Goals as goal

pub returns-clause-nothing_taken : goal.returns-clause-nothing_taken
returns-clause-nothing_taken c = takes_nothing (HasKept c.new-2.result c.new-2.result.shown) c.new.result
    c.new.ensures.nothing_read
    (keeps_nothing c.new-2.result c.new-2.ensures.nothing_kept)

pub invariant_of-result : goal.invariant_of-result
invariant_of-result c = record {
  reading = ∣ inl (
    [],
    takes_nothing (HasKept c.new-2.result c.new-2.result.shown) c.new.result c.new.ensures.nothing_read
        (keeps_nothing c.new-2.result c.new-2.ensures.nothing_kept),
  ) ∣₁;
}
