use Rattle.std.proofs.Common.{subst, map, refl}
use Rattle.resp_value.specs.Spellings.{AreSpellings}
use Rattle.resp_value.specs.Values.{datum_of}
use Rattle.resp_decode.specs.Inputs.{RefusesInput}
use Rattle.resp_decode.proofs.ReadingInputs.{reads_nothing}
use Rattle.resp_decode.proofs.all.decode_all.Goals as goal

pub decode_into-requires : goal.decode_into-requires
decode_into-requires c = reads_nothing _ c.args.bytes.now c.new-decoder.result c.new-values.result.items c.new-values.ensures.items
    c.new-decoder.ensures.nothing_taken refl

pub returns-clause-whole_input : goal.returns-clause-whole_input
returns-clause-whole_input c = subst (λ r. AreSpellings r (map datum_of c.decode_into.new.values.items) c.args.bytes.now) c.new-decoder.ensures.rules
    c.in_default.ensures.whole_input

pub returns-in-Err-clause-refusal : goal.returns-in-Err-clause-refusal
returns-in-Err-clause-refusal c = subst (λ r. RefusesInput r c.args.bytes.now c.in-Err.fault) c.new-decoder.ensures.rules c.in-Err.ensures.refusal
