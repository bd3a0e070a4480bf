use Rattle.std.proofs.Common.{subst}
use Rattle.resp_codec.specs.Streams.{IsReadAs}
use Rattle.resp_codec.specs.Values.{Holds, reading_values}
use Rattle.resp_codec.proofs.Streams.{is_read}
use Rattle.resp_codec.proofs.laws.a_stream_is_its_values.Goals as goal

pub returns : goal.returns
returns c = λ codec input items taken all.
    subst (λ r. IsReadAs Holds r input items) codec.same_rules (is_read reading_values codec input items taken all)
