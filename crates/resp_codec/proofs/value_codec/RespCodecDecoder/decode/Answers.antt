use Rattle.std.proofs.Common.{refl}
use Rattle.resp_value.specs.Values.{datum_of}
use Rattle.resp_codec.proofs.Answering.{gives_or_waits}
use Rattle.resp_codec.specs.Values.{reading_values}
use Rattle.resp_codec.proofs.value_codec.RespCodecDecoder.decode.Goals as goal

pub returns-clause-next : goal.returns-clause-next
returns-clause-next c =
    gives_or_waits reading_values datum_of (λ value. refl) c.args.self.now c.args.src.now.items _ c.next_value.new.src.items c.in_ok-value.value
    c.in_ok-value.ensures.value c.in_ok-value.ensures.none (record { rest = refl; rules = c.next_value.ensures.same_rules })
