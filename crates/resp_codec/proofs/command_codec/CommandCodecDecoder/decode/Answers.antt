use Rattle.std.proofs.Common.{refl}
use Rattle.resp_codec.proofs.Answering.{waits}
use Rattle.resp_codec.specs.Commands.{reading_commands}
use Rattle.resp_codec.proofs.command_codec.CommandCodecDecoder.decode.Goals as goal

pub returns-in-None-clause-next : goal.returns-in-None-clause-next
returns-in-None-clause-next c =
    waits reading_commands c.args.self.now c.args.src.now.items _ c.next_value.new.src.items (rw c.in-None.is at c.in_ok-value.ensures.none)
    (record { rest = refl; rules = c.next_value.ensures.same_rules })
