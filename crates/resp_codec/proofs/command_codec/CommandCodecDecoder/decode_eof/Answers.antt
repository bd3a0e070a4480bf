use Rattle.resp_codec.proofs.Answering.{ends_between, ends_inside}
use Rattle.resp_codec.specs.Commands.{reading_commands}
use Rattle.resp_codec.proofs.Ending.{is_between, is_inside}
use Rattle.resp_codec.proofs.command_codec.CommandCodecDecoder.decode_eof.Goals as goal

pub returns-in_err-finish-in-None-clause-next : goal.returns-in_err-finish-in-None-clause-next
returns-in_err-finish-in-None-clause-next c =
    ends_inside reading_commands c.args.self.now c.args.src.now.items c.decode.new.self c.decode.new.src.items c.in_err-finish-in-None.field-0.0
    c.from_residual-in_err-finish-in-None.result (rw c.in-None.is at c.in_ok-asked.ensures.next) (rw c.in-None.is at c.in_ok-asked.ensures.all_taken)
    c.from_residual-in_err-finish-in-None.ensures.1
    (is_inside c.decode.new.self.decoder c.finish.result c.in_err-finish-in-None.field-0.0 c.in_err-finish-in-None.was
    c.finish.ensures.only_between_values c.finish.ensures.truncated_inside_a_value)

pub returns-in_ok-finish-in-None-clause-next : goal.returns-in_ok-finish-in-None-clause-next
returns-in_ok-finish-in-None-clause-next c =
    ends_between reading_commands c.args.self.now c.args.src.now.items c.decode.new.self c.decode.new.src.items
    (rw c.in-None.is at c.in_ok-asked.ensures.next) (rw c.in-None.is at c.in_ok-asked.ensures.all_taken)
    (is_between c.decode.new.self.decoder c.finish.result c.in_ok-finish-in-None.was c.finish.ensures.only_between_values)
