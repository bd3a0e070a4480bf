use Rattle.resp_codec.specs.Commands.{reading_commands}
use Rattle.resp_codec.proofs.Streams.{is_read}
use Rattle.resp_codec.proofs.laws.a_stream_is_its_commands.Goals as goal

pub returns : goal.returns
returns c = is_read reading_commands
