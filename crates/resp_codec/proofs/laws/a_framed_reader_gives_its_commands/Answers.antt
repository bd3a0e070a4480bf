use Rattle.resp_codec.specs.Commands.{reading_commands}
use Rattle.resp_codec.proofs.Framed.{gave_values}
use Rattle.resp_codec.proofs.laws.a_framed_reader_gives_its_commands.Goals as goal

pub returns : goal.returns
returns g c = λ final framed items none taken gave.
    let reader = g.R.AsyncRead in
    gave_values reading_commands reader.reads reader.is_at_end reader.fails g.met.R.AsyncRead.reads_in_order final framed items none taken gave
