use Rattle.std.proofs.Common.{subst}
use Rattle.resp_codec.specs.FramedReaders.{AreItsValues}
use Rattle.resp_codec.specs.Values.{Holds, reading_values}
use Rattle.resp_codec.proofs.Framed.{gave_values}
use Rattle.resp_codec.proofs.laws.a_framed_reader_gives_its_values.Goals as goal

pub returns : goal.returns
returns g c = λ final framed items none taken gave.
    let reader = g.R.AsyncRead in
    subst (λ r. AreItsValues reader.reads reader.is_at_end Holds r framed.inner items) framed.decoder.same_rules
    (gave_values reading_values reader.reads reader.is_at_end reader.fails g.met.R.AsyncRead.reads_in_order final framed items none taken gave)
