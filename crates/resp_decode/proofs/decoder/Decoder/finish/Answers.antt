use Rattle.std.specs.Prelude.{IsOk}
use Rattle.resp_decode.specs.Hearing.{HasHeard}
use Rattle.resp_decode.proofs.Feeding.{ends_between_values}
use Rattle.resp_decode.proofs.decoder.Decoder.finish.Goals as goal

pub returns-clause-only_between_values : goal.returns-clause-only_between_values
returns-clause-only_between_values c = λ front w. ends_between_values (HasHeard c.args.self.now.held)
    c.args.self.now.scanner front
    (IsOk c.finish.result) w (c.finish.ensures.may_end front w.given w.reads)
