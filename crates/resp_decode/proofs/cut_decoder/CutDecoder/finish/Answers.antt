use Rattle.std.specs.Prelude.{IsOk}
use Rattle.resp_decode.specs.Keeping.{HasKept}
use Rattle.resp_decode.proofs.Feeding.{ends_between_values}
use Rattle.resp_decode.proofs.cut_decoder.CutDecoder.finish.Goals as goal

pub returns-clause-only_between_values : goal.returns-clause-only_between_values
returns-clause-only_between_values c = λ front w.
    ends_between_values (HasKept c.args.self.now.kept c.args.self.now.kept.shown) c.args.self.now.scanner front
    (IsOk c.finish.result) w (c.finish.ensures.may_end front w.given w.reads)
