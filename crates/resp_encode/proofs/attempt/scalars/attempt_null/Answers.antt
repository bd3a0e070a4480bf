use Rattle.resp_value.specs.Data.{scalar}
use Rattle.resp_value.specs.Data as d
use Rattle.resp_encode.proofs.attempt.scalars.attempt_null.Goals as goal

pub write_null-requires : goal.write_null-requires
write_null-requires c = (c.if-not-suits.ensures (scalar d.Null) c.measure_null-found.ensures).room
