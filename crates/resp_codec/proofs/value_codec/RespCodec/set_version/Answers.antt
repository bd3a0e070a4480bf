use Rattle.std.proofs.Common.{rules}
use Rattle.resp_codec.proofs.Ending.{refused_inside}
use Rattle.resp_codec.proofs.value_codec.RespCodec.set_version.Goals as goal

pub returns-in_err-set_version-clause-only_between_values :
    goal.returns-in_err-set_version-clause-only_between_values
returns-in_err-set_version-clause-only_between_values c = λ front taken.
    refused_inside c.set_version.result c.from_residual.result front (search rules) c.from_residual.ensures.0
    (c.set_version.ensures.only_between_values front taken)
