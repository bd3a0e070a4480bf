use Rattle.resp_value.proofs.TypeBytes.{later_type_bytes_want_version_three}
use Rattle.resp_value.proofs.laws.later_type_bytes_want_version_three.Goals as goal

pub returns : goal.returns
returns c = later_type_bytes_want_version_three
