use Rattle.resp_json.proofs.ValuesApart.{equal_json}
use Rattle.resp_json.proofs.laws.equal_json_means_equal_values.Goals as goal

pub returns : goal.returns
returns c = equal_json
