use Rattle.resp_commands.proofs.FurtherKeys.{one_kind}
use Rattle.resp_commands.proofs.keys.fixed_key_places.Goals as goal

pub returns : goal.returns
returns c = λ arguments number none place.
    one_kind c.args.keys.now arguments c.fixed_places.result c.args.count place number none (c.fixed_places.ensures place)
