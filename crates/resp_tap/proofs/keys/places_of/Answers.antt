use Rattle.std.proofs.Common.{drop}
use Rattle.resp_tap.proofs.keys.places_of.Goals as goal

pub returns-in-None : goal.returns-in-None
returns-in-None c = c.fixed_key_places.ensures (drop 1 c.args.words.now) c.left-count.ensures c.in-None.ensures.none
