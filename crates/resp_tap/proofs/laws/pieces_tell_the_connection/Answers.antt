use Rattle.resp_tap.proofs.Streams.{tells_the_connection}
use Rattle.resp_tap.proofs.laws.pieces_tell_the_connection.Goals as goal

pub returns : goal.returns
returns c = tells_the_connection c.version_three_spells_what_two_does.ensures
