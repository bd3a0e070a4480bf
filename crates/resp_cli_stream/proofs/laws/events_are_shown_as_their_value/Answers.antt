use Rattle.resp_cli_stream.proofs.ShownTrees.{all_is_shown}
use Rattle.resp_cli_stream.proofs.laws.events_are_shown_as_their_value.Goals as goal

pub returns : goal.returns
returns c = all_is_shown
