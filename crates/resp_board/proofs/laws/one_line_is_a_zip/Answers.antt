use Rattle.resp_board.proofs.Zips.{one_zip}
use Rattle.resp_board.proofs.laws.one_line_is_a_zip.Goals as goal

pub returns : goal.returns
returns c = one_zip
