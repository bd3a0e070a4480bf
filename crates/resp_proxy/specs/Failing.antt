-- What becomes of the commands that wait when a connection is lost or cannot be opened.
use Rattle.std.specs.Prelude.{◌⊎◌, ℕ, List}
use Rattle.resp_board.specs.declared.board.Board.{Board}
use Rattle.resp_board.specs.Boards.{Lose}
use Rattle.resp_board.specs.Runs.{HasAnsweredSome, HasLostSome, Runs, begun_on}

-- each command that waits on a line, and of which a byte was sent, has this text as its reply
abbrev pub Loses : ℕ → List ℕ → Board → Board → Type 0
Loses line text old new = Runs (Lose line (begun_on old line) text) old new

-- the first of the commands that wait on a line have this text as their reply, and the others still wait
abbrev pub FailsSome : ℕ → List ℕ → Board → Board → Type 0
FailsSome line text old new = HasAnsweredSome line text old new ⊎ HasLostSome line text old new
