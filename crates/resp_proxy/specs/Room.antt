-- Room for commands of a client.
use Rattle.std.specs.Prelude.{◌<◌, ◌≤◌, length, IsSomeAnd}
use Rattle.resp_board.specs.declared.board.Board.{Board}
use Rattle.resp_board.specs.declared.bounds.Bounds.{Bounds}
use Rattle.resp_board.specs.Runs.{unsent_on, waiting_count, waiting_for}
use Rattle.resp_proxy.specs.declared.route.Route.{Route}
use Rattle.resp_proxy.specs.declared.settings.Settings.{Settings}

-- the bounds of a board for these settings: any number of bytes may wait to be sent, since the proxy takes no command while
-- too many wait
abbrev pub bounds_by : Settings → Bounds
bounds_by s = record { waiting = s.waiting; unsent = 18446744073709551615 }

-- the client is open, it may have one more command that waits, and few enough bytes wait for it and to be sent over its line
pub record HasRoom (s : Settings) (m : Board) (route : Route) : Type 0 where
  pub commands : IsSomeAnd (waiting_count m route.client) (λ count. count < s.waiting)
  pub replies : IsSomeAnd (waiting_for m route.client) (λ text. length text ≤ s.held)
  pub line : length (unsent_on m route.line.place) ≤ s.unsent
