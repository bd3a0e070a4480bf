-- When a connection to the server continues a line.
use Rattle.std.specs.Prelude.{◌≡◌, ◌<◌}
use Rattle.resp_board.specs.Runs.{begun_on}
use Rattle.resp_board.specs.declared.board.Board.{Board}
use Rattle.resp_proxy.specs.declared.error.AttachError.{AttachError}
use Rattle.resp_proxy.specs.declared.error.AttachError.TheVariants as error
use Rattle.resp_proxy.specs.Opened.{IsAccepted, Opened, situation_in}
use Rattle.resp_proxy.specs.ServerLines.{Lined, line_of, situation_on}
use Rattle.resp_proxy.specs.Wishes.{MeansSame}

-- the server has accepted the connection in the setting of the line, and no command of which a byte was sent waits on the line
pub record MayAttach (m : Board) (l : Lined) (o : Opened) : Type 0 where
  pub accepted : IsAccepted o
  pub same : MeansSame (situation_in o) (situation_on l)
  pub none_sent : begun_on m (line_of l) ≡ 0

-- the connection was brought into another setting
pub record IsElsewhere (l : Lined) (o : Opened) : Type 0 where
  pub accepted : IsAccepted o
  pub other : MeansSame (situation_in o) (situation_on l) → ⊥

-- a command of which a byte was sent waits on the line
pub record HasSentSome (m : Board) (l : Lined) (o : Opened) : Type 0 where
  pub accepted : IsAccepted o
  pub same : MeansSame (situation_in o) (situation_on l)
  pub some_sent : 0 < begun_on m (line_of l)

-- the cause of the error
abbrev pub RefusesAttach : Board → Lined → Opened → AttachError → Type 0
RefusesAttach m l o error.NotAccepted = IsAccepted o → ⊥
RefusesAttach m l o error.OtherSetting = IsElsewhere l o
RefusesAttach m l o error.Waits = HasSentSome m l o
