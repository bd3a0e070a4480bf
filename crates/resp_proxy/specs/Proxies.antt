-- The state of a proxy.
use Rattle.std.specs.Prelude.{◌≡◌, ℕ, Bool, List, None, codes}
use Rattle.resp_board.specs.Runs.{waiting_for}
use Rattle.resp_board.specs.declared.board.Board.{Board}
use Rattle.resp_board.specs.declared.ticket.ClientId.{ClientId}
use Rattle.resp_proxy.specs.declared.client.Client.{Client}
use Rattle.resp_proxy.specs.declared.settings.Settings.{Settings}
use Rattle.resp_proxy.specs.Clients.{Holds, route_of}
use Rattle.resp_proxy.specs.Room.{HasRoom}
use Rattle.resp_proxy.specs.Terms.{Terms, with_own}

pub record Proxied : Type 0 where
  pub board : Board
  pub settings : Settings
  -- which bytes of a client are commands, and which commands are sent
  pub terms : Terms
  -- the clients that were replied to and were not asked for yet
  pub replied : List ClientId

abbrev pub board_in : Proxied → Board
board_in p = p.board

abbrev pub terms_of : Proxied → Terms
terms_of p = p.terms

-- the clients that were replied to and were not asked for yet, in order
abbrev pub replied_to : Proxied → List ClientId
replied_to p = p.replied

-- these clients were replied to, and all else is as it was
abbrev pub with_replied : List ClientId → Proxied → Proxied
with_replied clients p = record p { replied = clients }

-- whether a client may get a connection of its own
abbrev pub admits_own : Proxied → Bool
admits_own p = p.terms.own

-- a client may get a connection of its own, or not, and all else is as it was
abbrev pub with_own_admitted : Bool → Proxied → Proxied
with_own_admitted own p = record p { terms = with_own own p.terms }

-- these bytes are commands and these commands are sent, and all else is as it was
abbrev pub with_terms : Terms → Proxied → Proxied
with_terms terms p = record p { terms = terms }

abbrev pub settings_of : Proxied → Settings
settings_of p = p.settings

-- no client is open
abbrev pub HasNoClient : Board → Type 0
HasNoClient m = (who : ClientId) → waiting_for m who ≡ None

-- a command of this client may be taken now
abbrev pub HasRoomFor : Proxied → Client → Type 0
HasRoomFor p c = HasRoom p.settings p.board (route_of c)

-- this is true of the bytes that came from a client and are not yet a command
abbrev pub WhereHeld : Proxied → Client → (List ℕ → Type 0) → Type 0
WhereHeld p c P = (held : List ℕ) → Holds p.terms c held → P held

-- the reply to each command that was begun to be sent when the connection to the server is lost
abbrev pub lost_text : List ℕ
lost_text = codes "-ERR connection to server lost; the command may have run\r\n"

-- the reply to each command that was begun to be sent when a reply to a probe is wrong
abbrev pub out_of_step_text : List ℕ
out_of_step_text = codes "-ERR connection to server out of step; the command may have run\r\n"
