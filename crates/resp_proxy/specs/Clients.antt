-- The bytes that came from a client and are not yet a command.
use Rattle.std.specs.Prelude.{◌≡◌, Bool, List, ℕ, ◌++◌}
use Rattle.resp_board.specs.declared.ticket.ClientId.{ClientId}
use Rattle.resp_proxy.specs.declared.client.Client.{Client}
use Rattle.resp_proxy.specs.declared.route.Route.{Route}
use Rattle.resp_proxy.specs.Terms.{Terms}
use Rattle.resp_proxy.specs.Unfinished.{HasUnfinished}

abbrev pub client_id : Client → ClientId
client_id c = c.route.client

-- the client, and the line to which its commands go
abbrev pub route_of : Client → Route
route_of c = c.route

-- nothing more is taken from the client
abbrev pub is_closing : Client → Bool
is_closing c = c.is_closing

-- the bytes of the client that are not taken before there is room for a command
abbrev pub waits_for_room : Client → List ℕ
waits_for_room c = c.rest.items

abbrev pub is_leaving : Client → Bool
is_leaving c = c.is_leaving

-- these bytes came from the client, and are not yet a command
pub record Holds (terms : Terms) (c : Client) (held : List ℕ) : Type 0 where
  pub front : List ℕ
  pub begun : HasUnfinished terms c.unfinished front
  pub whole : held ≡ front ++ c.rest.items
