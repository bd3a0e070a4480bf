-- Statements that have to be true of the state that worlds show.
use Rattle.std.specs.Prelude.{◌≡◌, ℕ, ◌≤◌, List, length, Some}
use Rattle.resp_value.specs.Bounds.{Bounds}
use Rattle.resp_session.specs.Connections.{Connection, shown_replies}
use Rattle.resp_session.specs.Orders.{OneOrder, part_of_client}
use Rattle.resp_session.specs.Worlds.{World, connection_at}
use Rattle.resp_server.specs.Hubs.{HubState}
use Rattle.resp_wire.specs.Worlds.{ShowsEach}
use Rattle.resp_wire.specs.declared.end.End.{End}

-- one order of all commands explains the store, the versions and the replies of a world that is shown
abbrev pub WhatIsShownHasOneOrder : Type 0
WhatIsShownHasOneOrder = (limits : Bounds) (hub : HubState) (ends : List End) (order : List ℕ) (w : World) →
    (shown : ShowsEach limits hub ends order w) → OneOrder shown.n w

-- a reply that is shown belongs to a command that was run
abbrev pub WhatIsShownWasRun : Type 0
WhatIsShownWasRun = (limits : Bounds) (hub : HubState) (ends : List End) (order : List ℕ) (w : World) →
    ShowsEach limits hub ends order w → (i : ℕ) (c : Connection) → connection_at w.connections i ≡ Some c →
    length (shown_replies c) ≤ length (part_of_client i w.order)
