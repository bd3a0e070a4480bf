-- The effect on a hub of writing the bytes that wait in a session.
use Rattle.std.specs.Prelude.{◌≡◌, ℕ, ◌<◌, Bool, List, ◌++◌, length, Option, Some}
use Rattle.std.specs.Option.{option_map}
use Rattle.resp_io.specs.Devices.{Appends}
use Rattle.resp_server.specs.Hubs.{HubState, Seat, seat_at, seated}

-- whether the session is closing
abbrev pub IsClosing : HubState → ℕ → Bool → Type 0
IsClosing hub id closing = option_map (λ (s : Seat). s.closing) (seat_at hub id) ≡ Some closing

-- the bytes that waited in a session were written except for this rest, and nothing else in the hub is changed
pub record HasSent (old new : HubState) (id : ℕ) (held held' : Option (List ℕ)) (waits : List ℕ) : Type 0 where
  pub seat : Seat
  pub here : seat_at old id ≡ Some seat
  pub text : List ℕ
  pub parts : seat.out ≡ text ++ waits
  pub appended : Appends held held' text
  pub state : new ≡ seated old id (record seat { out = waits })

-- the first of the bytes that waited in a session were written, and some are left
abbrev pub HasSentPart : HubState → HubState → ℕ → Option (List ℕ) → Option (List ℕ) → Type 0
HasSentPart old new id held held' = (waits : List ℕ) × (0 < length waits) × HasSent old new id held held' waits
