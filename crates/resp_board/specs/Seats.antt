-- The open clients, each with its desk.
use Rattle.std.specs.Prelude.{◌≡◌, ℕ, ◌==◌, false, List, [], slice_index_or, Option, None, Some, IfSome, is_some, if◌then◌else◌}
use Rattle.std.specs.Option.{option_map}
use Rattle.resp_board.specs.declared.desk.Desk.{Desk}
use Rattle.resp_board.specs.declared.seat.Seat.{Seat}
use Rattle.resp_board.specs.declared.ticket.ClientId.{ClientId}
use Rattle.resp_board.specs.Boards.{is_same}
use Rattle.resp_board.specs.Desks.{HasAnswers, out_of}

-- the desk of the client of this number at a place
abbrev pub desk_of : ℕ → Option Seat → Option Desk
desk_of number None = None
desk_of number (Some s) = if number == s.number then Some s.desk else None

-- the desk of the client of this id, if it is open
abbrev pub desk_in : List (Option Seat) → ClientId → Option Desk
desk_in slots who = desk_of who.number (slice_index_or slots who.place None)

-- the bytes that wait to be given to a client, if it is open
abbrev pub bytes_in : List (Option Seat) → ClientId → Option (List ℕ)
bytes_in slots who = option_map out_of (desk_in slots who)

-- a client that is open has these answers to its commands, and was given these bytes
abbrev pub Serves : List (Option Seat) → ClientId → List (Option (List ℕ)) → List ℕ → Type 0
Serves slots who answers given = IfSome (desk_in slots who) (λ d. HasAnswers d answers given)

-- The answers to a client's commands and the bytes that it was given change so, if it is open, and no other client changes.
pub record ChangesSeat (old new : List (Option Seat)) (who : ClientId) (answers_to : List (Option (List ℕ)) → List (Option (List ℕ)))
    (given_to : List ℕ → List ℕ) : Type 0 where
  pub others : (other : ClientId) → is_same other who ≡ false → desk_in new other ≡ desk_in old other
  pub itself : (answers : List (Option (List ℕ))) (given : List ℕ) → Serves old who answers given → Serves new who (answers_to answers) (given_to given)
  pub stays : is_some (desk_in new who) ≡ is_some (desk_in old who)

-- each client has the bytes that it had
abbrev pub SameBytes : List (Option Seat) → List (Option Seat) → Type 0
SameBytes old new = (who : ClientId) → bytes_in new who ≡ bytes_in old who

-- a client that was not open is open, without commands, and no other client changes
pub record OpensSeat (old new : List (Option Seat)) (who : ClientId) : Type 0 where
  pub fresh : desk_in old who ≡ None
  pub others : (other : ClientId) → is_same other who ≡ false → desk_in new other ≡ desk_in old other
  pub itself : Serves new who [] []
  pub there : bytes_in new who ≡ Some []

-- the client is not open, and no other client changes
abbrev pub ClosesSeat : List (Option Seat) → List (Option Seat) → ClientId → Type 0
ClosesSeat old new who = (other : ClientId) → desk_in new other ≡ (if is_same other who then None else desk_in old other)
