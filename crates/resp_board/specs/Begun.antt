-- Which commands the bytes that were sent begin, by the lengths of the commands.
use Rattle.std.specs.Prelude.{◌≡◌, ℕ, ◌+◌, ◌<◌, ◌≤◌, List, [], ◌∷◌, drop, length, take}
use Rattle.resp_board.specs.declared.ticket.Ticket.{Ticket}

-- all of these together
abbrev pub total : List ℕ → ℕ
total [] = 0
total (n ∷ ns) = n + total ns

-- at most the commands that wait are unbegun, and the bytes that wait are those that are left and those of the unbegun
pub record IsCounted (waiting : List Ticket) (unbegun : List ℕ) (left : ℕ) (unsent : List ℕ) : Type 0 where
  pub within : length unbegun ≤ length waiting
  pub bytes : length unsent ≡ left + total unbegun

-- More bytes were sent than are left of a command: they begin the next commands, of these lengths, and these bytes are left of
-- the last.
pub record BeginsMore (count : ℕ) (unbegun : List ℕ) (left : ℕ) (unbegun' : List ℕ) (left' : ℕ) : Type 0 where
  pub more : ℕ
  pub within : more ≤ length unbegun
  pub others : unbegun' ≡ drop more unbegun
  pub bytes : count + left' ≡ left + total (take more unbegun)
  pub fewest : (fewer : ℕ) → fewer < more → left + total (take fewer unbegun) < count
