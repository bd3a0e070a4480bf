-- The clients that were replied to and were not asked for yet.
use Rattle.std.specs.Prelude.{◌≡◌, ℕ, true, false, List, ◌++◌, ◌∷◌}
use Rattle.std.specs.List.{AllByRecursion}
use Rattle.resp_board.specs.Runs.{KeepsAllBut, KeepsOthers, clients_on, is_among}
use Rattle.resp_board.specs.declared.board.Board.{Board}
use Rattle.resp_board.specs.declared.ticket.ClientId.{ClientId}

-- Clients were queued behind those that were queued before. Each of them had a command that waited. Each client that is not
-- queued has the bytes that it had.
pub record Tells (line : ℕ) (queued queued' : List ClientId) (old new : Board) : Type 0 where
  pub added : List ClientId
  pub behind : queued' ≡ queued ++ added
  pub waited : AllByRecursion (λ (who : ClientId). is_among who (clients_on old line) ≡ true) added
  pub others : KeepsAllBut queued' old new

-- these commands that waited have their replies
pub record Answers (line : ℕ) (old new : Board) : Type 0 where
  pub answered : List ClientId
  pub first : clients_on old line ≡ answered ++ clients_on new line

-- the client is queued, and no other was added
pub record Notes (who : ClientId) (queued queued' : List ClientId) : Type 0 where
  pub added : List ClientId
  pub behind : queued' ≡ queued ++ added
  pub only : AllByRecursion (λ (other : ClientId). other ≡ who) added
  pub there : is_among who queued' ≡ true

-- each client that is not queued is none of these
abbrev pub Covers : List ClientId → List ClientId → Type 0
Covers clients queued = (who : ClientId) → is_among who queued ≡ false → is_among who clients ≡ false

-- clients among these were queued behind those that were queued before
pub record NotesSome (clients queued queued' : List ClientId) : Type 0 where
  pub added : List ClientId
  pub behind : queued' ≡ queued ++ added
  pub only : AllByRecursion (λ (who : ClientId). is_among who clients ≡ true) added

-- the command of this client waited first on a line, and each other client has the bytes that it had
pub record IsFor (line : ℕ) (who : ClientId) (old new : Board) : Type 0 where
  pub first : clients_on old line ≡ who ∷ clients_on new line
  pub others : KeepsOthers who old new
