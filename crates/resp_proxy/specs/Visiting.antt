-- The bytes that a visit reads and writes.
use Rattle.std.specs.Prelude.{◌≡◌, ◌⊎◌, ℕ, true, false, List, [], ◌++◌, length, Option, None, Some, IfSome, MatchOption, Result, Ok, Err}
use Rattle.resp_frames.specs.declared.begun.Begun.{Begun}
use Rattle.resp_board.specs.Histories.{board_of, due_on, with_bytes, with_given}
use Rattle.resp_board.specs.Runs.{HasRun, WhereRun, unsent_on, waiting_count, waiting_for}
use Rattle.resp_board.specs.declared.board.Board.{Board}
use Rattle.resp_board.specs.declared.ticket.ClientId.{ClientId}
use Rattle.resp_proxy.specs.Clients.{client_id, is_closing, waits_for_room}
use Rattle.resp_proxy.specs.declared.client.Client.{Client}
use Rattle.resp_proxy.specs.declared.route.Route.{Route}
use Rattle.resp_proxy.specs.declared.error.ClientError.{ClientError}
use Rattle.resp_proxy.specs.declared.error.ClientError.TheVariants as error
use Rattle.resp_proxy.specs.declared.error.ServerError.{ServerError}
use Rattle.resp_proxy.specs.declared.visit.Read.{Read}
use Rattle.resp_proxy.specs.declared.visit.Read.TheVariants as read
use Rattle.resp_proxy.specs.Replying.{TakesReplies}
use Rattle.resp_proxy.specs.Taking.{TakesIn}
use Rattle.resp_proxy.specs.Terms.{Terms}
use Rattle.resp_io.specs.Devices.{Appends, count_after}
use Rattle.resp_value.specs.Rules.{Rules}

-- Bytes were read. If the device's remaining input is known, they are its first bytes.
abbrev pub HaveCome : Option (List ℕ) → Option (List ℕ) → List ℕ → Type 0
HaveCome None after came = Unit {0}
HaveCome (Some left) after came = (rest : List ℕ) × (left ≡ came ++ rest) × (after ≡ Some rest)

-- the bytes are the first of these
abbrev pub BeginWith : List ℕ → List ℕ → Type 0
BeginWith text front = (rest : List ℕ) × (text ≡ front ++ rest)

-- The bytes are the first that wait for an open client. With those that it was given, the bytes that wait are the answers to
-- its own commands in order, up to the first that is missing.
pub record IsOwed (who : ClientId) (gone text : List ℕ) (m : Board) : Type 0 where
  pub front : BeginWith text gone
  pub answers : WhereRun m (λ p. p.given who ++ text ≡ due_on who (board_of p))

-- no bytes wait for the client
abbrev pub HasNothingFor : Board → ClientId → Type 0
HasNothingFor m who = IfSome (waiting_for m who) (λ text. text ≡ [])

-- no command of the client waits
abbrev pub HasNoCommand : Board → ClientId → Type 0
HasNoCommand m who = IfSome (waiting_count m who) (λ count. count ≡ 0)

-- the client is closing, and nothing waits for it
pub record IsDone (m : Board) (c : Client) : Type 0 where
  pub closing : is_closing c ≡ true
  pub bytes : HasNothingFor m (client_id c)
  pub commands : HasNoCommand m (client_id c)

-- Bytes were written, and the client was given them. It was owed them.
pub record GivesSome (out out' : Option (List ℕ)) (who : ClientId) (old new : Board) : Type 0 where
  pub gone : List ℕ
  pub written : Appends out out' gone
  pub owed : MatchOption (waiting_for old who) (gone ≡ []) (λ text. IsOwed who gone text old)
  pub run : WhereRun old (λ p. HasRun new (with_given who gone p))

-- Bytes were written, and the server was sent them. They are the first that waited for it.
pub record SendsSome (line : ℕ) (out out' : Option (List ℕ)) (old new : Board) : Type 0 where
  pub gone : List ℕ
  pub written : Appends out out' gone
  pub front : BeginWith (unsent_on old line) gone
  pub run : WhereRun old (λ p. HasRun new (with_bytes line gone p))

-- Bytes were taken, and no command was refused. Or none was read. Or the client is closing because of this error.
abbrev pub TellsRead : Read → Result (Unit {0}) ClientError → List ℕ → Type 0
TellsRead read.Some end came = end ≡ Ok tt
TellsRead read.Full end came = (end ≡ Ok tt) × (came ≡ [])
TellsRead read.Failed end came = (end ≡ Ok tt) × (came ≡ [])
TellsRead read.Ended end came = (end ≡ Err error.Closing) × (came ≡ [])
TellsRead (read.Closing e) end came = (end ≡ Err e) ⊎ ((e ≡ error.Closing) × (end ≡ Ok tt) × (came ≡ []))

-- A read was made if the client was not closing, there was room for a command of it, and no bytes waited for room. The result is
-- `Failed` only if the read failed, and `Ended` only at the end of the bytes.
pub record TriesRead (c : Client) (room : Type 0) (result : Read) (left : Option (List ℕ)) (calls calls' failures failures' : ℕ) : Type 0 where
  pub made : is_closing c ≡ false → room → waits_for_room c ≡ [] → calls' ≡ count_after 1 calls
  pub failed : result ≡ read.Failed → failures' ≡ count_after 1 failures
  pub ended : result ≡ read.Ended → IfSome left (λ bytes. bytes ≡ [])

-- Bytes were read, and they came from this client.
pub record ReadsClient (terms : Terms) (route : Route) (left left' : Option (List ℕ)) (held : List ℕ) (c : Client) (result : Read)
    (old new : Board) : Type 0 where
  pub came : List ℕ
  pub come : HaveCome left left' came
  pub end : Result (Unit {0}) ClientError
  pub told : TellsRead result end came
  pub takes : TakesIn terms route (held ++ came) c end old new

-- Bytes were read, and they came from this client. Then bytes were written that this client was owed.
pub record VisitsClient (terms : Terms) (route : Route) (left left' out out' : Option (List ℕ)) (held : List ℕ) (c : Client) (result : Read)
    (old new : Board) : Type 0 where
  pub between : Board
  pub reads : ReadsClient terms route left left' held c result old between
  pub gives : GivesSome out out' route.client between new

-- This many bytes were read, or none if there is no number, and they came from the server.
pub record ReadsServer (rules : Rules) (line : ℕ) (left left' : Option (List ℕ)) (front : List ℕ) (b : Begun) (count : Option ℕ)
    (end : Result (Unit {0}) ServerError) (old new : Board) : Type 0 where
  pub came : List ℕ
  pub come : HaveCome left left' came
  pub counted : MatchOption count (came ≡ []) (λ n. length came ≡ n)
  pub takes : WhereRun old (λ p. TakesReplies rules line (front ++ came) b end p new)

-- Bytes were read, and they came from the server. Then bytes were written that waited for it.
pub record VisitsServer (rules : Rules) (line : ℕ) (left left' out out' : Option (List ℕ)) (front : List ℕ) (b : Begun) (count : Option ℕ)
    (end : Result (Unit {0}) ServerError) (old new : Board) : Type 0 where
  pub between : Board
  pub reads : ReadsServer rules line left left' front b count end old between
  pub sends : SendsSome line out out' between new
