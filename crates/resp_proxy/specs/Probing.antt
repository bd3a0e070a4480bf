-- Probes of the connection to the server: commands of the proxy's own, whose replies are known.
use Rattle.std.specs.Prelude.{◌≡◌, ◌⊎◌, ℕ, ◌==◌, true, false, List, ◌++◌, Option, None, Some, IfSome, Result, Err, codes}
use Rattle.std.specs.List.{starts_with}
use Rattle.resp_board.specs.Boards.{Reply, is_same}
use Rattle.resp_board.specs.Histories.{History, with_event}
use Rattle.resp_board.specs.Runs.{ClientIsFull, HasNoCommandLeft, HasRun, LacksLine, LineIsFull, waiting_for}
use Rattle.resp_board.specs.declared.board.Board.{Board}
use Rattle.resp_board.specs.declared.error.AskError.{AskError}
use Rattle.resp_board.specs.declared.error.AskError.TheVariants as refusal
use Rattle.resp_board.specs.declared.ticket.ClientId.{ClientId}
use Rattle.resp_proxy.specs.declared.error.ServerError.{ServerError}
use Rattle.resp_proxy.specs.declared.error.ServerError.TheVariants as error
use Rattle.resp_proxy.specs.Replying.{with_each_reply}

-- the command ECHO with this word of 32 bytes
abbrev pub echo_text : List ℕ → List ℕ
echo_text word = codes "*2\r\n$4\r\nECHO\r\n$32\r\n" ++ word ++ codes "\r\n"

-- the only right reply to it
abbrev pub echoed_text : List ℕ → List ℕ
echoed_text word = codes "$32\r\n" ++ word ++ codes "\r\n"

-- the replies to probes that have come and were not removed are the first of the expected ones
abbrev pub AreInStep : Option ClientId → List ℕ → Board → Type 0
AreInStep prober expected m = IfSome prober (λ who. IfSome (waiting_for m who) (λ text. starts_with (λ a b. a == b) expected text ≡ true))

-- the client sends no probes
abbrev pub IsAnother : Option ClientId → ClientId → Type 0
IsAnother prober client = IfSome prober (λ who. is_same who client ≡ false)

-- the error has its cause in the prober, in a bound of the board or in a failed allocation
abbrev pub RefusesProbe : Board → Option ClientId → ℕ → List ℕ → AskError → Type 0
RefusesProbe m None line text e = e ≡ refusal.NoClient
RefusesProbe m (Some who) line text refusal.NoClient = waiting_for m who ≡ None
RefusesProbe m (Some who) line text refusal.NoLine = LacksLine m who line
RefusesProbe m (Some who) line text refusal.ClientFull = ClientIsFull m who
RefusesProbe m (Some who) line text refusal.LineFull = LineIsFull m who line text
RefusesProbe m (Some who) line text refusal.TooMany = HasNoCommandLeft m who
RefusesProbe m (Some who) line text refusal.OutOfMemory = Unit {0}

-- Replies came, and then one more, and no reply behind it was given to anybody. Before this last reply the replies to probes
-- were the expected ones, and with it they are not.
pub record FallsOutOfStep (line : ℕ) (prober : Option ClientId) (expected : List ℕ) (p : History) (new : Board) : Type 0 where
  pub before : List (List ℕ)
  pub last : List ℕ
  pub between : Board
  pub run_before : HasRun between (with_each_reply line before p)
  pub in_step : AreInStep prober expected between
  pub run : HasRun new (with_event (Reply line last) (with_each_reply line before p))
  pub wrong : AreInStep prober expected new → ⊥

-- The replies to probes are the expected ones, unless this is the error. Then they were not so before, or the last reply that was
-- given to anybody is that of a probe and is wrong.
abbrev pub KeepsStep : ℕ → Option ClientId → List ℕ → Result (Unit {0}) ServerError → Board → History → Board → Type 0
KeepsStep line prober expected (Err error.OutOfStep) old p new =
    (AreInStep prober expected old → ⊥) ⊎ FallsOutOfStep line prober expected p new
KeepsStep line prober expected _ old p new = AreInStep prober expected new
