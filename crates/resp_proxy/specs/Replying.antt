-- The replies that are taken from the bytes of the server.
use Rattle.std.specs.Prelude.{◌≡◌, ℕ, ◌≤◌, List, [], ◌∷◌, ◌++◌, length, take, Ok, IfErr, OnOk, Result}
use Rattle.std.specs.List.{AllByRecursion, concat}
use Rattle.resp_frames.specs.declared.begun.Begun.{Begun}
use Rattle.resp_frames.specs.declared.frames.Frames.{Frames}
use Rattle.resp_frames.specs.Framing.{HasBegun, IsReady, WhereBegun, frame_rules}
use Rattle.resp_board.specs.Boards.{Reply}
use Rattle.resp_board.specs.Histories.{History, with_event}
use Rattle.resp_board.specs.Runs.{HasRun, KeepsOpen, WhereRun}
use Rattle.resp_board.specs.declared.board.Board.{Board}
use Rattle.resp_board.specs.declared.ticket.ClientId.{ClientId}
use Rattle.resp_proxy.specs.declared.error.ServerError.{ServerError}
use Rattle.resp_proxy.specs.Rejecting.{RefusesReply}
use Rattle.resp_proxy.specs.Telling.{Answers, Tells}
use Rattle.resp_scan.specs.Reading.{IsSpelled}
use Rattle.resp_value.specs.Rules.{Rules}

-- the server sent these replies, in order: each is the answer to the first command without one
abbrev pub with_each_reply : ℕ → List (List ℕ) → History → History
with_each_reply line [] p = p
with_each_reply line (reply ∷ replies) p = with_each_reply line replies (with_event (Reply line reply) p)

-- After this had passed, bytes of the server were these whole replies and then other bytes, and each reply went to the
-- client of its command. The other bytes are begun. After an error they are its cause, and they are lost.
pub record TakesReplies (rules : Rules) (line : ℕ) (bytes : List ℕ) (b : Begun) (end : Result (Unit {0}) ServerError) (p : History) (new : Board) : Type 0 where
  pub replies : List (List ℕ)
  pub after : List ℕ
  pub whole : bytes ≡ concat replies ++ after
  pub spelled : AllByRecursion (IsSpelled rules) replies
  pub run : HasRun new (with_each_reply line replies p)
  pub begun : OnOk end (HasBegun rules b after)
  pub refused : IfErr end (RefusesReply rules line new after)

-- these bytes of a piece were taken
pub record HasReplied (line : ℕ) (frames : Frames) (b : Begun) (old : Board) (queued : List ClientId) (piece : List ℕ) (used : ℕ)
    (frames' : Frames) (b' : Begun) (new : Board) (queued' : List ClientId) : Type 0 where
  pub within : used ≤ length piece
  pub ready : IsReady frames → IsReady frames'
  pub same_rules : frame_rules frames' ≡ frame_rules frames
  pub clients : KeepsOpen old new
  pub answers : Answers line old new
  pub tells : Tells line queued queued' old new
  pub taken : WhereBegun frames b (λ front. WhereRun old (λ p.
      TakesReplies (frame_rules frames) line (front ++ take used piece) b' (Ok tt) p new))
