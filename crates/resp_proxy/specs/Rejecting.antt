-- Why bytes of a server bring no reply.
use Rattle.std.specs.Prelude.{◌≡◌, ℕ, List, [], ◌++◌, slice_get, Some}
use Rattle.std.specs.Str.{byte}
use Rattle.resp_board.specs.declared.board.Board.{Board}
use Rattle.resp_board.specs.Runs.{begun_on}
use Rattle.resp_frames.specs.declared.error.FrameError.TheVariants as frame
use Rattle.resp_frames.specs.Framing.{RejectsByte}
use Rattle.resp_proxy.specs.declared.error.ServerError.{ServerError}
use Rattle.resp_proxy.specs.declared.error.ServerError.TheVariants as error
use Rattle.resp_scan.specs.Reading.{IsSpelled}
use Rattle.resp_value.specs.Rules.{Rules}

-- the text begins with a spelling of which this is true
pub record BeginsSpelling (rules : Rules) (text : List ℕ) (P : List ℕ → Type 0) : Type 0 where
  pub value : List ℕ
  pub rest : List ℕ
  pub whole : text ≡ value ++ rest
  pub spelled : IsSpelled rules value
  pub holds : P value

-- the value is a push; or no command waits on the line of which a byte was sent; or memory ran out
abbrev pub IsNoReply : ℕ → Board → ServerError → List ℕ → Type 0
IsNoReply line m (error.Frame e) value = ⊥
IsNoReply line m error.Push value = slice_get value 0 ≡ Some (byte ">")
IsNoReply line m error.Unasked value = begun_on m line ≡ 0
IsNoReply line m error.OutOfMemory value = Unit {0}
IsNoReply line m error.OutOfStep value = ⊥

-- a byte of the text is the first that no value could contain there; or the text begins with a value that is no reply; or
-- memory ran out
abbrev pub RejectsReply : Rules → ℕ → Board → List ℕ → ServerError → Type 0
RejectsReply rules line m text (error.Frame (frame.Fault fault)) = RejectsByte rules [] text fault
RejectsReply rules line m text (error.Frame frame.NotACommand) = ⊥
RejectsReply rules line m text (error.Frame frame.OutOfMemory) = Unit {0}
RejectsReply rules line m text error.Push = BeginsSpelling rules text (IsNoReply line m error.Push)
RejectsReply rules line m text error.Unasked = BeginsSpelling rules text (IsNoReply line m error.Unasked)
RejectsReply rules line m text error.OutOfMemory = Unit {0}
RejectsReply rules line m text error.OutOfStep = ⊥

-- the bytes that came since the last reply are the cause of the error, or memory ran out, or a reply before them is the cause
abbrev pub RefusesReply : Rules → ℕ → Board → List ℕ → ServerError → Type 0
RefusesReply rules line m text error.OutOfStep = Unit {0}
RefusesReply rules line m text e = RejectsReply rules line m text e
