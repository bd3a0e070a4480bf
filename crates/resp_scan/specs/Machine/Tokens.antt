-- The place of a scanner: a token within open frames, under limits.
use Rattle.std.specs.Prelude.{ℕ, Bool, cond, eqb, ℤ, List, [], ◌∷◌, Option}
use Rattle.resp_value.specs.Bounds.{Bounds}
use Rattle.resp_value.specs.declared.cause.Cause.{Cause}
use Rattle.resp_value.specs.declared.double_stage.DoubleStage.{DoubleStage}
use Rattle.resp_value.specs.declared.version.Version.{Version}
use Rattle.resp_scan.specs.declared.event.TextKind.{TextKind}
use Rattle.resp_value.specs.declared.kind.OpenKind.{OpenKind}
use Rattle.resp_scan.specs.declared.frame.Frame.{Frame}
use Rattle.resp_scan.specs.declared.frame.Shape.{Shape}
use Rattle.resp_scan.specs.declared.frame.Shape.TheVariants.{Left, Begun}
use Rattle.resp_scan.specs.declared.machine.Head.{Head}

-- the meaning of the bytes since the last event that ended something
pub data Token : Type 0 where
  -- before a value's first byte, or before a close
  AtStart : Token
  -- an aggregate's close or the end of the value is due
  AtEnd : Token
  -- a line for which the limit of length leaves this many bytes
  InLine : ℕ → Token
  -- a double at this stage, for which the limit of length leaves this many bytes
  InDouble : DoubleStage → ℕ → Token
  AtLineLf : Token
  AtIntSign : Token
  -- an integer of this sign, with the digits so far
  AtIntFirst : Bool → Token
  InInt : Bool → ℕ → Token
  AtIntLf : Bool → ℕ → Token
  AtBigSign : Token
  AtBigFirst : Bool → Token
  InBigZeros : Bool → Token
  AtBigZeroLf : Token
  -- a digit is due as a part; the limit of length leaves this many more
  AtBigDigit : ℕ → ℕ → Token
  InBig : ℕ → Token
  -- the end of a text is due
  AtTextEnd : Token
  AtNullOne : Token
  AtNullCr : Token
  AtNullLf : Token
  AtBool : Token
  AtBoolCr : Bool → Token
  AtBoolLf : Bool → Token
  AtBulkHead : Token
  AtArrayHead : Token
  -- a head, with its number so far
  AtHead : Head → Token
  InHead : Head → ℕ → Token
  AtHeadLf : Head → ℕ → Token
  -- a verbatim string's format so far, and the number of bytes that its head counts
  AtFormat : ℕ → Token
  AtFormatSecond : ℕ → ℕ → Token
  AtFormatThird : ℕ → ℕ → ℕ → Token
  AtFormatColon : List ℕ → ℕ → Token
  -- counted content, of which this many bytes are to come
  InContent : ℕ → Token
  AtContentCr : Token
  AtContentLf : Token
  AtStreamCr : Token
  AtStreamLf : Token
  -- a streamed string for which the limit of length leaves this many bytes, and the bytes to come of a chunk
  AtChunk : ℕ → Token
  InChunk : ℕ → ℕ → Token
  AtChunkCr : ℕ → Token
  AtChunkLf : ℕ → Token
  AtOpenCr : OpenKind → Token
  AtOpenLf : OpenKind → Token
  AtCloseCr : Token
  AtCloseLf : Token
  Dead : Cause → Token

-- the place of a scanner
pub record Place : Type 0 where
  pub token : Token
  -- the innermost first
  pub frames : List Frame
  pub version : Version
  pub bounds : Bounds
  -- the number of bytes of the outermost value that were read before the piece
  pub taken : ℕ
  -- the least number of bytes that close the frames after the token has ended
  pub frames_need : ℕ

-- the content of an event, apart from its bytes
pub data Happening : Type 0 where
  Null : Happening
  Truth : Bool → Happening
  Int : ℤ → Happening
  Text : TextKind → Happening
  -- the one digit of a big number
  Digit : ℕ → Happening
  TextEnd : Happening
  Open : OpenKind → Option ℕ → Happening
  Close : Happening

-- the effect of one byte
pub data Move : Type 0 where
  Go : Place → Move
  -- the byte is content
  Byte : Place → Move
  Give : Happening → Place → Move
  Refuse : Cause → Move

-- the place at another token
abbrev pub at : Place → Token → Place
at s t = record s { token = t }

-- after a member of a counted aggregate its close may be due
abbrev pub token_in_shape : Shape → Token
token_in_shape (Left n) = cond (eqb n 0) AtEnd AtStart
token_in_shape (Begun n) = AtStart

-- the token after a value has ended or an aggregate has opened, within these frames
abbrev pub token_at_boundary : List Frame → Token
token_at_boundary [] = AtEnd
token_at_boundary (f ∷ fs) = token_in_shape f.shape

-- the place after the end of a value or the head of an aggregate
abbrev pub at_boundary : Place → Place
at_boundary s = record s { token = token_at_boundary s.frames }
