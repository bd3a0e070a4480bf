-- The machine, byte by byte: the place after one more byte.
use Rattle.std.specs.Prelude.{ℕ, ◌+◌, ◌-◌, ◌*◌, ◌%◌, Bool, true, false, ℤ, pos, cond, eqb, nat_le, List, [], ◌∷◌, Option, None, Some}
use Rattle.std.specs.Str.{byte}
use Rattle.std.proofs.Common.{neg_ℤ}
pub use Rattle.resp_value.specs.DoubleStages.{is_digit}
use Rattle.resp_value.specs.DoubleStages.{stage_after, stage_needs}
use Rattle.resp_value.specs.declared.double_stage.DoubleStage.{DoubleStage}
use Rattle.resp_value.specs.declared.double_stage.DoubleStage.TheVariants.{Begun as DoubleBegun}
use Rattle.resp_value.specs.declared.cause.Cause.{Cause}
use Rattle.resp_value.specs.declared.cause.Cause.TheVariants as cause
use Rattle.resp_value.specs.declared.version.Version.{Version}
use Rattle.resp_value.specs.declared.version.Version.TheVariants as version
use Rattle.resp_value.specs.declared.kind.OpenKind.{OpenKind}
use Rattle.resp_value.specs.declared.kind.OpenKind.TheVariants as kind
use Rattle.resp_scan.specs.declared.event.TextKind.TheVariants as text
use Rattle.resp_scan.specs.declared.frame.Frame.{Frame}
use Rattle.resp_scan.specs.declared.frame.Shape.{Shape}
use Rattle.resp_scan.specs.declared.frame.Shape.TheVariants.{Left, Begun}
use Rattle.resp_scan.specs.declared.machine.Head.{Head}
use Rattle.resp_scan.specs.declared.machine.Head.TheVariants as head
use Rattle.resp_scan.specs.Machine.Magnitudes.{greatest_magnitude}
use Rattle.resp_scan.specs.Machine.Tokens.{Token, Place, Happening, Move, Go, Byte, Give, Refuse, at, at_boundary, Null, Truth, Int, Text, TextEnd, Open, Close, AtStart, AtEnd, InLine, InDouble, AtLineLf, AtIntSign, AtIntFirst, InInt, AtIntLf, AtBigSign, AtBigFirst, InBigZeros, AtBigZeroLf, AtBigDigit, InBig, AtTextEnd, AtNullOne, AtNullCr, AtNullLf, AtBool, AtBoolCr, AtBoolLf, AtBulkHead, AtArrayHead, AtHead, InHead, AtHeadLf, AtFormat, AtFormatSecond, AtFormatThird, AtFormatColon, InContent, AtContentCr, AtContentLf, AtStreamCr, AtStreamLf, AtChunk, InChunk, AtChunkCr, AtChunkLf, AtOpenCr, AtOpenLf, AtCloseCr, AtCloseLf, Dead}
use Rattle.resp_scan.specs.Machine.Room.{has_total_room, over_total, is_full, after_begin, begin_cause, with_shape}
use Rattle.resp_scan.specs.Machine.Heads.{over, may_end, streamed_kind, string_cause, aggregate_cause, after_streamed_open, content_at, chunk_at, head_move, first_needed}

-- the integer of this magnitude, with or without a minus
abbrev pub with_sign : Bool → ℕ → ℤ
with_sign true n = neg_ℤ (pos n)
with_sign false n = pos n

-- a move, unless a cause rejects it
abbrev pub move_unless : Option Cause → Move → Move
move_unless None v = v
move_unless (Some c) v = Refuse c

-- only this byte may follow
abbrev pub only_byte : ℕ → ℕ → Move → Move
only_byte x b v = cond (eqb b x) v (Refuse cause.Syntax)

-- Digits and lines.

-- a digit of an integer that makes its magnitude n: in range, and then within total
abbrev pub int_digit : Place → ℕ → Bool → ℕ → Move
int_digit s used negative n = cond (nat_le n (greatest_magnitude negative))
    (cond (has_total_room s used 2) (Go (at s (InInt negative n))) (Refuse cause.Total)) (Refuse cause.Range)

-- an integer's first digit
abbrev pub int_first : Place → Bool → ℕ → Move
int_first s negative b = cond (is_digit b) (Go (at s (InInt negative (b - byte "0")))) (Refuse cause.Syntax)

-- a digit other than zero begins the text
abbrev pub big_digit : Place → Bool → ℕ → Move
big_digit s negative b = cond (eqb b (byte "0")) (Go (at s (InBigZeros negative)))
    (Give (Text (text.Big negative)) (at s (AtBigDigit b (s.bounds.length - 1))))

-- a big number's first digit
abbrev pub big_first : Place → Bool → ℕ → Move
big_first s negative b = cond (is_digit b) (big_digit s negative b) (Refuse cause.Syntax)

-- a byte of content for which the limit of length leaves this many bytes, unless length or total rejects it
abbrev pub content_byte : Place → ℕ → ℕ → (ℕ → Token) → Move
content_byte s used room token = cond (eqb room 0) (Refuse cause.Length)
    (cond (has_total_room s used 2) (Byte (at s (token (room - 1)))) (Refuse cause.Total))

-- a byte of a double that leads to this stage, unless length or total leaves too little for what the double then needs
abbrev pub double_byte : Place → ℕ → ℕ → DoubleStage → Move
double_byte s used room next = cond (nat_le room (stage_needs next)) (Refuse cause.Length)
    (cond (has_total_room s used (stage_needs next + 2)) (Byte (at s (InDouble next (room - 1)))) (Refuse cause.Total))

-- a byte of a double, given the stage that it leads to; only CR may follow where it leads to none
abbrev pub double_next : Place → ℕ → ℕ → DoubleStage → ℕ → Option DoubleStage → Move
double_next s used room stage b None = cond (eqb (stage_needs stage) 0) (only_byte (byte "\r") b (Go (at s AtLineLf)))
    (Refuse cause.Syntax)
double_next s used room stage b (Some next) = double_byte s used room next

-- Heads.

-- the `?` of a head that may be streamed
abbrev pub streamed_move : Place → ℕ → Option OpenKind → Move
streamed_move s used None = Refuse cause.Syntax
streamed_move s used (Some k) = move_unless (aggregate_cause s used) (Go (at s (AtOpenCr k)))

-- a digit of a head that makes its number n
abbrev pub head_digit : Place → ℕ → Head → ℕ → Move
head_digit s used h n = move_unless (over s used h n) (Go (at s (InHead h n)))

-- a head's first byte after its type byte
abbrev pub head_first : Place → ℕ → Head → ℕ → Move
head_first s used h b =
    cond (eqb b (byte "?")) (streamed_move s used (streamed_kind h))
    (cond (is_digit b) (head_digit s used h (b - byte "0")) (Refuse cause.Syntax))

-- the byte after `$`
abbrev pub bulk_head : Place → ℕ → ℕ → Move
bulk_head s used b =
    cond (eqb b (byte "-")) (Go (at s AtNullOne))
    (cond (eqb b (byte "?")) (move_unless (string_cause s used) (Go (at s AtStreamCr))) (head_first s used head.Bulk b))

-- the cause of rejecting the `?` of an array that exceeds the limit of depth
abbrev pub full_streamed : Version → Bool → Cause
full_streamed version.Two streamed = cause.Version
full_streamed version.Three streamed = cond streamed cause.Depth cause.Streamed

-- the cause of rejecting a byte, other than `-`, after the `*` of an array that exceeds the limit of depth
abbrev pub full_cause : Place → ℕ → Cause
full_cause s b = cond (eqb b (byte "?")) (full_streamed s.version s.bounds.streamed)
    (cond (is_digit b) cause.Depth cause.Syntax)

-- the byte after `*`
abbrev pub array_head : Place → ℕ → ℕ → Move
array_head s used b =
    cond (eqb b (byte "-")) (move_unless (over_total s used 3) (Go (at s AtNullOne)))
    (cond (is_full s) (Refuse (full_cause s b)) (head_first s used head.Array b))

-- A value's first byte.

-- a member begins that needs this many bytes after this byte
abbrev pub begin_move : Place → ℕ → Token → Move
begin_move s needed t = move_unless (begin_cause s needed) (Go (at (after_begin s) t))

-- a line begins, with its event
abbrev pub line_move : Place → Happening → Move
line_move s e = move_unless (begin_cause s 2) (Give e (at (after_begin s) (InLine s.bounds.length)))

-- a double begins, with its event
abbrev pub double_line_move : Place → Move
double_line_move s = move_unless (begin_cause s 3)
    (Give (Text text.Double) (at (after_begin s) (InDouble DoubleBegun s.bounds.length)))

-- an aggregate of version 3 begins, unless it exceeds the limit of depth
abbrev pub aggregate_move : Place → Head → Move
aggregate_move s h = cond (is_full s) (Refuse cause.Depth) (begin_move s (first_needed h) (AtHead h))

-- a push begins, only as the outermost value
abbrev pub push_move : Place → List Frame → Move
push_move s [] = aggregate_move s head.Push
push_move s (f ∷ fs) = Refuse cause.NestedPush

-- a form that only version 3 has
abbrev pub move_in_three : Version → Move → Move
move_in_three version.Two v = Refuse cause.Version
move_in_three version.Three v = v

-- whether a streamed aggregate of this shape may close
abbrev pub may_close_of : OpenKind → Shape → Bool
may_close_of k (Left n) = false
may_close_of kind.Map (Begun n) = eqb (n % 2) 0
may_close_of _ (Begun n) = true

-- whether the innermost aggregate may close
abbrev pub may_close : List Frame → Bool
may_close [] = false
may_close (f ∷ fs) = may_close_of f.kind f.shape

-- a double begins, if doubles are allowed
abbrev pub double_move : Place → Move
double_move s = cond s.bounds.doubles (move_in_three s.version (double_line_move s)) (Refuse cause.Double)

-- a streamed aggregate closes, and a map only between whole pairs
abbrev pub close_move : Place → Move
close_move s = cond (may_close s.frames) (Go (record s {
  token = AtCloseCr;
  frames =
      with_shape (Left 0) s.frames;
  frames_need = s.frames_need - 3;
})) (Refuse cause.Syntax)

-- a first byte that only version 3 has
abbrev pub start_three : Place → ℕ → Move
start_three s b =
    cond (eqb b (byte "_")) (move_in_three s.version (begin_move s 2 AtNullCr))
    (cond (eqb b (byte "#")) (move_in_three s.version (begin_move s 3 AtBool))
    (cond (eqb b (byte "(")) (move_in_three s.version (begin_move s 3 AtBigSign))
    (cond (eqb b (byte "!")) (move_in_three s.version (begin_move s 5 (AtHead head.BulkError)))
    (cond (eqb b (byte "=")) (move_in_three s.version (begin_move s 9 (AtHead head.Verbatim)))
    (cond (eqb b (byte "~")) (move_in_three s.version (aggregate_move s head.Set))
    (cond (eqb b (byte "%")) (move_in_three s.version (aggregate_move s head.Map))
    (cond (eqb b (byte "|")) (move_in_three s.version (aggregate_move s head.Attr))
    (cond (eqb b (byte ">")) (move_in_three s.version (push_move s s.frames))
    (Refuse cause.Syntax)))))))))

-- a first byte
abbrev pub start_next : Place → ℕ → Move
start_next s b =
    cond (eqb b (byte "+")) (line_move s (Text text.Simple))
    (cond (eqb b (byte "-")) (line_move s (Text text.Error))
    (cond (eqb b (byte ":")) (begin_move s 3 AtIntSign)
    (cond (eqb b (byte "$")) (begin_move s 4 AtBulkHead)
    (cond (eqb b (byte "*")) (begin_move s (cond (is_full s) 4 3) AtArrayHead)
    (cond (eqb b (byte ".")) (close_move s)
    (cond (eqb b (byte ",")) (double_move s)
    (start_three s b)))))))

-- the frames around the innermost
abbrev pub without_first : List Frame → List Frame
without_first [] = []
without_first (f ∷ fs) = fs

-- One line for a token, or a few.
abbrev pub next_in : Token → Place → ℕ → ℕ → Move
next_in AtStart s used b = start_next s b
next_in AtEnd s used b = Refuse cause.Syntax
next_in (InLine room) s used b =
    cond (eqb b (byte "\r")) (Go (at s AtLineLf))
    (cond (eqb b (byte "\n")) (Refuse cause.Syntax) (content_byte s used room InLine))
next_in (InDouble stage room) s used b = double_next s used room stage b (stage_after stage b)
next_in AtLineLf s used b = only_byte (byte "\n") b (Give TextEnd (at_boundary s))
next_in AtIntSign s used b =
    cond (eqb b (byte "-")) (move_unless (over_total s used 3) (Go (at s (AtIntFirst true))))
    (cond (eqb b (byte "+")) (move_unless (over_total s used 3) (Go (at s (AtIntFirst false)))) (int_first s false b))
next_in (AtIntFirst negative) s used b = int_first s negative b
next_in (InInt negative n) s used b =
    cond (is_digit b) (int_digit s used negative (n * 10 + (b - byte "0")))
    (only_byte (byte "\r") b (Go (at s (AtIntLf negative n))))
next_in (AtIntLf negative n) s used b = only_byte (byte "\n") b (Give (Int (with_sign negative n)) (at_boundary s))
next_in AtBigSign s used b =
    cond (eqb b (byte "-")) (move_unless (over_total s used 3) (Go (at s (AtBigFirst true))))
    (cond (eqb b (byte "+")) (move_unless (over_total s used 3) (Go (at s (AtBigFirst false)))) (big_first s false b))
next_in (AtBigFirst negative) s used b = big_first s negative b
next_in (InBigZeros negative) s used b =
    cond (is_digit b) (cond (has_total_room s used 2) (big_digit s negative b) (Refuse cause.Total))
    (only_byte (byte "\r") b (Go (at s AtBigZeroLf)))
next_in AtBigZeroLf s used b = only_byte (byte "\n") b (Give (Text (text.Big false)) (at s AtTextEnd))
next_in (AtBigDigit d room) s used b = Refuse cause.Syntax
next_in (InBig room) s used b =
    cond (is_digit b) (content_byte s used room InBig) (only_byte (byte "\r") b (Go (at s AtLineLf)))
next_in AtTextEnd s used b = Refuse cause.Syntax
next_in AtNullOne s used b = only_byte (byte "1") b (Go (at s AtNullCr))
next_in AtNullCr s used b = only_byte (byte "\r") b (Go (at s AtNullLf))
next_in AtNullLf s used b = only_byte (byte "\n") b (Give Null (at_boundary s))
next_in AtBool s used b = cond (eqb b (byte "t")) (Go (at s (AtBoolCr true)))
    (only_byte (byte "f") b (Go (at s (AtBoolCr false))))
next_in (AtBoolCr v) s used b = only_byte (byte "\r") b (Go (at s (AtBoolLf v)))
next_in (AtBoolLf v) s used b = only_byte (byte "\n") b (Give (Truth v) (at_boundary s))
next_in AtBulkHead s used b = bulk_head s used b
next_in AtArrayHead s used b = array_head s used b
next_in (AtHead h) s used b = head_first s used h b
next_in (InHead h n) s used b =
    cond (is_digit b) (head_digit s used h (n * 10 + (b - byte "0")))
    (cond (may_end h n) (only_byte (byte "\r") b (Go (at s (AtHeadLf h n)))) (Refuse cause.Syntax))
next_in (AtHeadLf h n) s used b = only_byte (byte "\n") b (head_move s h n)
next_in (AtFormat n) s used b = Go (at s (AtFormatSecond b n))
next_in (AtFormatSecond x n) s used b = Go (at s (AtFormatThird x b n))
next_in (AtFormatThird x y n) s used b = Go (at s (AtFormatColon (x ∷ y ∷ b ∷ []) n))
next_in (AtFormatColon format n) s used b = only_byte (byte ":") b
    (Give (Text (text.Verbatim format)) (content_at (n - 4) s))
next_in (InContent n) s used b = Byte (content_at (n - 1) s)
next_in AtContentCr s used b = only_byte (byte "\r") b (Go (at s AtContentLf))
next_in AtContentLf s used b = only_byte (byte "\n") b (Give TextEnd (at_boundary s))
next_in AtStreamCr s used b = only_byte (byte "\r") b (Go (at s AtStreamLf))
next_in AtStreamLf s used b = only_byte (byte "\n") b (Give (Text text.Bulk) (at s (AtChunk s.bounds.length)))
next_in (AtChunk room) s used b = only_byte (byte ";") b (Go (at s (AtHead (head.Chunk room))))
next_in (InChunk room n) s used b = Byte (chunk_at room (n - 1) s)
next_in (AtChunkCr room) s used b = only_byte (byte "\r") b (Go (at s (AtChunkLf room)))
next_in (AtChunkLf room) s used b = only_byte (byte "\n") b (Go (at s (AtChunk room)))
next_in (AtOpenCr k) s used b = only_byte (byte "\r") b (Go (at s (AtOpenLf k)))
next_in (AtOpenLf k) s used b = only_byte (byte "\n") b (Give (Open k None) (after_streamed_open s k))
next_in AtCloseCr s used b = only_byte (byte "\r") b (Go (at s AtCloseLf))
next_in AtCloseLf s used b = only_byte (byte "\n") b
    (Give Close (at_boundary (record s { frames = without_first s.frames })))
next_in (Dead c) s used b = Refuse c

-- the effect of one more byte, the last of this many bytes of the piece
abbrev pub next : Place → ℕ → ℕ → Move
next s used b = next_in s.token s used b
