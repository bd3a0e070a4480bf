-- The meaning of the fields of a machine.
use Rattle.std.specs.Prelude.{◌≡◌, ℕ, ◌+◌, List, drop, reverse, slice_index, Some, None}
use Rattle.resp_scan.specs.declared.machine.State.{State}
use Rattle.resp_scan.specs.declared.machine.State.TheVariants as state
use Rattle.resp_scan.specs.declared.machine.EventTag.{EventTag}
use Rattle.resp_scan.specs.declared.machine.EventTag.TheVariants as tag
use Rattle.resp_scan.specs.declared.machine.Machine.{Machine}
use Rattle.resp_scan.specs.declared.machine.Advance.{Advance}
use Rattle.resp_scan.specs.declared.event.TextKind.TheVariants as text
use Rattle.resp_scan.specs.Machine.Tokens.{Token, Place, at, token_at_boundary, Null, Truth, Int, Text, Digit, TextEnd, Open, Close, AtStart, InLine, InDouble, AtLineLf, AtIntSign, AtIntFirst, InInt, AtIntLf, AtBigSign, AtBigFirst, InBigZeros, AtBigZeroLf, AtBigDigit, InBig, AtTextEnd, AtNullOne, AtNullCr, AtNullLf, AtBool, AtBoolCr, AtBoolLf, AtBulkHead, AtArrayHead, AtHead, InHead, AtHeadLf, AtFormat, AtFormatSecond, AtFormatThird, AtFormatColon, InContent, AtContentCr, AtContentLf, AtStreamCr, AtStreamLf, AtChunk, InChunk, AtChunkCr, AtChunkLf, AtOpenCr, AtOpenLf, AtCloseCr, AtCloseLf, Dead}
use Rattle.resp_scan.specs.Machine.Scan.{Out, More, Gave, Part, Whole, Bad, scan}

-- the token of a state, with the fields that it uses
abbrev pub token_at : State → Machine → Token
token_at state.Start m = AtStart
token_at state.Boundary m = token_at_boundary (reverse m.frames.items)
token_at state.Line m = InLine m.room
token_at state.LineLf m = AtLineLf
token_at state.Double m = InDouble m.stage m.room
token_at state.IntSign m = AtIntSign
token_at state.IntFirst m = AtIntFirst m.negative
token_at state.Int m = InInt m.negative m.magnitude
token_at state.IntLf m = AtIntLf m.negative m.magnitude
token_at state.BigSign m = AtBigSign
token_at state.BigFirst m = AtBigFirst m.big_negative
token_at state.BigZeros m = InBigZeros m.big_negative
token_at state.BigZeroLf m = AtBigZeroLf
token_at state.BigDigit m = AtBigDigit m.digit m.room
token_at state.Big m = InBig m.room
token_at state.TextEnd m = AtTextEnd
token_at state.NullOne m = AtNullOne
token_at state.NullCr m = AtNullCr
token_at state.NullLf m = AtNullLf
token_at state.Bool m = AtBool
token_at state.BoolCr m = AtBoolCr m.truth
token_at state.BoolLf m = AtBoolLf m.truth
token_at state.BulkHead m = AtBulkHead
token_at state.ArrayHead m = AtArrayHead
token_at state.HeadFirst m = AtHead m.head
token_at state.HeadMore m = InHead m.head m.count
token_at state.HeadLf m = AtHeadLf m.head m.count
token_at state.FormatFirst m = AtFormat m.count
token_at state.FormatSecond m = AtFormatSecond (slice_index m.format 0) m.count
token_at state.FormatThird m = AtFormatThird (slice_index m.format 0) (slice_index m.format 1) m.count
token_at state.FormatColon m = AtFormatColon m.format m.count
token_at state.Content m = InContent m.count
token_at state.ContentCr m = AtContentCr
token_at state.ContentLf m = AtContentLf
token_at state.StreamCr m = AtStreamCr
token_at state.StreamLf m = AtStreamLf
token_at state.Chunk m = AtChunk m.room
token_at state.ChunkContent m = InChunk m.room m.count
token_at state.ChunkCr m = AtChunkCr m.room
token_at state.ChunkLf m = AtChunkLf m.room
token_at state.OpenCr m = AtOpenCr m.kind
token_at state.OpenLf m = AtOpenLf m.kind
token_at state.CloseCr m = AtCloseCr
token_at state.CloseLf m = AtCloseLf
token_at state.Failed m = Dead m.cause

-- the place of a machine
abbrev pub place_of : Machine → Place
place_of m = record {
  token = token_at m.state m;
  frames = reverse m.frames.items;
  version = m.version;
  bounds =
      m.limits;
  taken = m.taken;
  frames_need = m.frames_need;
}

-- the meaning of a result with this tag, with this many bytes used
abbrev pub out_by : EventTag → ℕ → Machine → Out
out_by tag.More n m = More n (place_of m)
out_by tag.Failed n m = Bad n m.cause (place_of m)
out_by tag.Null n m = Gave n Null (place_of m)
out_by tag.Bool n m = Gave n (Truth m.truth) (place_of m)
out_by tag.Int n m = Gave n (Int m.value) (place_of m)
out_by tag.Simple n m = Gave n (Text text.Simple) (place_of m)
out_by tag.Error n m = Gave n (Text text.Error) (place_of m)
out_by tag.Double n m = Gave n (Text text.Double) (place_of m)
out_by tag.Bulk n m = Gave n (Text text.Bulk) (place_of m)
out_by tag.BulkError n m = Gave n (Text text.BulkError) (place_of m)
out_by tag.Verbatim n m = Gave n (Text (text.Verbatim m.format)) (place_of m)
out_by tag.Big n m = Gave n (Text (text.Big m.big_negative)) (place_of m)
out_by tag.Part n m = Part 0 n (place_of m)
out_by tag.ChunkPart n m = Part m.part_start n (place_of m)
out_by tag.Digit n m = Gave n (Digit m.digit) (place_of m)
out_by tag.TextEnd n m = Gave n TextEnd (place_of m)
out_by tag.Open n m = Gave n (Open m.kind (Some m.count)) (place_of m)
out_by tag.OpenStreamed n m = Gave n (Open m.kind None) (place_of m)
out_by tag.Close n m = Gave n Close (place_of m)
out_by tag.Done n m = Whole (record (place_of m) { taken = m.taken + n })

-- the meaning of a result and of the machine after it
abbrev pub out_of : Advance → Machine → Out
out_of g m = out_by g.tag g.used m

-- the machine has read the piece from this index on, at this token
abbrev pub Reads : Machine → Machine → Token → List ℕ → ℕ → Advance → Type 0
Reads old new token piece i result = out_of result new ≡ scan i (at (place_of old) token) (drop i piece)
