-- For each token, the unfinished bytes of the value, and the events given of them.
use Rattle.std.specs.Prelude.{codes, ◌≡◌, ◌⊎◌, ℕ, ◌+◌, ◌-◌, ◌<◌, ◌≤◌, Bool, true, false, List, [], ◌∷◌, ◌++◌, length}
use Rattle.std.specs.List.{AllByRecursion}
use Rattle.std.specs.Str.{byte}
use Rattle.resp_value.specs.Bytes.{IsText, crlf}
use Rattle.resp_value.specs.Data.{Kind}
use Rattle.resp_value.specs.Data as d
use Rattle.resp_value.specs.Numbers.{IsDigits, Sign, Unsigned, Plus, Minus, is_minus, number, signed_value, significant_digits}
use Rattle.resp_value.specs.Trees as t
use Rattle.resp_value.specs.Trees.{Leaf, numeral, null, truth, NullForm, LineKind, StringKind, Chunk, IsChunk, IsLeaf, CanStream, chunks_text, joined_content, kind_byte, leaf_text, payload}
use Rattle.resp_value.specs.Rules.{Rules, WithinItems}
use Rattle.resp_value.specs.LocalRules.{LeafKeeps, IsNoPushBelow}
use Rattle.resp_value.specs.declared.double_stage.DoubleStage.{DoubleStage}
use Rattle.resp_value.specs.declared.version.Version.TheVariants.{Two}
use Rattle.resp_fronts.specs.Events.{Event, TextKind, leaf_events, without_places}
use Rattle.resp_fronts.specs.Events as e
use Rattle.resp_scan.specs.declared.machine.Head.{Head}
use Rattle.resp_scan.specs.declared.machine.Head.TheVariants as head
use Rattle.resp_scan.specs.Machine.Tokens.{Token, AtStart, AtEnd, InLine, InDouble, AtLineLf, AtIntSign, AtIntFirst, InInt, AtIntLf, AtBigSign, AtBigFirst, InBigZeros, AtBigZeroLf, AtBigDigit, InBig, AtTextEnd, AtNullOne, AtNullCr, AtNullLf, AtBool, AtBoolCr, AtBoolLf, AtBulkHead, AtArrayHead, AtHead, InHead, AtHeadLf, AtFormat, AtFormatSecond, AtFormatThird, AtFormatColon, InContent, AtContentCr, AtContentLf, AtStreamCr, AtStreamLf, AtChunk, InChunk, AtChunkCr, AtChunkLf, AtOpenCr, AtOpenLf, AtCloseCr, AtCloseLf, Dead}
use Rattle.resp_value.specs.Kinds.{kind_of}
use Rattle.resp_scan.specs.Kinds.{content_events}
use Rattle.resp_scan.specs.Machine.Moves as machine
use Rattle.resp_fronts.specs.Tokens.{HasStreamed, IsContentToken, IsCountReturned, IsCountToken, IsDoubleToken, IsLengthToken, IsLineOf, IsNumberBegun, IsNumberToken, IsReturned, IsTextToken, zeros}

-- Lines and numbers.

-- the text of a line so far, for which the limit of length leaves this many bytes
pub record LineBegun (r : Rules) (room : ℕ) (level : ℕ) (bytes : List ℕ) (shown : List Event) : Type 0 where
  pub kind : LineKind
  pub size : ℕ
  pub token : IsTextToken r kind size level bytes
  pub leaves : room + size ≡ r.limits.length
  pub told : shown ≡ e.Text (e.line_text_kind kind) ∷ content_events token.content

-- a double so far, at a stage, for which the limit of length leaves this many bytes
pub record DoubleBegun (r : Rules) (stage : DoubleStage) (room : ℕ) (level : ℕ) (bytes : List ℕ) (shown : List Event) :
    Type 0 where
  pub size : ℕ
  pub token : IsDoubleToken r stage size level bytes
  pub leaves : room + size ≡ r.limits.length
  pub told : shown ≡ e.Text e.Double ∷ content_events token.content

-- the line of a leaf and its CR, and all of its events except the end of its text; a zero big number is not included,
-- because its text begins at its LF
pub record TextReturned (r : Rules) (level : ℕ) (bytes : List ℕ) (shown : List Event) : Type 0 where
  pub leaf : Leaf
  pub returned : IsReturned r leaf level bytes
  pub told : without_places (leaf_events 0 leaf) ≡ shown ++ e.TextEnd ∷ []
  pub begun : (negative : Bool) → shown ≡ e.Text (e.Big negative) ∷ [] → ⊥

-- a type byte, with a sign of this kind
abbrev pub IsSigned : Bool → Sign → Type 0
IsSigned negative Unsigned = ⊥
IsSigned negative Plus = negative ≡ false
IsSigned negative Minus = negative ≡ true

-- a number of which the type byte and a sign were read
pub record SignBegun (r : Rules) (k : t.NumberKind) (negative : Bool) (level : ℕ) (bytes : List ℕ)
    (shown : List Event) : Type 0 where
  pub sign : Sign
  pub is_signed : IsSigned negative sign
  pub token : IsNumberBegun r k sign level bytes
  pub told : shown ≡ []

-- an integer's digits so far
pub record IntBegun (r : Rules) (negative : Bool) (n : ℕ) (level : ℕ) (bytes : List ℕ) (shown : List Event) : Type 0
  where
    pub sign : Sign
    pub first : ℕ
    pub digits : List ℕ
    pub is_signed : is_minus sign ≡ negative
    pub token : IsNumberToken r t.Int sign (first ∷ digits) level bytes
    pub valued : number (first ∷ digits) ≡ n
    pub told : shown ≡ []

-- an integer's line and its CR
pub record IntReturned (r : Rules) (negative : Bool) (n : ℕ) (level : ℕ) (bytes : List ℕ) (shown : List Event) : Type 0
  where
    pub sign : Sign
    pub digits : List ℕ
    pub returned : IsReturned r (numeral t.Int sign digits) level bytes
    pub valued : signed_value sign digits ≡ machine.with_sign negative n
    pub told : shown ≡ []

-- the digits of a big number so far; without leading zeros they are these
pub record BigBegun (r : Rules) (negative : Bool) (kept : List ℕ) (level : ℕ) (bytes : List ℕ) : Type 0 where
  pub sign : Sign
  pub first : ℕ
  pub digits : List ℕ
  pub is_signed : is_minus sign ≡ negative
  pub token : IsNumberToken r t.Big sign (first ∷ digits) level bytes
  pub left : significant_digits (first ∷ digits) ≡ kept
  pub zero : number (first ∷ digits) ≡ 0 → kept ≡ []

-- its first digit other than zero is due as a part
pub record BigDigitOwed (r : Rules) (digit room : ℕ) (level : ℕ) (bytes : List ℕ) (shown : List Event) : Type 0 where
  pub negative : Bool
  pub token : BigBegun r negative (digit ∷ []) level bytes
  pub leaves : room + 1 ≡ r.limits.length
  pub told : shown ≡ e.Text (e.Big negative) ∷ []

-- its digits from that digit on, for which the limit of length leaves this many
pub record BigShown (r : Rules) (room : ℕ) (level : ℕ) (bytes : List ℕ) (shown : List Event) : Type 0 where
  pub negative : Bool
  pub digit : ℕ
  pub digits : List ℕ
  pub token : BigBegun r negative (digit ∷ digits) level bytes
  pub leaves : room + length (digit ∷ digits) ≡ r.limits.length
  pub told : shown ≡ e.Text (e.Big negative) ∷ content_events (digit ∷ digits)

-- the line of a zero big number and its CR
pub record ZeroReturned (r : Rules) (level : ℕ) (bytes : List ℕ) (shown : List Event) : Type 0 where
  pub sign : Sign
  pub digits : List ℕ
  pub returned : IsReturned r (numeral t.Big sign digits) level bytes
  pub left : significant_digits digits ≡ []
  pub told : shown ≡ []

-- a leaf whose end of text is due
pub record TextWhole (r : Rules) (level : ℕ) (bytes : List ℕ) (shown : List Event) : Type 0 where
  pub leaf : Leaf
  pub is_leaf : IsLeaf leaf
  pub keeps : LeafKeeps r WithinItems level leaf
  pub whole : leaf_text leaf ≡ bytes
  pub told : without_places (leaf_events 0 leaf) ≡ shown ++ e.TextEnd ∷ []

-- `$-` or `*-`
abbrev pub IsNullBegun : List ℕ → Type 0
IsNullBegun bytes = (bytes ≡ codes "$-") ⊎ (bytes ≡ codes "*-")

-- the line of a null or a boolean, whose event comes at its end
pub record NullLine (r : Rules) (level : ℕ) (bytes : List ℕ) (shown : List Event) : Type 0 where
  pub form : NullForm
  pub token : IsLineOf r (null form) level bytes
  pub told : shown ≡ []

-- a null's line and its CR
pub record NullReturned (r : Rules) (level : ℕ) (bytes : List ℕ) (shown : List Event) : Type 0 where
  pub form : NullForm
  pub returned : IsReturned r (null form) level bytes
  pub told : shown ≡ []

-- Strings.

-- the kind of text of a counted string
abbrev pub string_text_kind : StringKind → TextKind
string_text_kind t.Bulk = e.Bulk
string_text_kind t.BulkError = e.BulkError
string_text_kind (t.Verbatim format) = e.Verbatim format

-- the digits of a length so far
pub record LengthBegun (r : Rules) (k : StringKind) (n : ℕ) (level : ℕ) (bytes : List ℕ) (shown : List Event) : Type 0
  where
    pub first : ℕ
    pub digits : List ℕ
    pub token : IsLengthToken r k first digits level bytes
    pub valued : number (first ∷ digits) ≡ n
    pub told : shown ≡ []

-- the digits of a length and their CR
pub record LengthReturned (r : Rules) (k : StringKind) (n : ℕ) (level : ℕ) (bytes : List ℕ) (shown : List Event) : Type
    0 where
  pub before : List ℕ
  pub length : LengthBegun r k n level before shown
  pub returned : bytes ≡ before ++ codes "\r"

-- these bytes of a verbatim string's payload were read, and this many are left
pub record FormatBegun (r : Rules) (format begun : List ℕ) (n : ℕ) (level : ℕ) (bytes : List ℕ)
    (shown : List Event) : Type 0 where
  pub first : ℕ
  pub digits : List ℕ
  pub token : IsContentToken r (t.Verbatim format) first digits begun n level bytes
  pub told : shown ≡ []

-- content so far, with this many bytes left
pub record ContentBegun (r : Rules) (n : ℕ) (level : ℕ) (bytes : List ℕ) (shown : List Event) : Type 0 where
  pub kind : StringKind
  pub first : ℕ
  pub digits : List ℕ
  pub part : List ℕ
  pub token : IsContentToken r kind first digits (payload kind part) n level bytes
  pub told : shown ≡ e.Text (string_text_kind kind) ∷ content_events part

-- complete content and its CR
pub record ContentReturned (r : Rules) (level : ℕ) (bytes : List ℕ) (shown : List Event) : Type 0 where
  pub before : List ℕ
  pub content : ContentBegun r 0 level before shown
  pub returned : bytes ≡ before ++ codes "\r"

-- Streamed strings.

-- complete chunks, of a string for which the limit of length leaves this many bytes, and then these bytes
pub record ChunksBegun (r : Rules) (room : ℕ) (begun : List ℕ) (level : ℕ) (bytes : List ℕ) (shown : List Event) : Type
    0 where
  pub chunks : List Chunk
  pub are_chunks : AllByRecursion IsChunk chunks
  pub has_streamed : HasStreamed r
  pub leaves : room + length (joined_content chunks) ≡ r.limits.length
  pub are : bytes ≡ byte "$" ∷ byte "?" ∷ crlf (chunks_text chunks begun)
  pub told : shown ≡ e.Text e.Bulk ∷ content_events (joined_content chunks)

-- complete chunks and the digits of a chunk, and bytes after them
pub record ChunkLength (r : Rules) (room n : ℕ) (beyond : List ℕ) (level : ℕ) (bytes : List ℕ)
    (shown : List Event) : Type 0 where
  pub digits : List ℕ
  pub are_digits : IsDigits digits
  pub valued : number digits ≡ n
  pub fits : n ≤ room
  pub chunks : ChunksBegun r room ((byte ";" ∷ digits) ++ beyond) level bytes shown

-- complete chunks and an unfinished chunk of which this many bytes are left; the limit of length leaves this many after
-- it
pub record ChunkBegun (r : Rules) (room n : ℕ) (beyond : List ℕ) (level : ℕ) (bytes : List ℕ)
    (shown : List Event) : Type 0 where
  pub digits : List ℕ
  pub part : List ℕ
  pub before : List Event
  pub are_digits : IsDigits digits
  pub is_text : IsText part
  pub valued : number digits ≡ length part + n
  pub some : 0 < number digits
  pub chunks : ChunksBegun r (room + number digits) ((byte ";" ∷ digits) ++ crlf (part ++ beyond)) level bytes before
  pub told : shown ≡ before ++ content_events part

-- Aggregates.

-- the type byte of an aggregate of version 3, at a place where it may begin
pub record AggregateBegun (r : Rules) (k : Kind) (level : ℕ) (bytes : List ℕ) (shown : List Event) : Type 0 where
  pub no_two : r.version ≡ Two → ⊥
  pub no_push : IsNoPushBelow level k
  pub below : level < r.limits.depth
  pub are : bytes ≡ kind_byte k ∷ []
  pub told : shown ≡ []

-- the digits of a count so far
pub record CountBegun (r : Rules) (k : Kind) (n : ℕ) (level : ℕ) (bytes : List ℕ) (shown : List Event) : Type 0 where
  pub first : ℕ
  pub digits : List ℕ
  pub token : IsCountToken r k first digits level bytes
  pub valued : number (first ∷ digits) ≡ n
  pub told : shown ≡ []

-- the digits of a count and their CR
pub record CountReturned (r : Rules) (k : Kind) (n : ℕ) (level : ℕ) (bytes : List ℕ) (shown : List Event) : Type 0 where
  pub first : ℕ
  pub digits : List ℕ
  pub returned : IsCountReturned r k first digits level bytes
  pub valued : number (first ∷ digits) ≡ n
  pub told : shown ≡ []

-- the head of a streamed aggregate, up to these bytes of its line end
pub record StreamBegun (r : Rules) (k : Kind) (beyond : List ℕ) (level : ℕ) (bytes : List ℕ) (shown : List Event) : Type
    0 where
  pub has_streamed : HasStreamed r
  pub can_stream : CanStream k 0
  pub no_push : IsNoPushBelow level k
  pub below : level < r.limits.depth
  pub are : bytes ≡ (kind_byte k ∷ codes "?") ++ beyond
  pub told : shown ≡ []

-- Heads.

-- a head before its first digit
abbrev pub HeadBegun : Rules → Head → ℕ → List ℕ → List Event → Type 0
HeadBegun r head.Bulk level bytes shown = ⊥
HeadBegun r head.BulkError level bytes shown = (r.version ≡ Two → ⊥) × (bytes ≡ codes "!") × (shown ≡ [])
HeadBegun r head.Verbatim level bytes shown = (r.version ≡ Two → ⊥) × (bytes ≡ codes "=") × (shown ≡ [])
HeadBegun r (head.Chunk room) level bytes shown = ChunksBegun r room (codes ";") level bytes shown
HeadBegun r head.Array level bytes shown = ⊥
HeadBegun r head.Set level bytes shown = AggregateBegun r d.Set level bytes shown
HeadBegun r head.Map level bytes shown = AggregateBegun r d.Map level bytes shown
HeadBegun r head.Attr level bytes shown = AggregateBegun r d.Attr level bytes shown
HeadBegun r head.Push level bytes shown = AggregateBegun r d.Push level bytes shown

-- a head's digits so far
abbrev pub HeadCounts : Rules → Head → ℕ → ℕ → List ℕ → List Event → Type 0
HeadCounts r head.Bulk n level bytes shown = LengthBegun r t.Bulk n level bytes shown
HeadCounts r head.BulkError n level bytes shown = LengthBegun r t.BulkError n level bytes shown
HeadCounts r head.Verbatim n level bytes shown = LengthBegun r (t.Verbatim (zeros 3)) n level bytes shown
HeadCounts r (head.Chunk room) n level bytes shown = ChunkLength r room n [] level bytes shown
HeadCounts r head.Array n level bytes shown = CountBegun r d.Array n level bytes shown
HeadCounts r head.Set n level bytes shown = CountBegun r d.Set n level bytes shown
HeadCounts r head.Map n level bytes shown = CountBegun r d.Map n level bytes shown
HeadCounts r head.Attr n level bytes shown = CountBegun r d.Attr n level bytes shown
HeadCounts r head.Push n level bytes shown = CountBegun r d.Push n level bytes shown

-- a head's line and its CR
abbrev pub HeadReturned : Rules → Head → ℕ → ℕ → List ℕ → List Event → Type 0
HeadReturned r head.Bulk n level bytes shown = LengthReturned r t.Bulk n level bytes shown
HeadReturned r head.BulkError n level bytes shown = LengthReturned r t.BulkError n level bytes shown
HeadReturned r head.Verbatim n level bytes shown = (4 ≤ n) × LengthReturned r (t.Verbatim (zeros 3)) n level bytes shown
HeadReturned r (head.Chunk room) n level bytes shown = ChunkLength r room n (codes "\r") level bytes shown
HeadReturned r head.Array n level bytes shown = CountReturned r d.Array n level bytes shown
HeadReturned r head.Set n level bytes shown = CountReturned r d.Set n level bytes shown
HeadReturned r head.Map n level bytes shown = CountReturned r d.Map n level bytes shown
HeadReturned r head.Attr n level bytes shown = CountReturned r d.Attr n level bytes shown
HeadReturned r head.Push n level bytes shown = CountReturned r d.Push n level bytes shown

-- the meaning of a token inside a value, on a level; there is none between values and after a close
abbrev pub TokenHas : Rules → Token → ℕ → List ℕ → List Event → Type 0
TokenHas r AtStart level bytes shown = ⊥
TokenHas r AtEnd level bytes shown = ⊥
TokenHas r (InLine room) level bytes shown = LineBegun r room level bytes shown
TokenHas r (InDouble stage room) level bytes shown = DoubleBegun r stage room level bytes shown
TokenHas r AtLineLf level bytes shown = TextReturned r level bytes shown
TokenHas r AtIntSign level bytes shown = IsNumberBegun r t.Int Unsigned level bytes × (shown ≡ [])
TokenHas r (AtIntFirst negative) level bytes shown = SignBegun r t.Int negative level bytes shown
TokenHas r (InInt negative n) level bytes shown = IntBegun r negative n level bytes shown
TokenHas r (AtIntLf negative n) level bytes shown = IntReturned r negative n level bytes shown
TokenHas r AtBigSign level bytes shown = IsNumberBegun r t.Big Unsigned level bytes × (shown ≡ [])
TokenHas r (AtBigFirst negative) level bytes shown = SignBegun r t.Big negative level bytes shown
TokenHas r (InBigZeros negative) level bytes shown = BigBegun r negative [] level bytes × (shown ≡ [])
TokenHas r AtBigZeroLf level bytes shown = ZeroReturned r level bytes shown
TokenHas r (AtBigDigit digit room) level bytes shown = BigDigitOwed r digit room level bytes shown
TokenHas r (InBig room) level bytes shown = BigShown r room level bytes shown
TokenHas r AtTextEnd level bytes shown = TextWhole r level bytes shown
TokenHas r AtNullOne level bytes shown = IsNullBegun bytes × (shown ≡ [])
TokenHas r AtNullCr level bytes shown = NullLine r level bytes shown
TokenHas r AtNullLf level bytes shown = NullReturned r level bytes shown
TokenHas r AtBool level bytes shown = (r.version ≡ Two → ⊥) × (bytes ≡ codes "#") × (shown ≡ [])
TokenHas r (AtBoolCr b) level bytes shown = IsLineOf r (truth b) level bytes × (shown ≡ [])
TokenHas r (AtBoolLf b) level bytes shown = IsReturned r (truth b) level bytes × (shown ≡ [])
TokenHas r AtBulkHead level bytes shown = (bytes ≡ codes "$") × (shown ≡ [])
TokenHas r AtArrayHead level bytes shown = (bytes ≡ codes "*") × (shown ≡ [])
TokenHas r (AtHead h) level bytes shown = HeadBegun r h level bytes shown
TokenHas r (InHead h n) level bytes shown = HeadCounts r h n level bytes shown
TokenHas r (AtHeadLf h n) level bytes shown = HeadReturned r h n level bytes shown
TokenHas r (AtFormat n) level bytes shown = FormatBegun r (zeros 3) [] n level bytes shown
TokenHas r (AtFormatSecond x n) level bytes shown = FormatBegun r (x ∷ zeros 2) (x ∷ []) (n - 1) level bytes shown
TokenHas r (AtFormatThird x y n) level bytes shown =
    FormatBegun r (x ∷ y ∷ zeros 1) (x ∷ y ∷ []) (n - 2) level bytes shown
TokenHas r (AtFormatColon format n) level bytes shown = FormatBegun r format format (n - 3) level bytes shown
TokenHas r (InContent n) level bytes shown = ContentBegun r n level bytes shown × (0 < n)
TokenHas r AtContentCr level bytes shown = ContentBegun r 0 level bytes shown
TokenHas r AtContentLf level bytes shown = ContentReturned r level bytes shown
TokenHas r AtStreamCr level bytes shown = HasStreamed r × (bytes ≡ codes "$?") × (shown ≡ [])
TokenHas r AtStreamLf level bytes shown = HasStreamed r × (bytes ≡ codes "$?\r") × (shown ≡ [])
TokenHas r (AtChunk room) level bytes shown = ChunksBegun r room [] level bytes shown
TokenHas r (InChunk room n) level bytes shown = ChunkBegun r room n [] level bytes shown × (0 < n)
TokenHas r (AtChunkCr room) level bytes shown = ChunkBegun r room 0 [] level bytes shown
TokenHas r (AtChunkLf room) level bytes shown = ChunkBegun r room 0 (codes "\r") level bytes shown
TokenHas r (AtOpenCr k) level bytes shown = StreamBegun r (kind_of k) [] level bytes shown
TokenHas r (AtOpenLf k) level bytes shown = StreamBegun r (kind_of k) (codes "\r") level bytes shown
TokenHas r AtCloseCr level bytes shown = ⊥
TokenHas r AtCloseLf level bytes shown = ⊥
TokenHas r (Dead c) level bytes shown = ⊥
