-- The conditions that hold at every place of a scanner.
use Rattle.std.specs.Prelude.{◌≡◌, ◌<◌, ◌≤◌, ℕ, ◌+◌, ◌-◌, ◌*◌, ◌%◌, true, cond, eqb, nat_le, List, [], ◌∷◌, length}
use Rattle.resp_value.specs.Bounds.{AreBounds}
use Rattle.resp_value.specs.declared.kind.OpenKind.{OpenKind}
use Rattle.resp_value.specs.declared.kind.OpenKind.TheVariants.{Map}
use Rattle.resp_value.specs.DoubleStages.{stage_needs}
use Rattle.resp_scan.specs.declared.frame.Frame.{Frame}
use Rattle.resp_scan.specs.declared.frame.Shape.{Shape}
use Rattle.resp_scan.specs.declared.frame.Shape.TheVariants.{Left, Begun}
use Rattle.resp_scan.specs.declared.machine.Head.{Head}
use Rattle.resp_scan.specs.declared.machine.Head.TheVariants as head
use Rattle.resp_scan.specs.Machine.Magnitudes.{greatest_magnitude}
use Rattle.resp_scan.specs.Machine.Tokens.{Token, Place, AtStart, AtEnd, InLine, InDouble, AtLineLf, AtIntSign, AtIntFirst, InInt, AtIntLf, AtBigSign, AtBigFirst, InBigZeros, AtBigZeroLf, AtBigDigit, InBig, AtTextEnd, AtNullOne, AtNullCr, AtNullLf, AtBool, AtBoolCr, AtBoolLf, AtBulkHead, AtArrayHead, AtHead, InHead, AtHeadLf, AtFormat, AtFormatSecond, AtFormatThird, AtFormatColon, InContent, AtContentCr, AtContentLf, AtStreamCr, AtStreamLf, AtChunk, InChunk, AtChunkCr, AtChunkLf, AtOpenCr, AtOpenLf, AtCloseCr, AtCloseLf, Dead}
use Rattle.resp_scan.specs.Machine.Room.{begun_count}
use Rattle.resp_scan.specs.Machine.Heads.{first_needed, head_needed, may_end, is_aggregate}
use Rattle.resp_scan.specs.Machine.Moves.{is_digit}

-- What is needed.

-- a streamed aggregate needs its close, and a map the value of its key
abbrev pub need_of_streamed : OpenKind → ℕ → ℕ
need_of_streamed Map n = cond (eqb (n % 2) 0) 3 6
need_of_streamed _ n = 3

-- the least number of bytes that close one frame
abbrev pub need_of_frame : OpenKind → Shape → ℕ
need_of_frame k (Left n) = n * 3
need_of_frame k (Begun n) = need_of_streamed k n

-- the least number of bytes that close frames: members of three bytes, a map's value after its key, and the closes of
-- streamed aggregates
abbrev pub need_of_frames : List Frame → ℕ
need_of_frames [] = 0
need_of_frames (f ∷ fs) = need_of_frame f.kind f.shape + need_of_frames fs

-- at the top level a value has to begin, and inside an aggregate its frame decides
abbrev pub start_needed : List Frame → ℕ
start_needed [] = 3
start_needed (f ∷ fs) = 0

-- the least number of bytes that complete the token, within these frames at this depth
abbrev pub token_needed : Token → ℕ → List Frame → ℕ
token_needed AtStart depth fs = start_needed fs
token_needed AtEnd depth fs = 0
token_needed (InLine room) depth fs = 2
token_needed (InDouble stage room) depth fs = stage_needs stage + 2
token_needed AtLineLf depth fs = 1
token_needed AtIntSign depth fs = 3
token_needed (AtIntFirst negative) depth fs = 3
token_needed (InInt negative n) depth fs = 2
token_needed (AtIntLf negative n) depth fs = 1
token_needed AtBigSign depth fs = 3
token_needed (AtBigFirst negative) depth fs = 3
token_needed (InBigZeros negative) depth fs = 2
token_needed AtBigZeroLf depth fs = 1
token_needed (AtBigDigit d room) depth fs = 2
token_needed (InBig room) depth fs = 2
token_needed AtTextEnd depth fs = 0
token_needed AtNullOne depth fs = 3
token_needed AtNullCr depth fs = 2
token_needed AtNullLf depth fs = 1
token_needed AtBool depth fs = 3
token_needed (AtBoolCr v) depth fs = 2
token_needed (AtBoolLf v) depth fs = 1
token_needed AtBulkHead depth fs = 4
token_needed AtArrayHead depth fs = cond (nat_le depth (length fs)) 4 3
token_needed (AtHead h) depth fs = first_needed h
token_needed (InHead h n) depth fs = head_needed h n
token_needed (AtHeadLf h n) depth fs = head_needed h n - 1
token_needed (AtFormat n) depth fs = n + 2
token_needed (AtFormatSecond x n) depth fs = n + 1
token_needed (AtFormatThird x y n) depth fs = n
token_needed (AtFormatColon format n) depth fs = n - 1
token_needed (InContent n) depth fs = n + 2
token_needed AtContentCr depth fs = 2
token_needed AtContentLf depth fs = 1
token_needed AtStreamCr depth fs = 6
token_needed AtStreamLf depth fs = 5
token_needed (AtChunk room) depth fs = 4
token_needed (InChunk room n) depth fs = n + 6
token_needed (AtChunkCr room) depth fs = 6
token_needed (AtChunkLf room) depth fs = 5
token_needed (AtOpenCr k) depth fs = 5
token_needed (AtOpenLf k) depth fs = 4
token_needed AtCloseCr depth fs = 2
token_needed AtCloseLf depth fs = 1
token_needed (Dead c) depth fs = 0

-- the least number of bytes that complete the value
abbrev pub needed : Place → ℕ
needed s = token_needed s.token s.bounds.depth s.frames + s.frames_need

-- The conditions of the frames.

-- each frame has at most as many members as the limit of items allows
abbrev pub AreCounted : ℕ → List Frame → Type 0
AreCounted items [] = Unit {0}
AreCounted items (f ∷ fs) = (begun_count f.shape ≤ items * 2) × AreCounted items fs

-- one more member may begin
abbrev pub IsOpenShape : Shape → Type 0
IsOpenShape (Left n) = 0 < n
IsOpenShape (Begun n) = Unit {0}

-- the innermost aggregate may have one more member
abbrev pub MayHaveMore : List Frame → Type 0
MayHaveMore [] = Unit {0}
MayHaveMore (f ∷ fs) = IsOpenShape f.shape

-- the innermost aggregate has all its members
abbrev pub IsClosed : List Frame → Type 0
IsClosed [] = Unit {0}
IsClosed (f ∷ fs) = f.shape ≡ Left 0

-- The conditions of the token within the frames.

-- a head that opens an aggregate has room for its frame
abbrev pub HasLevel : Head → ℕ → List Frame → Type 0
HasLevel h depth fs = is_aggregate h ≡ true → length fs < depth

-- a chunk has at most as many bytes as the limit of length leaves
abbrev pub IsWithinRoom : Head → ℕ → Type 0
IsWithinRoom (head.Chunk room) n = n ≤ room
IsWithinRoom _ n = Unit {0}

-- the condition of a token within these frames, at this depth
abbrev pub IsTokenSound : Token → ℕ → List Frame → Type 0
IsTokenSound AtStart depth fs = MayHaveMore fs
IsTokenSound AtEnd depth fs = IsClosed fs
IsTokenSound (InInt negative n) depth fs = n ≤ greatest_magnitude negative
IsTokenSound (AtIntLf negative n) depth fs = n ≤ greatest_magnitude negative
IsTokenSound (AtBigDigit d room) depth fs = is_digit d ≡ true
IsTokenSound (AtHead h) depth fs = HasLevel h depth fs
IsTokenSound (InHead h n) depth fs = HasLevel h depth fs × IsWithinRoom h n
IsTokenSound (AtHeadLf h n) depth fs = HasLevel h depth fs × IsWithinRoom h n × (may_end h n ≡ true)
IsTokenSound (AtFormat n) depth fs = 4 ≤ n
IsTokenSound (AtFormatSecond x n) depth fs = 4 ≤ n
IsTokenSound (AtFormatThird x y n) depth fs = 4 ≤ n
IsTokenSound (AtFormatColon format n) depth fs = 4 ≤ n
IsTokenSound (InContent n) depth fs = 0 < n
IsTokenSound (InChunk room n) depth fs = 0 < n
IsTokenSound (AtOpenCr k) depth fs = length fs < depth
IsTokenSound (AtOpenLf k) depth fs = length fs < depth
IsTokenSound AtCloseCr depth fs = IsClosed fs
IsTokenSound AtCloseLf depth fs = IsClosed fs
IsTokenSound _ depth fs = Unit {0}

-- the conditions of a place when this many bytes of a piece are used
pub record IsSoundBy (used : ℕ) (s : Place) : Type 0 where
  pub bounds : AreBounds s.bounds
  pub nested : length s.frames ≤ s.bounds.depth
  pub counted : AreCounted s.bounds.items s.frames
  pub frames_need : s.frames_need ≡ need_of_frames s.frames
  -- total has room for the bytes that are needed
  pub total : s.taken + used + token_needed s.token s.bounds.depth s.frames + s.frames_need ≤ s.bounds.total
  pub token : IsTokenSound s.token s.bounds.depth s.frames

-- a place between two pieces
abbrev pub IsSound : Place → Type 0
IsSound s = IsSoundBy 0 s
