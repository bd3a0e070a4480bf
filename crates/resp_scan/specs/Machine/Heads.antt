-- The numbers of heads.
use Rattle.std.specs.Prelude.{◌≡◌, ◌<◌, ℕ, ◌+◌, ◌-◌, ◌*◌, Bool, true, false, cond, eqb, nat_le, nat_lt, ◌∷◌, length, Option, None, Some}
use Rattle.resp_value.specs.declared.cause.Cause.{Cause}
use Rattle.resp_value.specs.declared.cause.Cause.TheVariants as cause
use Rattle.resp_value.specs.declared.version.Version.{Version}
use Rattle.resp_value.specs.declared.version.Version.TheVariants as version
use Rattle.resp_value.specs.declared.kind.OpenKind.{OpenKind}
use Rattle.resp_value.specs.declared.kind.OpenKind.TheVariants as kind
use Rattle.resp_scan.specs.declared.event.TextKind.TheVariants as text
use Rattle.resp_scan.specs.declared.frame.Shape.TheVariants.{Left, Begun}
use Rattle.resp_scan.specs.declared.machine.Head.{Head}
use Rattle.resp_scan.specs.declared.machine.Head.TheVariants.{Bulk, BulkError, Verbatim, Chunk, Array, Set, Map, Attr, Push}
use Rattle.resp_scan.specs.Machine.Tokens.{Place, Move, Go, Give, Text, TextEnd, Open, at, at_boundary, InContent, AtContentCr, AtFormat, InChunk, AtChunkCr}
use Rattle.resp_scan.specs.Machine.Room.{over_total, is_full}

-- the greatest number that the limit of length or items allows
abbrev pub greatest_number : Place → Head → ℕ
greatest_number s Bulk = s.bounds.length
greatest_number s BulkError = s.bounds.length
greatest_number s Verbatim = s.bounds.length
greatest_number s (Chunk room) = room
greatest_number s _ = s.bounds.items

-- the cause if the number is greater
abbrev pub number_cause : Head → Cause
number_cause Bulk = cause.Length
number_cause BulkError = cause.Length
number_cause Verbatim = cause.Length
number_cause (Chunk room) = cause.Length
number_cause _ = cause.Items

-- a verbatim string has four bytes before its text
abbrev pub verbatim_needed : ℕ → ℕ
verbatim_needed n = cond (eqb n 0) 9 (cond (nat_lt n 4) (n * 10 + 5) (n + 4))

-- the line of an empty chunk ends the string
abbrev pub chunk_needed : ℕ → ℕ
chunk_needed n = cond (eqb n 0) 2 (n + 8)

-- the least number of bytes that complete a value, or a streamed string, after the digits of a head
abbrev pub head_needed : Head → ℕ → ℕ
head_needed Bulk n = n + 4
head_needed BulkError n = n + 4
head_needed Verbatim n = verbatim_needed n
head_needed (Chunk room) n = chunk_needed n
head_needed Map n = n * 6 + 2
head_needed Attr n = n * 6 + 5
head_needed _ n = n * 3 + 2

-- the least number of bytes that complete it before the first digit of a head
abbrev pub first_needed : Head → ℕ
first_needed Bulk = 4
first_needed BulkError = 5
first_needed Verbatim = 9
first_needed Attr = 6
first_needed _ = 3

-- the cause of rejecting a digit that makes the number n: length or items, and then total
abbrev pub over : Place → ℕ → Head → ℕ → Option Cause
over s used h n = cond (nat_lt (greatest_number s h) n) (Some (number_cause h)) (over_total s used (head_needed h n))

-- whether a head may end with this number
abbrev pub may_end : Head → ℕ → Bool
may_end Verbatim n = nat_le 4 n
may_end _ n = true

-- the kinds of aggregate that may be streamed
abbrev pub streamed_kind : Head → Option OpenKind
streamed_kind Array = Some kind.Array
streamed_kind Set = Some kind.Set
streamed_kind Map = Some kind.Map
streamed_kind _ = None

-- the version rejects it, or otherwise this cause
abbrev pub cause_in_three : Version → Option Cause → Option Cause
cause_in_three version.Two other = Some cause.Version
cause_in_three version.Three other = other

-- the cause of rejecting the `?` of a streamed string
abbrev pub string_cause : Place → ℕ → Option Cause
string_cause s used = cause_in_three s.version (cond s.bounds.streamed (over_total s used 6) (Some cause.Streamed))

-- the cause of rejecting the `?` of a streamed aggregate
abbrev pub aggregate_cause : Place → ℕ → Option Cause
aggregate_cause s used = cause_in_three s.version
    (cond s.bounds.streamed (cond (is_full s) (Some cause.Depth) (over_total s used 5)) (Some cause.Streamed))

-- an aggregate opens with this many members
abbrev pub after_open : Place → OpenKind → ℕ → Place
after_open s k n = at_boundary (record s {
  frames = record { kind = k; shape = Left n } ∷ s.frames;
  frames_need =
      s.frames_need + n * 3;
})

-- a streamed aggregate opens
abbrev pub after_streamed_open : Place → OpenKind → Place
after_streamed_open s k = at_boundary (record s {
  frames = record { kind = k; shape = Begun 0 } ∷ s.frames;
  frames_need =
      s.frames_need + 3;
})

-- counted content begins, or ends if it is empty
abbrev pub content_at : ℕ → Place → Place
content_at n s = at s (cond (eqb n 0) AtContentCr (InContent n))

-- the content of a chunk begins, or ends if it is empty, in a string for which the limit of length leaves this many
-- bytes
abbrev pub chunk_at : ℕ → ℕ → Place → Place
chunk_at room n s = at s (cond (eqb n 0) (AtChunkCr room) (InChunk room n))

-- the heads of aggregates
abbrev pub is_aggregate : Head → Bool
is_aggregate Bulk = false
is_aggregate BulkError = false
is_aggregate Verbatim = false
is_aggregate (Chunk room) = false
is_aggregate _ = true

-- the frames have room for one more, if the head opens one
abbrev pub HasFrame : Place → Head → Type 0
HasFrame s h = is_aggregate h ≡ true → length s.frames < 128

-- the move after a head
abbrev pub head_move : Place → Head → ℕ → Move
head_move s Bulk n = Give (Text text.Bulk) (content_at n s)
head_move s BulkError n = Give (Text text.BulkError) (content_at n s)
head_move s Verbatim n = Go (at s (AtFormat n))
head_move s (Chunk room) n = cond (eqb n 0) (Give TextEnd (at_boundary s)) (Go (at s (InChunk (room - n) n)))
head_move s Array n = Give (Open kind.Array (Some n)) (after_open s kind.Array n)
head_move s Set n = Give (Open kind.Set (Some n)) (after_open s kind.Set n)
head_move s Map n = Give (Open kind.Map (Some n)) (after_open s kind.Map (n * 2))
head_move s Attr n = Give (Open kind.Attr (Some n)) (after_open s kind.Attr (n * 2 + 1))
head_move s Push n = Give (Open kind.Push (Some n)) (after_open s kind.Push n)
