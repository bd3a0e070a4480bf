-- The room that the limits leave.
use Rattle.std.specs.Prelude.{ℕ, ◌+◌, ◌-◌, ◌/◌, ◌%◌, Bool, false, ◌&&◌, cond, eqb, nat_le, List, [], ◌∷◌, length, Option, None, Some}
use Rattle.resp_value.specs.declared.cause.Cause.{Cause}
use Rattle.resp_value.specs.declared.cause.Cause.TheVariants as cause
use Rattle.resp_value.specs.declared.kind.OpenKind.{OpenKind}
use Rattle.resp_value.specs.declared.kind.OpenKind.TheVariants.{Map}
use Rattle.resp_scan.specs.declared.frame.Frame.{Frame}
use Rattle.resp_scan.specs.declared.frame.Shape.{Shape}
use Rattle.resp_scan.specs.declared.frame.Shape.TheVariants.{Left, Begun}
use Rattle.resp_scan.specs.Machine.Tokens.{Place}

-- the number of bytes that total leaves after the bytes read and those that the frames need
abbrev pub total_room : Place → ℕ
total_room s = (s.bounds.total - s.taken) - s.frames_need

-- whether total leaves room for this many bytes of the piece, and this many after them
abbrev pub has_total_room : Place → ℕ → ℕ → Bool
has_total_room s used needed = nat_le (used + needed) (total_room s)

-- `Total`, unless total leaves this much room
abbrev pub over_total : Place → ℕ → ℕ → Option Cause
over_total s used needed = cond (has_total_room s used needed) None (Some cause.Total)

-- whether no further aggregate may open
abbrev pub is_full : Place → Bool
is_full s = nat_le s.bounds.depth (length s.frames)

-- The next member of an aggregate begins.

-- the shape once one more member has begun
abbrev pub shape_after_begin : Shape → Shape
shape_after_begin (Left n) = Left (n - 1)
shape_after_begin (Begun n) = Begun (n + 1)

-- the key of a map needs a value after it
abbrev pub need_after_begin_of : OpenKind → ℕ → ℕ → ℕ
need_after_begin_of Map n need = cond (eqb (n % 2) 0) (need + 3) (need - 3)
need_after_begin_of _ n need = need

-- the number of bytes that the frames need after one more member has begun
abbrev pub need_after_begin : OpenKind → Shape → ℕ → ℕ
need_after_begin k (Left n) frames_need = frames_need - 3
need_after_begin k (Begun n) frames_need = need_after_begin_of k n frames_need

-- whether a streamed aggregate of n members has as many items as the limit allows
abbrev pub has_all_of : OpenKind → ℕ → ℕ → Bool
has_all_of Map n items = eqb (n % 2) 0 && nat_le items (n / 2)
has_all_of _ n items = nat_le items n

-- whether a streamed aggregate has as many items as the limit allows
abbrev pub has_all : OpenKind → Shape → ℕ → Bool
has_all k (Left n) items = false
has_all k (Begun n) items = has_all_of k n items

-- the innermost of these frames has one more member begun
abbrev pub after_begin_in : Place → List Frame → Place
after_begin_in s [] = s
after_begin_in s (f ∷ fs) = record s {
  frames = record f { shape = shape_after_begin f.shape } ∷ fs;
  frames_need =
      need_after_begin f.kind f.shape s.frames_need;
}

-- a member has begun
abbrev pub after_begin : Place → Place
after_begin s = after_begin_in s s.frames

-- `Items` if the innermost aggregate has all items, otherwise the other cause
abbrev pub items_cause : List Frame → ℕ → Option Cause → Option Cause
items_cause [] items other = other
items_cause (f ∷ fs) items other = cond (has_all f.kind f.shape items) (Some cause.Items) other

-- the cause of rejecting the first byte of a member that needs this many bytes after it: items, and then total
abbrev pub begin_cause : Place → ℕ → Option Cause
begin_cause s needed = items_cause s.frames s.bounds.items (over_total (after_begin s) 1 needed)

-- the members of a streamed aggregate that have begun
abbrev pub begun_count : Shape → ℕ
begun_count (Left n) = 0
begun_count (Begun n) = n

-- the innermost frame gets this shape
abbrev pub with_shape : Shape → List Frame → List Frame
with_shape shape [] = []
with_shape shape (f ∷ fs) = record f { shape = shape } ∷ fs

-- the innermost frame, if one is open
abbrev pub innermost : List Frame → Option Frame
innermost [] = None
innermost (f ∷ fs) = Some f
