-- The events of a tree, each with the index of the byte after which it is given.
use Rattle.std.specs.Prelude.{ℕ, ◌+◌, ◌-◌, ℤ, Option, None, Some, List, [], ◌∷◌, ◌++◌, length, cond, ltb}
use Rattle.std.specs.Prelude.{Bool as Truth}
use Rattle.resp_value.specs.Numbers.{number, Sign, signed_value, significant_digits, is_below_zero}
use Rattle.resp_value.specs.Data.{Kind}
use Rattle.resp_value.specs.Trees as t
use Rattle.resp_value.specs.Trees.{Tree, Trees, leaf, node, none, more, Leaf, line, numeral, null, truth, string, chunked, LineKind, NumberKind, StringKind, Form, Counted, Streamed, Chunk, text, form_line, leaf_text}
use Rattle.resp_fronts.specs.Frames.{Frame, text_around}

-- the kinds of text
pub data TextKind : Type 0 where
  Simple : TextKind
  Error : TextKind
  Double : TextKind
  Bulk : TextKind
  BulkError : TextKind
  -- with its format
  Verbatim : List ℕ → TextKind
  -- whether it is negative
  Big : Truth → TextKind

-- an event that a scanner gives
pub data Event : Type 0 where
  Null : Event
  Bool : Truth → Event
  Int : ℤ → Event
  Text : TextKind → Event
  -- one byte of a text's content
  Byte : ℕ → Event
  TextEnd : Event
  -- with the number in its head, or with no number if it is streamed
  Open : Kind → Option ℕ → Event
  Close : Event
  Done : Event

-- an event, with the index of the byte after which it is given
pub record Timed : Type 0 where
  pub at : ℕ
  pub event : Event

-- content, whose first byte has this index
abbrev pub bytes_from : ℕ → List ℕ → List Timed
bytes_from at [] = []
bytes_from at (byte ∷ bytes) = record { at = at; event = Byte byte } ∷ bytes_from (at + 1) bytes

-- a text that begins at one index, whose content begins at another, and which ends at a third
abbrev pub text_events : TextKind → ℕ → ℕ → List ℕ → ℕ → List Timed
text_events kind begins from content ends = record { at = begins; event = Text kind } ∷
    (bytes_from from content ++ record { at = ends; event = TextEnd } ∷ [])

-- the index of the last byte of a text that begins here
abbrev pub last_of : ℕ → List ℕ → ℕ
last_of from whole = from + length whole - 1

-- the kind of text of a kind of line
abbrev pub line_text_kind : LineKind → TextKind
line_text_kind t.Simple = Simple
line_text_kind t.Error = Error
line_text_kind t.Double = Double

-- a text begins at its type byte and ends at its last byte
abbrev pub line_events : LineKind → ℕ → List ℕ → ℕ → List Timed
line_events k from s last = text_events (line_text_kind k) from (from + 1) s last

-- the digits without leading zeros, the last of which is two bytes before the last index; a zero has no content
abbrev pub big_events : Truth → List ℕ → ℕ → List Timed
big_events negative [] last = text_events (Big negative) last last [] last
big_events negative (digit ∷ digits) last = text_events (Big negative) (last - 2 - length digits)
    (last - 2 - length digits) (digit ∷ digits) last

-- the event of an integer comes at its last byte, and the events of a big number from its first digit other than zero
-- on
abbrev pub number_events : NumberKind → Sign → List ℕ → ℕ → List Timed
number_events t.Int sign digits last = record { at = last; event = Int (signed_value sign digits) } ∷ []
number_events t.Big sign digits last = big_events (is_below_zero sign digits) (significant_digits digits) last

-- content begins after the line of the length, and the content of a verbatim string after its format and the `:`
abbrev pub string_events : StringKind → ℕ → List ℕ → List ℕ → ℕ → List Timed
string_events t.Bulk from digits s last = text_events Bulk (from + length digits + 2) (from + length digits + 3) s last
string_events t.BulkError from digits s last = text_events BulkError (from + length digits + 2)
    (from + length digits + 3) s last
string_events (t.Verbatim format) from digits s last =
    text_events (Verbatim format) (from + length digits + length format + 3) (from + length digits + length format + 4)
    s last

-- the content of chunks, the first of which begins at this index
abbrev pub chunk_events : ℕ → List Chunk → List Timed
chunk_events at [] = []
chunk_events at (c ∷ cs) = bytes_from (at + length c.digits + 3) c.content ++
    chunk_events (at + length c.digits + length c.content + 5) cs

-- the events of a leaf whose first byte has this index
abbrev pub leaf_events : ℕ → Leaf → List Timed
leaf_events from (line k s) = line_events k from s (last_of from (leaf_text (line k s)))
leaf_events from (numeral k sign digits) = number_events k sign digits
    (last_of from (leaf_text (numeral k sign digits)))
leaf_events from (null form) = record { at = last_of from (leaf_text (null form)); event = Null } ∷ []
leaf_events from (truth b) = record { at = last_of from (leaf_text (truth b)); event = Bool b } ∷ []
leaf_events from (string k digits s) = string_events k from digits s (last_of from (leaf_text (string k digits s)))
leaf_events from (chunked chunks zeros) = record { at = from + 3; event = Text Bulk } ∷
    (chunk_events (from + 4) chunks ++ record {
      at = last_of from (leaf_text (chunked chunks zeros));
      event =
          TextEnd;
    } ∷ [])

-- the number in a head
abbrev pub declared_count : Form → Option ℕ
declared_count (Counted digits) = Some (number digits)
declared_count Streamed = None

-- an aggregate opens at the LF of its head
abbrev pub open_event : ℕ → Kind → Form → Timed
open_event from k form = record { at = from + length (form_line form) + 2; event = Open k (declared_count form) }

-- an aggregate closes at its last byte
abbrev pub close_event : ℕ → List ℕ → Timed
close_event from whole = record { at = last_of from whole; event = Close }

-- the events of a tree whose first byte has this index
abbrev mutual
  pub events : ℕ → Tree → List Timed
  events from (leaf l) = leaf_events from l
  events from (node k form ts) = open_event from k form ∷
      (events_each (from + length (form_line form) + 3) ts ++ close_event from (text (node k form ts)) ∷ [])

  pub events_each : ℕ → Trees → List Timed
  events_each from none = []
  events_each from (more t ts) = events from t ++ events_each (from + length (text t)) ts

-- the events of a tree, `Done` last
abbrev pub all_events : Tree → List Timed
all_events t = events 0 t ++ record { at = last_of 0 (text t); event = Done } ∷ []

-- the events, without their places
abbrev pub without_places : List Timed → List Event
without_places [] = []
without_places (e ∷ es) = e.event ∷ without_places es

-- the events of the first bytes, this many
abbrev pub events_due : ℕ → List Timed → List Event
events_due n [] = []
events_due n (e ∷ es) = cond (ltb e.at n) (e.event ∷ events_due n es) (events_due n es)

-- the events of a frame so far: its opening, and the events of its complete members
abbrev pub frame_events : ℕ → Frame → List Timed
frame_events from frame = open_event from frame.kind frame.form ∷
    events_each (from + length (form_line frame.form) + 3) frame.done

-- the events of everything that the frames contain so far
abbrev pub events_around : List Frame → List Timed
events_around [] = []
events_around (frame ∷ frames) = events_around frames ++ frame_events (length (text_around frames [])) frame
