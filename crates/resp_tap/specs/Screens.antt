-- The text that a screen holds.
use Rattle.std.specs.Prelude.{◌≡◌, ◌⊎◌, ℕ, ◌-◌, ◌<◌, ◌≤◌, ◌==◌, Bool, true, false, not, ◌||◌, List, [], ◌++◌, length, min, nat_le, slice_get, take, codes, decimal, Some}
use Rattle.resp_io.specs.Devices.{count_after}

pub record ScreenState : Type 0 where
  -- the text that waits to be shown
  pub held : List ℕ
  -- the most bytes that may be held
  pub most : ℕ
  -- the number of omitted bytes that were not reported yet
  pub unshown : ℕ
  -- whether the last byte of the text so far is not an LF
  pub in_line : Bool
  -- whether the lines are JSON
  pub as_json : Bool
  -- the number of writes, and the number of writes of no bytes
  pub calls : ℕ
  pub failures : ℕ

-- a screen before the first write
abbrev pub new_screen : ℕ → ScreenState
new_screen most = record { held = []; most = most; unshown = 0; in_line = false; as_json = false; calls = 0; failures = 0 }

-- Whether the last byte of a text is not an LF. Without a byte, as before.
pub record InLineAfter (before : Bool) (text : List ℕ) (after : Bool) : Type 0 where
  pub unchanged : text ≡ [] → after ≡ before
  pub last : (byte : ℕ) → slice_get text (length text - 1) ≡ Some byte → after ≡ not (byte == 10)

-- whether this many free bytes suffice to write on: a line of JSON is begun with 8,192 free bytes
abbrev pub has_room_for_line : ScreenState → ℕ → Bool
has_room_for_line s free = not s.as_json || s.in_line || nat_le 8192 free

-- The first bytes of a text are appended to the held text, as many as there is room for, and the others are counted.
-- Nothing is appended after an omitted byte, or if an allocation fails.
pub record KeepsOrCounts (old new : ScreenState) (text : List ℕ) : Type 0 where
  pub kept : ℕ
  pub within : kept ≤ length text
  pub all_or_none : (kept ≡ 0) ⊎ (kept ≡ min (old.most - length old.held) (length text))
  pub held : new.held ≡ old.held ++ take kept text
  pub counted : new.unshown ≡ count_after (length text - kept) old.unshown
  pub in_order : 0 < old.unshown → kept ≡ 0
  pub whole_lines : has_room_for_line old (old.most - length old.held) ≡ false → kept ≡ 0
  pub bounded : length old.held ≤ old.most → length new.held ≤ new.most
  pub ends : InLineAfter old.in_line (take kept text) new.in_line
  pub same_most : new.most ≡ old.most
  pub same_form : new.as_json ≡ old.as_json

-- the free bytes with which the line about omitted bytes is appended: with JSON another line may be begun after it
abbrev pub notice_room : Bool → ℕ
notice_room true = 8256
notice_room false = 64

-- bytes were omitted, and there is room for the line about them
abbrev pub LineIsDue : ScreenState → Type 0
LineIsDue s = (0 < s.unshown) × (notice_room s.as_json ≤ s.most - length s.held)

-- the end of a line that was cut, or nothing
abbrev pub line_end : Bool → List ℕ
line_end true = codes "\n"
line_end false = []

-- the text before the number of omitted bytes, and the text after it
abbrev pub left_out_front : Bool → List ℕ
left_out_front true = codes "{\"kind\":\"omitted\",\"bytes\":"
left_out_front false = []

abbrev pub left_out_end : Bool → List ℕ
left_out_end true = codes "}\n"
left_out_end false = codes " bytes not shown\n"

-- A line with the number of omitted bytes is appended, after the end of a line that was cut. Counting starts again.
abbrev pub SaysWhatIsLeftOut : ScreenState → ScreenState → Type 0
SaysWhatIsLeftOut old new = new ≡ record old {
  held = old.held ++ line_end old.in_line ++ left_out_front old.as_json ++ decimal old.unshown ++ left_out_end old.as_json;
  unshown = 0;
  in_line = false;
}
