-- Open frames: the aggregates that a front begins and does not end, the innermost first.
use Rattle.std.specs.Prelude.{ℕ, List, [], ◌∷◌, ◌++◌}
use Rattle.resp_value.specs.Bytes.{crlf}
use Rattle.resp_value.specs.Data.{Kind}
use Rattle.resp_value.specs.Trees.{Trees, Form, texts, kind_byte, form_line}

-- an open aggregate: its head, and its complete members
pub record Frame : Type 0 where
  pub kind : Kind
  pub form : Form
  pub done : Trees

-- its head, and the texts of its complete members
abbrev pub open_text : Frame → List ℕ
open_text frame = (kind_byte frame.kind ∷ form_line frame.form) ++ crlf (texts frame.done)

-- the text of everything that the frames contain, followed by more bytes
abbrev pub text_around : List Frame → List ℕ → List ℕ
text_around [] begun = begun
text_around (frame ∷ frames) begun = text_around frames (open_text frame ++ begun)
