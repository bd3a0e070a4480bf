-- The state of the lines, as the code represents it.
use Rattle.std.specs.Prelude.{ℕ, ◌+◌, ◌<◌, ◌^◌, List, [], ◌∷◌, reverse, map, Option, None, Some}
use Rattle.std.specs.List.{AllByRecursion}
use Rattle.resp_value.specs.Kinds.{kind_of}
use Rattle.resp_cli_stream.specs.Pages.{OpenLine, Page}
use Rattle.resp_cli_stream.specs.declared.lines.Lines.{Lines}
use Rattle.resp_cli_stream.specs.declared.lines.OpenLine as line
use Rattle.resp_cli_stream.specs.declared.lines.OpenText.{OpenText}

-- an open aggregate
abbrev pub line_of : line.OpenLine → OpenLine
line_of l = record { kind = kind_of l.kind; count = l.count; members = l.members }

-- the open aggregates and texts
abbrev pub page_of : Lines → Page
page_of lines = record { open_lines = map line_of (reverse lines.aggregates.items); text = lines.text }

-- the innermost aggregate, if one is open
abbrev pub innermost : List line.OpenLine → Option line.OpenLine
innermost [] = None
innermost (l ∷ ls) = Some l

-- the number of bytes of the text that was begun
abbrev pub size_of_text : Option OpenText → ℕ
size_of_text None = 0
size_of_text (Some t) = t.size

-- this many more members and bytes can be counted in 64 bits
pub record HasRoomFor (n : ℕ) (p : Page) : Type 0 where
  pub members : AllByRecursion (λ l. l.members + n < 2 ^ 64) p.open_lines
  pub size : size_of_text p.text + n < 2 ^ 64
