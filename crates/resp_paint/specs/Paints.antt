-- The text that is written for a text that is painted.
use Rattle.std.specs.Prelude.{◌≡◌, ℕ, Bool, true, false, if◌then◌else◌, List, ◌++◌, Option}
use Rattle.resp_io.specs.Devices.{Appends}
use Rattle.resp_paint.specs.Plain.{Shows}
use Rattle.resp_paint.specs.declared.style.Style.{Style}

-- A painted text was appended. It shows the bytes that waited and the text, but for the bytes that wait now.
pub record Paints (before after : Option (List ℕ)) (held text held' : List ℕ) : Type 0 where
  pub painted : List ℕ
  pub shown : List ℕ
  pub appended : Appends before after painted
  pub shows : Shows painted shown
  pub all : held ++ text ≡ shown ++ held'

-- the style changes nothing
abbrev pub is_plain_style : Style → Bool
is_plain_style style = if style.colors then false else (if style.utf8 then false else true)
