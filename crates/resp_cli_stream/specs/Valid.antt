-- The bytes that a valid value can have at a place, and their text.
use Rattle.std.specs.Prelude.{◌≡◌, ◌↔◌, ◌<◌, ◌++◌, ◌∷◌, ℕ, Bool, true, false, List, [], codes}
use Rattle.resp_print.specs.Shown.{quoted_text}
use Rattle.std.specs.List.{Contains, flat_map}
use Rattle.resp_value.specs.Rules.{Rules, WithinTotal}
use Rattle.resp_value.specs.Spellings.{IsViable}

-- a valid value goes on with this byte after a front, or none does
abbrev pub GoesOn : Rules → List ℕ → Bool → ℕ → Type 0
GoesOn r front true byte = IsViable r WithinTotal (front ++ byte ∷ [])
GoesOn r front false byte = IsViable r WithinTotal (front ++ byte ∷ []) → ⊥

-- these are the bytes with which a valid value goes on, or all others
abbrev pub AreNext : Rules → List ℕ → Bool → List ℕ → Type 0
AreNext r front goes_on bytes = (byte : ℕ) → byte < 256 → Contains bytes byte ↔ GoesOn r front goes_on byte

-- a byte after a space, with the escapes of quoted text
abbrev pub name_text : ℕ → List ℕ
name_text byte = codes " " ++ quoted_text (byte ∷ [])

abbrev pub names_text : List ℕ → List ℕ
names_text bytes = flat_map name_text bytes

-- the words before the valid bytes, or before the bytes that are not valid
abbrev pub lead_text : Bool → List ℕ
lead_text true = codes "valid here:"
lead_text false = codes "valid here: any byte but"

abbrev pub next_text : Bool → List ℕ → List ℕ
next_text goes_on bytes = lead_text goes_on ++ names_text bytes

-- the text names just the bytes with which a valid value goes on after a front
pub record NamesNext (r : Rules) (front text : List ℕ) : Type 0 where
  pub goes_on : Bool
  pub bytes : List ℕ
  pub are_next : AreNext r front goes_on bytes
  pub is_text : text ≡ next_text goes_on bytes
