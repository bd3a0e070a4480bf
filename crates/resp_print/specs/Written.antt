-- The part of a text that was written.
use Rattle.std.specs.Prelude.{◌≡◌, ℕ, List, ◌++◌, Option, Result, Ok, Err}
use Rattle.resp_io.specs.Devices.{Appends, count_after}

-- the first part of the text was appended
pub record AppendsPart (before after : Option (List ℕ)) (text : List ℕ) : Type 0 where
  pub part : List ℕ
  pub beyond : List ℕ
  pub whole : text ≡ part ++ beyond
  pub appended : Appends before after part

-- The whole text was appended and no write failed; or one write failed, and the first part of the text was appended.
abbrev pub WritesText : {X E : Type 0} → Option (List ℕ) → Option (List ℕ) → ℕ → ℕ → Result X E → List ℕ → Type 0
WritesText before after failures failures' (Ok x) text = Appends before after text × (failures' ≡ failures)
WritesText before after failures failures' (Err e) text =
    AppendsPart before after text × (failures' ≡ count_after 1 failures)
