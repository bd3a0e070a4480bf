-- The text that was sent before each read of a stream.
use Rattle.std.specs.Prelude.{◌≡◌, ℕ, List, ◌++◌, flat_map, Option, None, Some}
use Rattle.std.specs.List.{AllByRecursion}
use Rattle.resp_value.specs.Data.{Datum}
use Rattle.resp_value.specs.Rules.{Rules}
use Rattle.resp_value.specs.Spellings.{Cut}
use Rattle.resp_io.specs.Devices.{Appends}
use Rattle.resp_io.specs.Live.{Look}
use Rattle.resp_cli_stream.specs.Streams.{AreRead}

-- P holds of each read that was recorded since
abbrev pub EachRead : Option (List Look) → Option (List Look) → (Look → Type 0) → Type 0
EachRead None after P = Unit {0}
EachRead (Some looks) after P = (since : List Look) × (after ≡ Some (looks ++ since)) × AllByRecursion P since

-- All text that is due for these bytes was appended: the text of each value in them, and the text due for the value
-- that was begun after them.
pub record AppendsDue (r : Rules) (text : Datum → List ℕ) (IsDue : List ℕ → List ℕ → Type 0) (bytes : List ℕ)
    (before after : Option (List ℕ)) : Type 0 where
  pub values : List Datum
  pub rest : List ℕ
  pub cut : Cut r bytes values rest
  pub due : List ℕ
  pub is_due : IsDue rest due
  pub appended : Appends before after (flat_map text values ++ due)

-- before this read, all text that is due for the bytes read before was sent
abbrev pub IsLive : Rules → (Datum → List ℕ) → (List ℕ → List ℕ → Type 0) → Option (List ℕ) → Option (List ℕ) → Look →
    Type 0
IsLive r text IsDue left before look = (bytes : List ℕ) × AreRead left look.left bytes ×
    AppendsDue r text IsDue bytes before look.sent
