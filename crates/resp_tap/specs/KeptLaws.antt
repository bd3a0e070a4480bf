-- What the kept part of a value or of a command says of the whole.
use Rattle.std.specs.Prelude.{◌≡◌, ℕ, Bool, List, length, Option}
use Rattle.resp_value.specs.declared.cut_value.CutValue.{CutValue}
use Rattle.resp_value.specs.Data.{Datum, depth}
use Rattle.resp_value.specs.Values.{datum_of}
use Rattle.resp_session.specs.Reading.{is_refusal}
use Rattle.resp_stats.specs.Names.{table_name}
use Rattle.resp_tap.specs.Called.{command_name}
use Rattle.resp_tap.specs.ClientNames.{Naming, asked_by, name_asked}
use Rattle.resp_tap.specs.Filters.{Chooses, Suffices, kept_by}
use Rattle.resp_tap.specs.Kinds.{command_kind}
use Rattle.resp_tap.specs.Parts.{AreKeptOf, IsEnough, IsKeptOf}
use Rattle.resp_tap.specs.Secrets.{secrets_of}
use Rattle.resp_tap.specs.declared.filter.Filter.{Filter}

-- the kept part of a value is an error exactly if the value is one, and has as many levels
abbrev pub KeptPartsTellTheSame : Type 0
KeptPartsTellTheSame = (most : Option ℕ) (whole : Datum) (kept : CutValue) → IsKeptOf most whole kept →
    (is_refusal (datum_of kept.value) ≡ is_refusal whole) × (depth (datum_of kept.value) ≡ depth whole)

-- The kept part of a command tells, as the whole command does, how the server replies, which words are secret, which name
-- the connection gets, and the name of the command in JSON and in a table. A filter for which enough is kept decides the
-- same.
pub record TellsTheCommand (most : Option ℕ) (whole words : List (List ℕ)) : Type 0 where
  pub kind : command_kind words ≡ command_kind whole
  pub secrets : secrets_of words ≡ secrets_of whole
  pub named : (number : ℕ) (n : Naming) → asked_by number (name_asked words) n ≡ asked_by number (name_asked whole) n
  pub called : command_name words ≡ command_name whole
  pub counted : table_name words ≡ table_name whole
  pub count : length words ≡ length whole
  pub chosen : (f : Filter) (is_chosen : Bool) → Suffices most f → Chooses f words is_chosen → Chooses f whole is_chosen

abbrev pub KeptWordsTellTheSame : Type 0
KeptWordsTellTheSame = (shown most : Option ℕ) (whole words : List (List ℕ)) (lengths : List ℕ) →
    AreKeptOf shown most whole words lengths → TellsTheCommand most whole words

-- as many bytes as a tap keeps for a filter are enough for what is shown, and for the filter
abbrev pub EnoughIsKept : Type 0
EnoughIsKept = (f : Filter) (shown : Option ℕ) → IsEnough shown (kept_by f shown) × Suffices (kept_by f shown) f
