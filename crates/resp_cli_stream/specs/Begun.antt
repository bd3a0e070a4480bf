-- The places at which the values of a stream begin, after some of its bytes.
use Rattle.std.specs.Prelude.{◌≡◌, ◌⊎◌, ℕ, ◌≤◌, List, length}
use Rattle.resp_io.specs.Devices.{last_count}
use Rattle.resp_value.specs.Rules.{Rules, WithinTotal}
use Rattle.resp_value.specs.Spellings.{IsViable}
use Rattle.resp_scan.specs.Kinds.{rules_of}
use Rattle.resp_scan.specs.Machine.Tokens.{Place}
use Rattle.resp_scan.specs.Reading.{Events, IsFaulted}
use Rattle.resp_scan.specs.declared.event.Fault.{Fault}
use Rattle.resp_cli_stream.specs.Scans.{HasScanned}
use Rattle.resp_cli_stream.specs.Takings.{Begins}
use Rattle.resp_cli_stream.specs.declared.starts.Starts.{Starts}

-- The bytes begin with this many values, which have this many bytes if the number fits into 64 bits.
pub record BeginsAt (r : Rules) (bytes : List ℕ) (count start : ℕ) : Type 0 where
  pub begins : Begins r bytes
  pub counted : length begins.values ≡ count
  pub placed : length begins.front ≤ last_count → start ≡ length begins.front

-- a scanner has read the rest, which contains no complete value, or has rejected a byte of it
abbrev pub HasReadOrRefused : Place → List ℕ → Type 0
HasReadOrRefused s rest = ((given : Events) × HasScanned s rest given) ⊎
    ((fault : Fault) × IsFaulted s fault × (IsViable (rules_of s) WithinTotal rest → ⊥))

-- the bytes were read, up to the first one that is rejected
pub record HavePassed (starts : Starts) (bytes : List ℕ) : Type 0 where
  pub stands : BeginsAt (rules_of starts.scanner) bytes starts.values starts.start
  pub come : HasReadOrRefused starts.scanner stands.begins.rest
