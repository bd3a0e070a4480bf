-- The bytes that one side has sent of a value.
use Rattle.std.specs.Prelude.{◌≡◌, ◌⊎◌, ℕ, List, [], length, MatchOption, Option}
use Rattle.resp_value.specs.Rules.{Rules, WithinTotal, rules_under}
use Rattle.resp_value.specs.Spellings.{IsSpelling, IsViable}
use Rattle.resp_value.specs.Data.{Datum}
use Rattle.resp_value.specs.declared.cause.Cause.TheVariants.{OutOfMemory}
use Rattle.resp_scan.specs.Reading.{HasNoValue}
use Rattle.resp_scan.specs.declared.event.Fault.{Fault}
use Rattle.resp_value.specs.declared.cut_value.CutValue.{CutValue}
use Rattle.resp_decode.specs.CutDecoding as cut
use Rattle.resp_decode.specs.Decoding as decode
use Rattle.resp_tap.specs.Parts.{IsKeptOf}
use Rattle.resp_tap.specs.declared.side_reader.SideReader.{SideReader}

-- the rules by which the bytes of a side are read
abbrev pub side_rules : SideReader → Rules
side_rules s = rules_under s.version s.limits

-- the bytes that were read of the incomplete value: without a decoder none
abbrev pub HasSent : SideReader → List ℕ → Type 0
HasSent s front = MatchOption s.decoder (front ≡ []) (λ decoder. cut.HasTaken decoder.value front)

-- P holds of all bytes that were read of the incomplete value
abbrev pub WhereSent : SideReader → (List ℕ → Type 0) → Type 0
WhereSent s P = (front : List ℕ) → HasSent s front → P front

-- the text is a spelling of a value within the rules, of which this is kept, and no byte of the next value was read
pub record EndsSide (r : Rules) (most : Option ℕ) (s : SideReader) (written : List ℕ) (kept : CutValue) : Type 0 where
  pub whole : Datum
  pub spelling : IsSpelling r whole written
  pub is_kept : IsKeptOf most whole kept
  pub takes : HasSent s []

-- the piece is used up: the text does not begin with a spelling in any version or under any limits, it is viable within
-- the rules, and it was read
pub record GoesOnSide (r : Rules) (s : SideReader) (written piece : List ℕ) (used : ℕ) : Type 0 where
  pub whole_piece : used ≡ length piece
  pub no_value : HasNoValue written
  pub viable : IsViable r WithinTotal written
  pub takes : HasSent s written

-- there is no memory for a decoder, before the first byte of a value
pub record LacksDecoder (front : List ℕ) (fault : Fault) : Type 0 where
  pub names : fault.cause ≡ OutOfMemory
  pub at_start : fault.at ≡ 0
  pub nothing_sent : front ≡ []

-- why the bytes of a side are rejected: by the grammar, or because an allocation failed
abbrev pub RefusesSide : Rules → List ℕ → List ℕ → Fault → Type 0
RefusesSide r front piece fault = decode.RefusesByte r front piece fault ⊎ decode.LacksMemory r front piece fault ⊎ LacksDecoder front fault
