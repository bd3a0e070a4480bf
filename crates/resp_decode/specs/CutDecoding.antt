-- The contracts of a decoder that keeps the first bytes of each text, in terms of texts and values.
use Rattle.std.specs.Prelude.{◌≡◌, ℕ, List, []}
use Rattle.resp_value.specs.Data.{Datum}
use Rattle.resp_value.specs.Rules.{Rules}
use Rattle.resp_value.specs.Spellings.{IsSpelling}
use Rattle.resp_scan.specs.Reading.{AreDue, Events}
use Rattle.resp_scan.specs.Kinds as kinds
use Rattle.resp_scan.specs.declared.event.Fault.{Fault}
use Rattle.resp_value.specs.Cuts.{IsCutOf}
use Rattle.resp_value.specs.declared.cut_value.CutValue.{CutValue}
use Rattle.resp_decode.specs.Builds.{built_from}
use Rattle.resp_decode.specs.CutBuilds.{cut_construction}
use Rattle.resp_decode.specs.Keeping.{HasKept, KeepsNothing}
use Rattle.resp_decode.specs.Standing.{StandsAtFault, TakesFront}
use Rattle.resp_decode.specs.Weights.{weight_of}
use Rattle.resp_decode.specs.declared.cut_decoder.CutDecoder.{CutDecoder}

-- the version and the limits of a decoder
abbrev pub rules_of : CutDecoder → Rules
rules_of d = kinds.rules_of d.scanner

-- the number of bytes of each text that are to be shown
abbrev pub shown_of : CutDecoder → ℕ
shown_of d = d.kept.shown

-- The bytes that a decoder has read of a value are this front. The definition is opaque to callers: `new` establishes
-- this relation, and `feed` keeps it until a fault.
abbrev pub HasTaken : CutDecoder → List ℕ → Type 0
HasTaken d front = TakesFront (HasKept d.kept d.kept.shown) d.scanner front

-- this holds of every front that the decoder has read
abbrev pub WhereTaken : CutDecoder → (List ℕ → Type 0) → Type 0
WhereTaken d P = (front : List ℕ) → HasTaken d front → P front

-- every call returns this fault, and nothing is held
abbrev pub HasFault : CutDecoder → Fault → Type 0
HasFault d fault = StandsAtFault (KeepsNothing d.kept) d.scanner fault

-- the weight of the partial value that the events of this front build, with the first bytes of each text
abbrev pub WeighsWhatIsKept : ℕ → ℕ → List ℕ → Type 0
WeighsWhatIsKept shown weight front =
    (given : Events) × AreDue front given × (weight ≡ weight_of (cut_construction shown (built_from given)))

-- the text is a spelling of a value within the rules, of which the first bytes of each text were kept, and no byte of
-- the next value was read
pub record GivesCut (r : Rules) (shown : ℕ) (d : CutDecoder) (written : List ℕ) (kept : CutValue) : Type 0 where
  pub whole : Datum
  pub spelling : IsSpelling r whole written
  pub is_cut : IsCutOf shown whole kept
  pub takes : HasTaken d []
