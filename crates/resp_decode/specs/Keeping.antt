-- The values held by a decoder that keeps the first bytes of each text.
use Rattle.std.specs.Prelude.{◌≡◌, ℕ, if◌then◌else◌, Option, None, Some, [], length}
use Rattle.resp_scan.specs.Reading.{Events}
use Rattle.resp_decode.specs.Builds.{Construction, Text, built_from, nothing}
use Rattle.resp_decode.specs.CutBuilds.{cut_construction, lengths_of, may_cut}
use Rattle.resp_decode.specs.Holding.{construction_of}
use Rattle.resp_decode.specs.Weights.{weight_of}
use Rattle.resp_decode.specs.declared.kept.Kept.{Kept}

-- the bytes of the text that is being read are counted, if it may be cut
abbrev pub CountsText : Kept → Option Text → Type 0
CountsText kept None = Unit {0}
CountsText kept (Some t) =
    (kept.cuts ≡ may_cut t.kind) × (kept.count ≡ (if may_cut t.kind then length t.content else 0))

-- the state has the first bytes of each text of this partial value, and the lengths of its longer texts
pub record KeepsOf (kept : Kept) (b : Construction) : Type 0 where
  pub holds : construction_of kept.held ≡ cut_construction kept.shown b
  pub weighs : kept.held.weight ≡ weight_of (cut_construction kept.shown b)
  pub lengths : kept.lengths.items ≡ lengths_of kept.shown b
  pub counts : CountsText kept b.text

-- the state shows this many bytes of each text, and keeps the first bytes of the texts of these events
abbrev pub HasKept : Kept → ℕ → Events → Type 0
HasKept kept shown es = (kept.shown ≡ shown) × KeepsOf kept (built_from es)

-- nothing is held
pub record KeepsNothing (kept : Kept) : Type 0 where
  pub holds : construction_of kept.held ≡ nothing
  pub weighs : kept.held.weight ≡ 0
  pub lengths : kept.lengths.items ≡ []
