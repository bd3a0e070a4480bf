-- Laws of cut values.
use Rattle.std.specs.Prelude.{◌≡◌, ◌≤◌, ℕ, [], length}
use Rattle.resp_value.specs.Data.{Datum, longest}
use Rattle.resp_value.specs.Cuts.{cut, cut_lengths}

-- a value of whose texts none has more bytes than are shown is kept whole, without a length
abbrev pub ShortTextsAreKept : Type 0
ShortTextsAreKept = (shown : ℕ) (x : Datum) → longest x ≤ shown → (cut shown x ≡ x) × (cut_lengths shown x ≡ [])

-- cutting again changes nothing
abbrev pub ACutValueIsCutAlready : Type 0
ACutValueIsCutAlready = (shown : ℕ) (x : Datum) → cut shown (cut shown x) ≡ cut shown x

-- a cut value has as many texts with more bytes than are shown as the whole value
abbrev pub LengthsStayAsMany : Type 0
LengthsStayAsMany = (shown : ℕ) (x : Datum) →
    length (cut_lengths shown (cut shown x)) ≡ length (cut_lengths shown x)
