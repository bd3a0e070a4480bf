-- Statements that have to be true if the definitions of a client's reading are right.
use Rattle.std.specs.Prelude.{◌≡◌, ℕ, ◌+◌, List, [], ◌++◌, length, Option}
use Rattle.resp_value.specs.Data.{Datum}
use Rattle.resp_value.specs.Bounds.{Bounds, AreBounds}
use Rattle.resp_value.specs.declared.version.Version.{Version}
use Rattle.resp_value.specs.declared.cause.Cause.{Cause}
use Rattle.resp_session.specs.Heard.{replies_of, pushes_of, numbered_replies}
use Rattle.resp_session.specs.Reading.{Waiting, ReadsAs, MayGoOn, ClientFault}

-- reading a text and then more bytes after it is the same as reading both at once
abbrev pub ReadingsGoOn : Type 0
ReadingsGoOn = (limits : Bounds) (a b c : Waiting) (xs ys : List Datum) (text more : List ℕ) →
    ReadsAs limits a xs text b → ReadsAs limits b ys more c → ReadsAs limits a (xs ++ ys) (text ++ more) c

-- the values that were read stay the same, whichever requests are made later
abbrev pub ReadingsStay : Type 0
ReadingsStay = (limits : Bounds) (a b : Waiting) (asks : List (Option Version)) (xs : List Datum) (text : List ℕ) →
    ReadsAs limits a xs text b →
    ReadsAs limits (record a { asks = a.asks ++ asks }) xs text (record b { asks = b.asks ++ asks })

-- there is at most one way to read a text into values and a viable rest
abbrev pub ATextHasOneReading : Type 0
ATextHasOneReading = (limits : Bounds) (w a b : Waiting) (xs ys : List Datum) (p q rest rest' : List ℕ) →
    ReadsAs limits w xs p a → ReadsAs limits w ys q b → p ++ rest ≡ q ++ rest' → MayGoOn limits a rest →
    MayGoOn limits b rest' → (xs ≡ ys) × (a ≡ b) × (rest ≡ rest')

-- the replies of two lists of values together are the replies of the first and then those of the second, numbered
-- without a gap; the pushes are those of both
abbrev pub HearingGoesOn : Type 0
HearingGoesOn = (first : ℕ) (xs ys : List Datum) →
    (numbered_replies first (xs ++ ys) ≡
    numbered_replies first xs ++ numbered_replies (first + length (replies_of xs)) ys) ×
    (pushes_of (xs ++ ys) ≡ pushes_of xs ++ pushes_of ys)

-- a viable rest has no fault, and any other rest has at most one: one cause and one place
abbrev pub ARestHasOneClientFault : Type 0
ARestHasOneClientFault = (limits : Bounds) (w : Waiting) (rest : List ℕ) (cause cause' : Cause) (at at' : ℕ) →
    ClientFault limits w rest cause at →
    (MayGoOn limits w rest → ⊥) × (ClientFault limits w rest cause' at' → (cause ≡ cause') × (at ≡ at'))

-- a client that has received no byte of a value may receive any value
abbrev pub NothingMayGoOn : Type 0
NothingMayGoOn = (limits : Bounds) (w : Waiting) → AreBounds limits → MayGoOn limits w []
