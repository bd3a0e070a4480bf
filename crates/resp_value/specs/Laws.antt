-- Statements that have to be true if the definitions of the grammar are right.
use Rattle.std.specs.Prelude.{◌≡◌, ◌↔◌, ℕ, ◌^◌, ◌<◌, ◌≤◌, List, [], ◌∷◌, ◌++◌, length, Bool, true, false, IsTrue, codes}
use Rattle.std.specs.List.{AllByRecursion}
use Rattle.std.specs.Fmt as fmt
use Rattle.std.specs.Str.{byte}
use Rattle.resp_value.specs.Bounds.{AreBounds}
use Rattle.resp_value.specs.TreeValues.{value}
use Rattle.resp_value.specs.Data.{Datum, IsPush, depth, longest, most_items}
use Rattle.resp_value.specs.Trees.{Tree, IsTree, Spells, text}
use Rattle.resp_value.specs.Rules.{Rules, Rule, Grammar, NoDouble, InVersion, NotStreamed, WithinItems, WithinTotal, Every, IsCountedLeaf, IsCountedNode, rank, Meets, Keeps}
use Rattle.resp_value.specs.LocalRules.{MeetsLocally}
use Rattle.resp_value.specs.Bytes.{IsText}
use Rattle.resp_value.specs.Numbers.{decimal}
use Rattle.resp_value.specs.Doubles.{IsDouble}
use Rattle.resp_value.specs.DoubleStages.{completes}
use Rattle.resp_value.specs.declared.double_stage.DoubleStage.TheVariants.{Begun}
use Rattle.resp_value.specs.Spellings.{IsSpelling, IsViable, IsCause, Cut, FaultOf}
use Rattle.resp_value.specs.Canonical.{canonical_text, AllowsDoubles, IsValue, HasTypes, HasPushAtTop, HasNoDouble, Fits}
use Rattle.resp_value.specs.Values.{datum_of}
use Rattle.resp_value.specs.declared.value.Value.{Value}
use Rattle.resp_value.specs.declared.version.Version.{Version}
use Rattle.resp_value.specs.declared.version.Version.TheVariants.{Two, Three}

-- this comparison finds two values equal exactly if they have the same data
abbrev pub EqualValuesHaveEqualData : (Value → Value → Bool) → Type 0
EqualValuesHaveEqualData eq = (one other : Value) → IsTrue (eq one other) ↔ (datum_of one ≡ datum_of other)

-- a text is a spelling of at most one value, whatever the version and the limits
abbrev pub ATextHasOneValue : Type 0
ATextHasOneValue = (r s : Rules) (x y : Datum) (text : List ℕ) → IsSpelling r x text → IsSpelling s y text → x ≡ y

-- if two spellings are prefixes of the same text, they are the same, with the same value and the same rest
abbrev pub NoSpellingBeginsAnother : Type 0
NoSpellingBeginsAnother = (r s : Rules) (x y : Datum) (front front' rest rest' : List ℕ) → IsSpelling r x front →
    IsSpelling s y front' → front ++ rest ≡ front' ++ rest' → (x ≡ y) × (front ≡ front') × (rest ≡ rest')

-- no spelling is empty
abbrev pub NoSpellingIsEmpty : Type 0
NoSpellingIsEmpty = (r : Rules) (x : Datum) → IsSpelling r x [] → ⊥

-- the decimal digits of a number are those that the standard library prints
abbrev pub DigitsAreThoseOfStd : Type 0
DigitsAreThoseOfStd = (n : ℕ) → n < 2 ^ 64 → fmt.decimal n ≡ decimal n

-- a spelling begins with `>` exactly if its value is a push
abbrev pub APushBeginsWithItsByte : Type 0
APushBeginsWithItsByte = (r : Rules) (x : Datum) (text : List ℕ) → IsSpelling r x text →
    IsPush x ↔ ((rest : List ℕ) × (text ≡ byte ">" ∷ rest))

-- there is at most one way to cut a text into values and a rest
abbrev pub ATextHasOneCut : Type 0
ATextHasOneCut = (r : Rules) (text : List ℕ) (xs ys : List Datum) (rest rest' : List ℕ) → Cut r text xs rest →
    Cut r text ys rest' → (xs ≡ ys) × (rest ≡ rest')

-- a rest has at most one fault: one rule and one place
abbrev pub ARestHasOneFault : Type 0
ARestHasOneFault = (r : Rules) (rest : List ℕ) (rule rule' : Rule) (at at' : ℕ) → FaultOf r rest rule at →
    FaultOf r rest rule' at' → (rule ≡ rule') × (at ≡ at')

-- a spelling in version 2 is a spelling of the same value in version 3, under the same limits
abbrev pub VersionThreeSpellsWhatTwoDoes : Type 0
VersionThreeSpellsWhatTwoDoes = (r : Rules) (x : Datum) (text : List ℕ) → r.version ≡ Two → IsSpelling r x text →
    IsSpelling (record r { version = Three }) x text

-- a value's canonical text is a spelling of the value exactly if the value fits the version and the limits
abbrev pub CanonicalTextSpellsWhatFits : Type 0
CanonicalTextSpellsWhatFits = (r : Rules) (x : Datum) → IsValue x → IsSpelling r x (canonical_text r.version x) ↔
    Fits r x

-- two values whose types the version has are equal exactly if their canonical texts are equal
abbrev pub CanonicalTextTellsValuesApart : Type 0
CanonicalTextTellsValuesApart = (w : Version) (x y : Datum) → IsValue x → IsValue y → HasTypes w x → HasTypes w y →
    (x ≡ y) ↔ (canonical_text w x ≡ canonical_text w y)

-- a value that was read is one that the program can hold, and it fits the rules except perhaps the limit of total
abbrev pub WhatWasReadFitsButForTotal : Type 0
WhatWasReadFitsButForTotal = (r : Rules) (x : Datum) (text : List ℕ) → IsSpelling r x text → IsValue x ×
    AllowsDoubles r.limits x × HasTypes r.version x × HasPushAtTop x × (depth x ≤ r.limits.depth) ×
    (longest x ≤ r.limits.length) × (most_items x ≤ r.limits.items)

-- the canonical text of a value that was read within some rules is a spelling of it within these rules, if it is within
-- the limit of total
abbrev pub WhatWasReadCanBeWritten : Type 0
WhatWasReadCanBeWritten = (r : Rules) (x : Datum) (text : List ℕ) → IsSpelling r x text →
    length (canonical_text r.version x) ≤ r.limits.total → IsSpelling r x (canonical_text r.version x)

-- the canonical text of a value is no longer than a spelling of the value that streams nothing
abbrev pub ACountedSpellingIsNoShorter : Type 0
ACountedSpellingIsNoShorter = (r : Rules) (t : Tree) → IsTree t → Keeps r WithinTotal t →
    Every IsCountedLeaf IsCountedNode t → length (canonical_text r.version (value t)) ≤ length (text t)

-- if the rules forbid streamed forms, the canonical text of a value that was read within them is a spelling of it
-- within them
abbrev pub WhatWasReadCountedCanBeWritten : Type 0
WhatWasReadCountedCanBeWritten = (r : Rules) (x : Datum) (text : List ℕ) → r.limits.streamed ≡ false →
    IsSpelling r x text → IsSpelling r x (canonical_text r.version x)

-- every prefix of a spelling is viable under each rule
abbrev pub FrontsOfSpellingsAreViable : Type 0
FrontsOfSpellingsAreViable = (r : Rules) (x : Datum) (front rest : List ℕ) → IsSpelling r x (front ++ rest) →
    (rule : Rule) → IsViable r rule front

-- every prefix of a viable text is viable
abbrev pub FrontsOfViableTextsAreViable : Type 0
FrontsOfViableTextsAreViable = (r : Rules) (rule : Rule) (front rest : List ℕ) → IsViable r rule (front ++ rest) →
    IsViable r rule front

-- each rule admits only trees and viable texts that the rules before it admit
abbrev pub LaterRulesLeaveLess : Type 0
LaterRulesLeaveLess = (r : Rules) (rule earlier : Rule) → rank earlier ≤ rank rule →
    ((t : Tree) → Keeps r rule t → Keeps r earlier t) ×
    ((front : List ℕ) → IsViable r rule front → IsViable r earlier front)

-- a text has at most one cause
abbrev pub ATextHasOneCause : Type 0
ATextHasOneCause = (r : Rules) (front : List ℕ) (rule rule' : Rule) → IsCause r front rule → IsCause r front rule' →
    rule ≡ rule'

-- a text that is viable under the last rule has no cause
abbrev pub AViableTextHasNoCause : Type 0
AViableTextHasNoCause = (r : Rules) (front : List ℕ) (rule : Rule) → IsViable r WithinTotal front →
    IsCause r front rule → ⊥

-- each rule except the limit of total holds of a tree exactly if it holds at each node, given the node's level
abbrev pub RulesHoldAtEachNode : Type 0
RulesHoldAtEachNode = (r : Rules) (rule : Rule) (t : Tree) → rank rule < rank WithinTotal →
    Meets r rule t ↔ MeetsLocally r rule t

-- every text of a tree consists of bytes
abbrev pub TextsOfTreesAreBytes : Type 0
TextsOfTreesAreBytes = (t : Tree) (written : List ℕ) → Spells t written → IsText written

-- the tree meets each rule except the limit of items and the switch for streamed forms
abbrev pub MeetsTheOtherRules : Rules → Tree → Type 0
MeetsTheOtherRules r t = (rule : Rule) → (rule ≡ NotStreamed → ⊥) → (rule ≡ WithinItems → ⊥) → Meets r rule t

-- if streamed forms are allowed and the limit of items is the greatest total, the trees and the spellings are those of
-- the other rules
abbrev pub DefaultItemsRefuseNothing : Type 0
DefaultItemsRefuseNothing = (r : Rules) → r.limits.total ≤ 1099511627776 → r.limits.items ≡ 1099511627776 →
    r.limits.streamed ≡ true → ((t : Tree) → Keeps r WithinTotal t ↔ MeetsTheOtherRules r t) ×
    ((x : Datum) (written : List ℕ) → IsSpelling r x written ↔
    ((t : Tree) × Spells t written × MeetsTheOtherRules r t × (value t ≡ x)))

-- the type bytes of both versions
abbrev pub type_bytes : List ℕ
type_bytes = codes "+-:$*"

-- the type bytes of version 3 alone
abbrev pub later_type_bytes : List ℕ
later_type_bytes = codes "_#(!=~%|>"

-- the type bytes of a version
abbrev pub type_bytes_of : Version → List ℕ
type_bytes_of Two = type_bytes
type_bytes_of Three = type_bytes ++ later_type_bytes

-- the empty text is viable under each rule
abbrev pub TheEmptyTextIsViable : Type 0
TheEmptyTextIsViable = (r : Rules) → AreBounds r.limits → (rule : Rule) → IsViable r rule []

-- each type byte of a version is viable in it under each rule
abbrev pub TypeBytesAreViable : Type 0
TypeBytesAreViable = (r : Rules) → AreBounds r.limits → (rule : Rule) →
    AllByRecursion (λ byte. IsViable r rule (byte ∷ [])) (type_bytes_of r.version)

-- in version 2 the version is the cause at a type byte that only version 3 has
abbrev pub LaterTypeBytesWantVersionThree : Type 0
LaterTypeBytesWantVersionThree = (r : Rules) → r.version ≡ Two →
    AllByRecursion (λ byte. IsCause r (byte ∷ []) InVersion) later_type_bytes

-- A `,` begins a double. If doubles are not allowed, it is rejected as a double in both versions. If they are allowed,
-- version 2 rejects it because of the version, and version 3 accepts it.
abbrev pub ACommaBeginsADouble : Type 0
ACommaBeginsADouble = (r : Rules) → (r.limits.doubles ≡ false → IsCause r (codes ",") NoDouble) ×
    (r.limits.doubles ≡ true → r.version ≡ Two → IsCause r (codes ",") InVersion) ×
    (r.limits.doubles ≡ true → r.version ≡ Three → AreBounds r.limits → (rule : Rule) → IsViable r rule (codes ","))

-- a text is that of a double exactly if the stages of a double lead to a stage at which it may end
abbrev pub StagesReadDoubles : Type 0
StagesReadDoubles = (text : List ℕ) → IsDouble text ↔ IsTrue (completes Begun text)

-- the same rules with doubles allowed or not
abbrev pub with_doubles : Rules → Bool → Rules
with_doubles r allowed = record r { limits = record r.limits { doubles = allowed } }

-- if doubles are not allowed, the spellings are the spellings with doubles allowed whose values hold no double
abbrev pub DoublesAreAllThatTheSwitchAdds : Type 0
DoublesAreAllThatTheSwitchAdds = (r : Rules) (x : Datum) (text : List ℕ) → IsSpelling (with_doubles r false) x text ↔
    (IsSpelling (with_doubles r true) x text × HasNoDouble x)

-- some tree without a double begins with the front and keeps the rules up to this one
pub record GoesOnWithoutDoubles (r : Rules) (rule : Rule) (front : List ℕ) : Type 0 where
  pub rest : List ℕ
  pub tree : Tree
  pub spells : Spells tree (front ++ rest)
  pub keeps : Keeps r rule tree
  pub no_double : HasNoDouble (value tree)

-- if doubles are not allowed, the texts that are viable under a rule after the first are the prefixes of trees without
-- doubles that keep the rules up to this one
abbrev pub FrontsAreViableWithoutDoubles : Type 0
FrontsAreViableWithoutDoubles = (r : Rules) (rule : Rule) (front : List ℕ) → 1 ≤ rank rule →
    IsViable (with_doubles r false) rule front ↔ GoesOnWithoutDoubles (with_doubles r true) rule front

-- no tree begins with any other byte
abbrev pub NoOtherByteBeginsATree : Type 0
NoOtherByteBeginsATree = (r : Rules) (byte : ℕ) →
    AllByRecursion (λ other. byte ≡ other → ⊥) (codes "," ++ type_bytes_of Three) → IsCause r (byte ∷ []) Grammar
