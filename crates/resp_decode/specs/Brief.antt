-- Values without content and members, which need no memory.
use Rattle.std.specs.Prelude.{◌≡◌, ◌⊎◌, ℕ, List, [], ◌∷◌}
use Rattle.std.specs.Str.{byte}
use Rattle.resp_fronts.specs.Events.{Event}
use Rattle.resp_fronts.specs.Events as e
use Rattle.resp_scan.specs.Reading.{BeginDue, Events}

-- a null, a boolean or an integer, or the end of the value
abbrev pub IsBriefEvent : Event → Type 0
IsBriefEvent e.Null = Unit {0}
IsBriefEvent (e.Bool truth) = Unit {0}
IsBriefEvent (e.Int number) = Unit {0}
IsBriefEvent (e.Text kind) = ⊥
IsBriefEvent (e.Byte content) = ⊥
IsBriefEvent e.TextEnd = ⊥
IsBriefEvent (e.Open kind members) = ⊥
IsBriefEvent e.Close = ⊥
IsBriefEvent e.Done = Unit {0}

-- no event is of a text or an aggregate
abbrev pub AreBrief : List Event → Type 0
AreBrief [] = Unit {0}
AreBrief (x ∷ es) = IsBriefEvent x × AreBrief es

-- some event is of a text or an aggregate, which need memory
abbrev pub WantMemory : List Event → Type 0
WantMemory es = AreBrief es → ⊥

-- some of the first events of these bytes need memory
abbrev pub BringMemoryWants : List ℕ → Type 0
BringMemoryWants front = (given : Events) × BeginDue front given × WantMemory given

-- the type byte of an integer, a boolean or a null of one line
abbrev pub IsBriefByte : ℕ → Type 0
IsBriefByte first = (first ≡ byte ":") ⊎ (first ≡ byte "#") ⊎ (first ≡ byte "_")

-- the text begins with such a byte
abbrev pub BeginsBrief : List ℕ → Type 0
BeginsBrief [] = ⊥
BeginsBrief (first ∷ text) = IsBriefByte first
