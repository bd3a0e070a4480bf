-- The events that may come next, of any tree.
use Rattle.std.specs.Prelude.{◌≡◌, ℕ, ◌+◌, Option, None, Some, List, [], ◌∷◌, length}
use Rattle.resp_value.specs.Bytes.{IsLine}
use Rattle.resp_value.specs.Doubles.{IsDouble}
use Rattle.resp_value.specs.Numbers.{IsKept, zero_if_none}
use Rattle.resp_value.specs.Data.{Kind, Array, Set, Map, Attr, Push}
use Rattle.resp_fronts.specs.Events.{Event, TextKind}
use Rattle.resp_fronts.specs.Events as e
use Rattle.resp_decode.specs.Builds.{Group, Text, Construction, with_event}
use Rattle.resp_decode.specs.Weights.{format_weight}

-- a complete text of this kind
abbrev pub IsContentOf : TextKind → List ℕ → Type 0
IsContentOf e.Simple s = IsLine s
IsContentOf e.Error s = IsLine s
IsContentOf e.Double s = IsDouble s
IsContentOf e.Bulk s = Unit {0}
IsContentOf e.BulkError s = Unit {0}
IsContentOf (e.Verbatim format) s = length format ≡ 3
IsContentOf (e.Big negative) s = IsKept negative (zero_if_none s)

-- a text of this kind consists of its content alone
abbrev pub IsContentAlone : TextKind → Type 0
IsContentAlone (e.Verbatim format) = ⊥
IsContentAlone (e.Big negative) = ⊥
IsContentAlone _ = Unit {0}

-- the number of members that an aggregate of this kind may have: whole pairs in a map, and one more after them in an
-- attribute
abbrev pub IsMemberCount : Kind → ℕ → Type 0
IsMemberCount Array n = Unit {0}
IsMemberCount Set n = Unit {0}
IsMemberCount Map n = (pairs : ℕ) × (n ≡ pairs + pairs)
IsMemberCount Attr n = (pairs : ℕ) × (n ≡ pairs + pairs + 1)
IsMemberCount Push n = Unit {0}

abbrev pub MayEndText : Option Text → Type 0
MayEndText None = ⊥
MayEndText (Some t) = IsContentOf t.kind t.content

abbrev pub IsInText : Option Text → Type 0
IsInText None = ⊥
IsInText (Some t) = Unit {0}

abbrev pub MayClose : List Group → Type 0
MayClose [] = ⊥
MayClose (g ∷ gs) = IsMemberCount g.kind (length g.members)

-- the weight that an event adds
abbrev pub end_weight : TextKind → List ℕ → ℕ
end_weight e.Simple s = 3
end_weight e.Error s = 3
end_weight e.Double s = 3
end_weight e.Bulk s = 3
end_weight e.BulkError s = 3
end_weight (e.Verbatim format) s = 3
end_weight (e.Big negative) [] = 4
end_weight (e.Big negative) (digit ∷ digits) = 3

abbrev pub text_end_weight : Option Text → ℕ
text_end_weight None = 0
text_end_weight (Some t) = end_weight t.kind t.content

abbrev pub event_weight : Event → Construction → ℕ
event_weight e.Null b = 3
event_weight (e.Bool truth) b = 3
event_weight (e.Int number) b = 3
event_weight (e.Text kind) b = format_weight kind
event_weight (e.Byte byte) b = 1
event_weight e.TextEnd b = text_end_weight b.text
event_weight (e.Open kind members) b = 3
event_weight e.Close b = 0
event_weight e.Done b = 0

-- the weight that events add, one after another
abbrev pub events_weight : List Event → Construction → ℕ
events_weight [] b = 0
events_weight (event ∷ es) b = event_weight event b + events_weight es (with_event event b)

-- a value may begin: no value is complete, and no text is being read
abbrev pub MayBegin : Construction → Type 0
MayBegin b = (b.text ≡ None) × (b.whole ≡ None)

-- this event may come next
abbrev pub MayCome : Event → Construction → Type 0
MayCome e.Null b = MayBegin b
MayCome (e.Bool truth) b = MayBegin b
MayCome (e.Int number) b = MayBegin b
MayCome (e.Text kind) b = MayBegin b
MayCome (e.Byte byte) b = IsInText b.text × (b.whole ≡ None)
MayCome e.TextEnd b = MayEndText b.text × (b.whole ≡ None)
MayCome (e.Open kind members) b = MayBegin b
MayCome e.Close b = MayBegin b × MayClose b.groups
MayCome e.Done b = Unit {0}

-- these events may come next, one after another
abbrev pub MayAllCome : List Event → Construction → Type 0
MayAllCome [] b = Unit {0}
MayAllCome (event ∷ es) b = MayCome event b × MayAllCome es (with_event event b)
