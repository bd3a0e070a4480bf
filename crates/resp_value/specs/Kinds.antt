-- The kinds of aggregates.
use Rattle.resp_value.specs.Data as d
use Rattle.resp_value.specs.declared.kind.OpenKind.{OpenKind}
use Rattle.resp_value.specs.declared.kind.OpenKind.TheVariants.{Array, Set, Map, Attr, Push}

-- the kind of aggregate for a kind of the program
abbrev pub kind_of : OpenKind → d.Kind
kind_of Array = d.Array
kind_of Set = d.Set
kind_of Map = d.Map
kind_of Attr = d.Attr
kind_of Push = d.Push
