-- The data of a decoder's state.
use Rattle.std.specs.Prelude.{Option, None, Some, List, [], ◌∷◌, ◌++◌, map, reverse}
use Rattle.resp_value.specs.Data.{Datum, in_turn}
use Rattle.resp_value.specs.Data as d
use Rattle.resp_value.specs.Values.{datum_of, pair_data}
use Rattle.resp_value.specs.declared.value.Value.{Value}
use Rattle.resp_scan.specs.Kinds.{text_kind_of}
use Rattle.resp_decode.specs.Builds.{Construction}
use Rattle.resp_decode.specs.Builds as b
use Rattle.resp_decode.specs.declared.group.Group.{Group}
use Rattle.resp_decode.specs.declared.group.Group.TheVariants as group
use Rattle.resp_decode.specs.declared.group.Pairs.{Pairs}
use Rattle.resp_decode.specs.declared.text.PartialText.{PartialText}
use Rattle.resp_decode.specs.declared.held.HeldParts.{HeldParts}

-- the datum of a value, if there is one
abbrev pub maybe_datum : Option Value → Option Datum
maybe_datum None = None
maybe_datum (Some x) = Some (datum_of x)

-- a key whose value has not been read
abbrev pub key_data : Option Value → List Datum
key_data None = []
key_data (Some key) = datum_of key ∷ []

-- keys and values in turn
abbrev pub pairs_data : Pairs → List Datum
pairs_data pairs = in_turn (map pair_data pairs.whole.items) ++ key_data pairs.key

-- an open aggregate, with the data of its members
abbrev pub group_of : Group → b.Group
group_of (group.Array members) = record { kind = d.Array; members = map datum_of members.items }
group_of (group.Set members) = record { kind = d.Set; members = map datum_of members.items }
group_of (group.Map pairs) = record { kind = d.Map; members = pairs_data pairs }
group_of (group.Attr pairs) = record { kind = d.Attr; members = pairs_data pairs }
group_of (group.Push members) = record { kind = d.Push; members = map datum_of members.items }

-- the text that is being read
abbrev pub text_held : PartialText → b.Text
text_held text = record { kind = text_kind_of text.kind; content = text.bytes.items }

-- the text that is being read, if there is one
abbrev pub maybe_text : Option PartialText → Option b.Text
maybe_text None = None
maybe_text (Some text) = Some (text_held text)

-- all that is held
abbrev pub construction_of : HeldParts → Construction
construction_of held = record {
  groups = reverse (map group_of held.groups.items);
  text = maybe_text held.text;
  whole = maybe_datum held.whole;
}
