-- The contract of a call that reads replies whose texts stay in the buffer.
use Rattle.std.specs.Prelude.{ℕ, ◌≤◌, List, [], length, take}
use Rattle.resp_value.specs.Data.{Datum, data_of_list}
use Rattle.resp_value.specs.Rules.{Rules, WithinTotal}
use Rattle.resp_value.specs.Spellings.{AreSpellings, IsViable}
use Rattle.resp_scan.specs.declared.event.Fault.{Fault}
use Rattle.resp_scan.specs.Reading.{Events, HasNoValue, IsRefused, IsSpelled}
use Rattle.resp_flat.specs.declared.node.Node.{Node}
use Rattle.resp_flat.specs.Nodes.{AreNodesOfEach}
use Rattle.resp_flat.specs.Plain.{BeginsWithPlain, LacksNodes}
use Rattle.resp_flat.specs.declared.in_place.InPlaceStop.{InPlaceStop}
use Rattle.resp_flat.specs.declared.in_place.InPlaceStop.TheVariants as stop

-- The bytes used are spellings of some values, one after another. The nodes stand for these values, with the texts in the
-- buffer.
pub record AreReadInPlace (rules : Rules) (buffer : List ℕ) (nodes : List Node) (count used : ℕ) : Type 0 where
  pub values : List Datum
  pub within : used ≤ length buffer
  pub spelled : AreSpellings rules values (take used buffer)
  pub nodes_within : count ≤ length nodes
  pub stand : AreNodesOfEach buffer (data_of_list values) (take count nodes)

-- the first bytes, this many, are a spelling within the rules
pub record BeginsWithReply (rules : Rules) (bytes : List ℕ) (size : ℕ) : Type 0 where
  pub within : size ≤ length bytes
  pub spelled : IsSpelled rules (take size bytes)

-- the bytes begin with a spelling within the rules, and not with that of a plain reply
pub record BeginsWithOther (rules : Rules) (bytes : List ℕ) : Type 0 where
  pub size : ℕ
  pub begins : BeginsWithReply rules bytes size
  pub not_plain : BeginsWithPlain rules bytes → ⊥

-- the bytes begin no value within the rules: this fault is that of the first byte that no such value can have there
pub record RejectsByte (rules : Rules) (bytes : List ℕ) (fault : Fault) : Type 0 where
  pub given : Events
  pub refused : IsRefused rules [] given bytes fault

-- the bytes are the beginning of a value within the rules, or there are none, and no value lies whole in them
pub record IsIncomplete (rules : Rules) (bytes : List ℕ) : Type 0 where
  pub viable : IsViable rules WithinTotal bytes
  pub no_value : HasNoValue bytes

-- why no further reply was read: these bytes are left, and this many nodes
abbrev pub StopsFor : Rules → List ℕ → ℕ → InPlaceStop → Type 0
StopsFor rules left room stop.Incomplete = IsIncomplete rules left
StopsFor rules left room stop.NoNodes = LacksNodes rules left room
StopsFor rules left room stop.NotPlain = BeginsWithOther rules left
StopsFor rules left room (stop.Refused fault) = RejectsByte rules left fault
