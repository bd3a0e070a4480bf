-- The partial value that the events of a value build: the open aggregates with the values of their finished members,
-- the text being read, and at last the complete value.
use Rattle.std.specs.Prelude.{ℕ, Option, None, Some, List, [], ◌∷◌, ◌++◌}
use Rattle.resp_value.specs.Numbers.{zero_if_none}
use Rattle.resp_value.specs.Data.{Kind, Scalar, Datum, scalar, aggregate, data_of_list}
use Rattle.resp_value.specs.Data as d
use Rattle.resp_fronts.specs.Events.{Event, TextKind}
use Rattle.resp_fronts.specs.Events as e

-- an open aggregate, with the values of its finished members
pub record Group : Type 0 where
  pub kind : Kind
  pub members : List Datum

-- a text being read, with its content so far
pub record Text : Type 0 where
  pub kind : TextKind
  pub content : List ℕ

-- the partial value: its open aggregates, the innermost first, the text being read, and the value once it is complete
pub record Construction : Type 0 where
  pub groups : List Group
  pub text : Option Text
  pub whole : Option Datum

-- the state between two values
abbrev pub nothing : Construction
nothing = record { groups = []; text = None; whole = None }

-- the scalar of a complete text
abbrev pub scalar_of : TextKind → List ℕ → Scalar
scalar_of e.Simple s = d.Simple s
scalar_of e.Error s = d.Error s
scalar_of e.Double s = d.Double s
scalar_of e.Bulk s = d.Bulk s
scalar_of e.BulkError s = d.BulkError s
scalar_of (e.Verbatim format) s = d.Verbatim format s
scalar_of (e.Big negative) s = d.Big negative (zero_if_none s)

-- the value of a complete text
abbrev pub text_value : TextKind → List ℕ → Datum
text_value kind s = scalar (scalar_of kind s)

-- adds a finished value, as a member of the innermost aggregate or as the complete value
abbrev pub with_value_in : List Group → Datum → Construction → Construction
with_value_in [] x b = record b { whole = Some x }
with_value_in (g ∷ gs) x b = record b { groups = record g { members = g.members ++ x ∷ [] } ∷ gs }

abbrev pub with_value : Datum → Construction → Construction
with_value x b = with_value_in b.groups x b

-- ends the text being read
abbrev pub with_text_ended : Option Text → Construction → Construction
with_text_ended None b = b
with_text_ended (Some t) b = with_value (text_value t.kind t.content) (record b { text = None })

-- adds one byte to the text being read
abbrev pub with_byte : Option Text → ℕ → Option Text
with_byte None byte = None
with_byte (Some t) byte = Some (record t { content = t.content ++ byte ∷ [] })

-- closes the innermost aggregate
abbrev pub with_group_closed : List Group → Construction → Construction
with_group_closed [] b = b
with_group_closed (g ∷ gs) b = with_value (aggregate g.kind (data_of_list g.members)) (record b { groups = gs })

-- the effect of one event
abbrev pub with_event : Event → Construction → Construction
with_event e.Null b = with_value (scalar d.Null) b
with_event (e.Bool truth) b = with_value (scalar (d.Bool truth)) b
with_event (e.Int number) b = with_value (scalar (d.Int number)) b
with_event (e.Text kind) b = record b { text = Some (record { kind = kind; content = [] }) }
with_event (e.Byte byte) b = record b { text = with_byte b.text byte }
with_event e.TextEnd b = with_text_ended b.text b
with_event (e.Open kind members) b = record b { groups = record { kind = kind; members = [] } ∷ b.groups }
with_event e.Close b = with_group_closed b.groups b
with_event e.Done b = b

-- the effect of events, in order
abbrev pub with_events : List Event → Construction → Construction
with_events [] b = b
with_events (event ∷ es) b = with_events es (with_event event b)

-- the state after the events given of a value
abbrev pub built_from : List Event → Construction
built_from es = with_events es nothing

-- adds content to the text being read
abbrev pub with_bytes : Option Text → List ℕ → Option Text
with_bytes None s = None
with_bytes (Some t) s = Some (record t { content = t.content ++ s })
