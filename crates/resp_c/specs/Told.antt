-- The result of a step, as C receives it.
use Rattle.std.specs.Prelude.{◌≡◌, ℕ, ℤ, pos, Bool, true, false, List, [], ◌∷◌, length, Option, Some, None}
use Rattle.resp_scan.specs.declared.event.TextKind.{TextKind}
use Rattle.resp_scan.specs.declared.event.TextKind.TheVariants as text
use Rattle.resp_scan.specs.declared.event.Event.{Event}
use Rattle.resp_scan.specs.declared.event.Event.TheVariants as event
use Rattle.resp_c.specs.EventNumbers.{bool_number, close_number, done_number, int_number, kind_form, more_number, null_number, open_number, part_number, text_end_number, text_form, text_number, whole_number}
use Rattle.resp_c.specs.declared.event.RespEvent.{RespEvent}

-- the number of a boolean, and of a big number's sign
abbrev pub truth_number : Bool → ℤ
truth_number false = pos 0
truth_number true = pos 1

-- the data of a text besides its kind: the format of a verbatim string, the sign of a big number
abbrev pub TellsMore : RespEvent → TextKind → Type 0
TellsMore out (text.Verbatim format) = out.format ≡ format
TellsMore out (text.Big negative) = out.number ≡ truth_number negative
TellsMore out kind = Unit {0}

-- the members of an aggregate, or that it is streamed
abbrev pub members_number : Option ℕ → ℕ
members_number None = 18446744073709551615
members_number (Some members) = members

-- the kind of the event, and its data
abbrev pub Tells : RespEvent → Option Event → Type 0
Tells out None = out.kind ≡ more_number
Tells out (Some event.Null) = out.kind ≡ null_number
Tells out (Some (event.Bool truth)) = (out.kind ≡ bool_number) × (out.number ≡ truth_number truth)
Tells out (Some (event.Int number)) = (out.kind ≡ int_number) × (out.number ≡ number)
Tells out (Some (event.Text kind)) = (out.kind ≡ text_number) × (out.form ≡ text_form kind) × TellsMore out kind
Tells out (Some (event.Part bytes)) =
    (out.kind ≡ part_number) × (out.part ≡ length bytes.now) × (length bytes.now ≡ 1 → bytes.now ≡ out.digit ∷ [])
Tells out (Some event.TextEnd) = out.kind ≡ text_end_number
Tells out (Some (event.Open kind members)) =
    (out.kind ≡ open_number) × (out.form ≡ kind_form kind) × (out.members ≡ members_number members)
Tells out (Some event.Close) = out.kind ≡ close_number
Tells out (Some event.Done) = out.kind ≡ done_number

-- a text together with its end
pub record TellsWhole (out : RespEvent) (kind : TextKind) (bytes : List ℕ) : Type 0 where
  pub kind_is : out.kind ≡ whole_number
  pub form_is : out.form ≡ text_form kind
  pub part_is : out.part ≡ length bytes
