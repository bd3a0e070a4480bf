-- What an event adds to the weight is what it adds to what is built.
use Rattle.std.proofs.Common.{◌≡◌, ℕ, ◌+◌, Option, None, Some, List, [], ◌∷◌, ◌++◌, length, refl, sym, ap, subst, arith, length-append}
use Rattle.resp_value.specs.Data.{Kind, Datum, Data, scalar, aggregate, data_of_list}
use Rattle.resp_value.specs.Data as d
use Rattle.resp_fronts.specs.Events.{Event, TextKind}
use Rattle.resp_fronts.specs.Events as e
use Rattle.resp_decode.specs.Builds.{Group, Text, Construction, with_value, with_value_in, scalar_of, with_text_ended, with_byte, with_group_closed, with_event, with_events}
use Rattle.resp_decode.specs.Weights.{content_size, weight, weight_of_each, weight_of_all, weight_of_groups, format_weight, weight_of_text, weight_of_whole, weight_of}
use Rattle.resp_decode.specs.Fits.{IsInText, MayEndText, MayClose, MayCome, MayAllCome, event_weight, events_weight, end_weight, text_end_weight}

pub weight_of_all-append : (xs : List Datum) (x : Datum) → weight_of_all (xs ++ x ∷ []) ≡ weight_of_all xs + weight x
weight_of_all-append [] x = omega arith
weight_of_all-append (y ∷ ys) x = omega (arith, weight_of_all-append ys x)

pub weight-listed : (xs : List Datum) → weight_of_each (data_of_list xs) ≡ weight_of_all xs
weight-listed [] = refl
weight-listed (x ∷ xs) = omega (arith, weight-listed xs)

-- a finished value weighs what it weighs
put_in_weighs : (gs : List Group) (text : Option Text) (x : Datum) → weight_of (with_value_in gs x (record { groups = gs; text = text; whole = None })) ≡
    weight_of_groups gs + weight_of_text text + weight x
put_in_weighs [] text x = omega arith
put_in_weighs (g ∷ gs) text x = omega (arith, weight_of_all-append g.members x)

pub put_weighs : (x : Datum) (b : Construction) → b.whole ≡ None → weight_of (with_value x b) ≡ weight_of_groups b.groups + weight_of_text b.text + weight x
put_weighs x b unended =
    let P : Option Datum → Type 0 = λ w. weight_of (with_value_in b.groups x (record { groups = b.groups; text = b.text; whole = w })) ≡
    weight_of_groups b.groups + weight_of_text b.text + weight x in
    subst P (sym unended) (put_in_weighs b.groups b.text x)

-- a whole text weighs what its value does
scalar_weighs : (kind : TextKind) (s : List ℕ) → content_size (scalar_of kind s) + 3 ≡ format_weight kind + length s + end_weight kind s
scalar_weighs e.Simple s = omega arith
scalar_weighs e.Error s = omega arith
scalar_weighs e.Double s = omega arith
scalar_weighs e.Bulk s = omega arith
scalar_weighs e.BulkError s = omega arith
scalar_weighs (e.Verbatim format) s = omega arith
scalar_weighs (e.Big negative) [] = refl
scalar_weighs (e.Big negative) (c ∷ s) = omega arith

text_weighs : (text : Option Text) (b : Construction) → MayEndText text → b.whole ≡ None →
    weight_of (with_text_ended text b) ≡ weight_of_groups b.groups + weight_of_text text + text_end_weight text
text_weighs None b may unended = absurd may
text_weighs (Some t) b may unended = omega (
  arith,
  put_weighs (scalar (scalar_of t.kind t.content)) (record b { text = None }) unended,
  scalar_weighs t.kind t.content,
)

byte_weighs : (text : Option Text) (c : ℕ) → IsInText text → weight_of_text (with_byte text c) ≡ weight_of_text text + 1
byte_weighs None c may = absurd may
byte_weighs (Some t) c may = omega (arith, length-append t.content (c ∷ []))

close_weighs : (gs : List Group) (b : Construction) → MayClose gs → b.whole ≡ None →
    weight_of (with_group_closed gs b) ≡ weight_of_groups gs + weight_of_text b.text
close_weighs [] b may unended = absurd may
close_weighs (g ∷ gs) b may unended = omega (
  arith,
  put_weighs (aggregate g.kind (data_of_list g.members)) (record b { groups = gs }) unended,
  weight-listed g.members,
)

-- what one event adds
pub event_weighs : (event : Event) (b : Construction) → MayCome event b → weight_of (with_event event b) ≡ weight_of b + event_weight event b
event_weighs e.Null b may = omega (arith, put_weighs (scalar d.Null) b may.1, ap weight_of_whole may.1)
event_weighs (e.Bool truth) b may = omega (arith, put_weighs (scalar (d.Bool truth)) b may.1, ap weight_of_whole may.1)
event_weighs (e.Int number) b may = omega (arith, put_weighs (scalar (d.Int number)) b may.1, ap weight_of_whole may.1)
event_weighs (e.Text kind) b may = omega (arith, ap weight_of_text may.0)
event_weighs (e.Byte byte) b may = omega (arith, byte_weighs b.text byte may.0)
event_weighs e.TextEnd b may = omega (arith, text_weighs b.text b may.0 may.1, ap weight_of_whole may.1)
event_weighs (e.Open kind members) b may = omega arith
event_weighs e.Close b may = omega (arith, close_weighs b.groups b may.1 may.0.1, ap weight_of_whole may.0.1)
event_weighs e.Done b may = omega arith

-- what events add
pub events_weigh : (es : List Event) (b : Construction) → MayAllCome es b → weight_of (with_events es b) ≡ weight_of b + events_weight es b
events_weigh [] b may = omega arith
events_weigh (x ∷ es) b may = omega (arith, event_weighs x b may.0, events_weigh es (with_event x b) may.1)
