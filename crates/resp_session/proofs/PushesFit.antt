-- A push that isn't refused is within the limits.
use Rattle.std.proofs.Common.{◌≡◌, ◌≤◌, length}
use Rattle.resp_value.specs.Bounds.{Bounds}
use Rattle.resp_value.specs.Canonical.{canonical_text, IsKindBelow, IsScalarButDouble, HasNoDouble, HaveNoDouble, AllowsDoubles, HasNoPush, HaveNoPush, HasPushAtTop, Fits}
use Rattle.resp_value.specs.Data.{Kind, Array, Set, Map, Attr, Push, Scalar, Datum, Data, scalar, aggregate, none, more, depth, longest, most_items}
use Rattle.resp_value.specs.Data as d
use Rattle.resp_value.specs.Rules.{rules_under}
use Rattle.resp_value.specs.declared.version.Version.{Version}
use Rattle.resp_value.specs.declared.version.Version.TheVariants.{Three}
use Rattle.resp_value.specs.declared.cause.Cause.{Cause}
use Rattle.resp_value.specs.declared.cause.Cause.TheVariants.{Double, NotInVersion, PushBelowTop, OverLimits}
use Rattle.resp_value.specs.declared.cause.Limit.TheVariants.{Depth, Length, Items, Total}
use Rattle.resp_session.specs.Runs.{RefusesPush}
use Rattle.resp_session.proofs.FittingWords.{within}
use Rattle.resp_session.proofs.WrittenIsRead.{three_or_two}

-- what isn't refuted holds: it can be told
kind_below : (k : Kind) → ((IsKindBelow k → ⊥) → ⊥) → IsKindBelow k
kind_below Array h = tt
kind_below Set h = tt
kind_below Map h = tt
kind_below Attr h = tt
kind_below Push h = absurd (h (λ e. e))

mutual
  no_push : (x : Datum) → ((HasNoPush x → ⊥) → ⊥) → HasNoPush x
  no_push (scalar s) h = tt
  no_push (aggregate k xs) h = (kind_below k (λ n. h (λ p. n p.0)), no_pushes xs (λ n. h (λ p. n p.1)))

  no_pushes : (xs : Data) → ((HaveNoPush xs → ⊥) → ⊥) → HaveNoPush xs
  no_pushes none h = tt
  no_pushes (more x xs) h = (no_push x (λ n. h (λ p. n p.0)), no_pushes xs (λ n. h (λ p. n p.1)))

no_double_of_scalar : (s : Scalar) → ((IsScalarButDouble s → ⊥) → ⊥) → IsScalarButDouble s
no_double_of_scalar d.Null h = tt
no_double_of_scalar (d.Bool b) h = tt
no_double_of_scalar (d.Int i) h = tt
no_double_of_scalar (d.Simple s) h = tt
no_double_of_scalar (d.Error s) h = tt
no_double_of_scalar (d.Double s) h = absurd (h (λ e. e))
no_double_of_scalar (d.Bulk s) h = tt
no_double_of_scalar (d.BulkError s) h = tt
no_double_of_scalar (d.Verbatim format s) h = tt
no_double_of_scalar (d.Big negative digits) h = tt

mutual
  no_double : (x : Datum) → ((HasNoDouble x → ⊥) → ⊥) → HasNoDouble x
  no_double (scalar s) h = no_double_of_scalar s h
  no_double (aggregate k xs) h = no_doubles xs h

  no_doubles : (xs : Data) → ((HaveNoDouble xs → ⊥) → ⊥) → HaveNoDouble xs
  no_doubles none h = tt
  no_doubles (more x xs) h = (no_double x (λ n. h (λ p. n p.0)), no_doubles xs (λ n. h (λ p. n p.1)))

doubles_allowed : (limits : Bounds) (x : Datum) → ((AllowsDoubles limits x → ⊥) → ⊥) → AllowsDoubles limits x
doubles_allowed limits x h off = no_double x (λ n. h (λ allows. n (allows off)))

at_top : (x : Datum) → ((HasPushAtTop x → ⊥) → ⊥) → HasPushAtTop x
at_top (scalar s) h = tt
at_top (aggregate k xs) h = no_pushes xs h

pub push_fits : (limits : Bounds) (version : Version) (push : Datum) → ((cause : Cause) → RefusesPush limits version push cause → ⊥) →
    Fits (rules_under Three limits) push
push_fits limits version push fine =
    let three : version ≡ Three = three_or_two version (fine NotInVersion) in
    let allows = doubles_allowed limits push (λ holds. fine Double (three, holds)) in
    let top = at_top push (λ below. fine PushBelowTop (three, allows, below)) in
    let few : depth push ≤ limits.depth = within (depth push) limits.depth (λ over. fine (OverLimits Depth) (three, allows, top, over)) in
    let short : longest push ≤ limits.length = within (longest push) limits.length (λ over. fine (OverLimits Length) (three, allows, top, (few, over))) in
    let items : most_items push ≤ limits.items =
    within (most_items push) limits.items (λ over. fine (OverLimits Items) (three, allows, top, (few, short, over))) in
    record {
      allows_doubles = allows;
      has_types = tt;
      push_at_top = top;
      within_depth = few;
      within_length = short;
      within_items = items;
      within_total = within (length (canonical_text Three push)) limits.total
          (λ over. fine (OverLimits Total) (three, allows, top, (few, short, items, over)));
    }
