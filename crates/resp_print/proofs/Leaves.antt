-- Values without members.
use Rattle.std.proofs.Common.{Global, ◌≡◌, ap, refl, subst, sym, ◌∙◌}
use Rattle.std.specs.declared.boxed.Box.{Box}
use Rattle.resp_value.specs.Values.{datum_of}
use Rattle.resp_value.specs.declared.value.Members.{Members}
use Rattle.resp_value.specs.declared.value.PairList.{PairList}
use Rattle.resp_value.specs.declared.value.Value.{Value, Value-F}
use Rattle.resp_value.specs.declared.value.Value as declared
use Rattle.resp_value.specs.declared.value.Value.TheVariants as value
use Rattle.resp_value.specs.declared.value.Value.TheViews.{out-Value, roll-Value, roll-out-Value}
use Rattle.resp_value.specs.declared.value.Value.TheVariants.{rolls-Array, rolls-Set, rolls-Map, rolls-Attr, rolls-Push, rolls-Null, rolls-Bool, rolls-Int, rolls-Simple, rolls-Error, rolls-Double, rolls-Bulk, rolls-BulkError, rolls-Verbatim, rolls-Big}
use Rattle.resp_print.specs.Printed.{IsScalar}

-- a value that is no aggregate has no members
pub has_no_members : (v : Value) → ((x : Members) → v ≡ value.Array x → ⊥) → ((x : Members) → v ≡ value.Set x → ⊥) →
    ((x : PairList) → v ≡ value.Map x → ⊥) → ((x : PairList) (y : Box Value Global) → v ≡ value.Attr x y → ⊥) →
    ((x : Members) → v ≡ value.Push x → ⊥) → IsScalar (datum_of v)
has_no_members v array set map attr push = case (out-Value v) refl
  where
    made : (l : Value-F Value Members PairList) → out-Value v ≡ l → v ≡ roll-Value l
    made l e = sym (roll-out-Value v) ∙ ap roll-Value e

    scalar_as : (w : Value) → v ≡ w → IsScalar (datum_of w) → IsScalar (datum_of v)
    scalar_as w e is = subst (λ z. IsScalar (datum_of z)) (sym e) is

    case : (l : Value-F Value Members PairList) → out-Value v ≡ l → IsScalar (datum_of v)
    case (declared.Value-F.Array x) e = absurd (array x (made (declared.Value-F.Array x) e ∙ rolls-Array x))
    case (declared.Value-F.Set x) e = absurd (set x (made (declared.Value-F.Set x) e ∙ rolls-Set x))
    case (declared.Value-F.Map x) e = absurd (map x (made (declared.Value-F.Map x) e ∙ rolls-Map x))
    case (declared.Value-F.Attr x y) e = absurd (attr x y (made (declared.Value-F.Attr x y) e ∙ rolls-Attr x y))
    case (declared.Value-F.Push x) e = absurd (push x (made (declared.Value-F.Push x) e ∙ rolls-Push x))
    case declared.Value-F.Null e = scalar_as value.Null (made declared.Value-F.Null e ∙ rolls-Null) tt
    case (declared.Value-F.Bool x) e = scalar_as (value.Bool x) (made (declared.Value-F.Bool x) e ∙ rolls-Bool x) tt
    case (declared.Value-F.Int x) e = scalar_as (value.Int x) (made (declared.Value-F.Int x) e ∙ rolls-Int x) tt
    case (declared.Value-F.Simple x) e = scalar_as (value.Simple x) (made (declared.Value-F.Simple x) e ∙ rolls-Simple x) tt
    case (declared.Value-F.Error x) e = scalar_as (value.Error x) (made (declared.Value-F.Error x) e ∙ rolls-Error x) tt
    case (declared.Value-F.Double x) e = scalar_as (value.Double x) (made (declared.Value-F.Double x) e ∙ rolls-Double x) tt
    case (declared.Value-F.Bulk x) e = scalar_as (value.Bulk x) (made (declared.Value-F.Bulk x) e ∙ rolls-Bulk x) tt
    case (declared.Value-F.BulkError x) e = scalar_as (value.BulkError x) (made (declared.Value-F.BulkError x) e ∙ rolls-BulkError x) tt
    case (declared.Value-F.Verbatim x y) e = scalar_as (value.Verbatim x y) (made (declared.Value-F.Verbatim x y) e ∙ rolls-Verbatim x y) tt
    case (declared.Value-F.Big x) e = scalar_as (value.Big x) (made (declared.Value-F.Big x) e ∙ rolls-Big x) tt
