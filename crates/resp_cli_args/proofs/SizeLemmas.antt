-- Sizes in one unit and in all.
use Rattle.std.proofs.Common.{◌≡◌, ◌≤◌, Bool, true, false, IsOk, not, codes, refl, Result, Ok, Err, IfOk, ◌∷◌, ◌++◌, ◌∙◌, ◌*◌, ◌⊎◌, inl, inr, ℕ, List, [], Option, Some, None, IfNone, ap, subst, sym, append-nil}
use Rattle.std.specs.List.{Contains}
use Rattle.std.specs.Str.Parse.{digits_value, without_leading_plus}
use Rattle.std.proofs.lemmas.List.{append_cancel_right}
use Rattle.std.proofs.lemmas.List.Elements.{Contains-append_left, Contains-append_right, Contains-push, Contains-push_cases}
use Rattle.clap.specs.Words.{Row, Text, first_of}
use Rattle.std.specs.Result.{result_ok}
use Rattle.resp_value.specs.Bounds.{Bounds, IsDepth, IsItems}
use Rattle.resp_cli_args.specs.CommandWords.{HasFlag, HasLimits, HasNumber, HasSize}
use Rattle.resp_cli_args.specs.Units.{HasUnit}
use Rattle.resp_cli_args.specs.Sizes.{IsSize, IsSizeIn, factor_of, suffix_of, units}
use Rattle.resp_cli_args.specs.declared.sizes.Unit.{Unit}

-- a text is one number of parts of a unit
pub same_number : (letters text : Text) (scale a b : ℕ) → HasUnit letters scale text a → HasUnit letters scale text b → a ≡ b
same_number letters text scale a b v w =
    sym v.3 ∙ ap (λ z. digits_value 10 (without_leading_plus z) * scale) (append_cancel_right v.0 w.0 letters (sym v.1 ∙ w.1)) ∙ w.3

-- a size in a unit, by the letters and the bytes of the unit
pub by_letters : (unit : Unit) (letters text : Text) (scale size : ℕ) → letters ≡ suffix_of unit → scale ≡ factor_of unit →
    IsSizeIn unit text size → HasUnit letters scale text size
by_letters unit letters text scale size is is' has =
    subst (λ z. HasUnit z scale text size) (sym is) (subst (λ z. HasUnit (suffix_of unit) z text size) (sym is') has)

-- a size in one of the units
pub in_unit : (passed later : List Unit) (unit : Unit) (text : List ℕ) (least most size : ℕ) → units ≡ passed ++ unit ∷ later →
    IsSizeIn unit text size → (least ≤ size) × (size ≤ most) → IsSize text least most size
in_unit passed later unit text least most size whole is range = (
  unit,
  subst (λ z. Contains z unit) (sym whole)
      (Contains-append_right passed (unit ∷ later) unit (Contains-append_left (unit ∷ []) later unit (Contains-push [] unit))),
  is,
  range.0,
  range.1,
)

-- the text is in none of these units a size in this range
abbrev pub InNone : List Unit → List ℕ → ℕ → ℕ → Type 0
InNone passed text least most = (unit : Unit) (size : ℕ) → Contains passed unit → IsSizeIn unit text size → least ≤ size → size ≤ most → ⊥

pub none_more : (passed : List Unit) (u : Unit) (text : List ℕ) (least most : ℕ) → InNone passed text least most →
    ((size : ℕ) → IsSizeIn u text size → least ≤ size → size ≤ most → ⊥) → InNone (passed ++ u ∷ []) text least most
none_more passed u text least most none not unit size has is low high = go (Contains-push_cases passed u unit has)
  where
    go : Contains passed unit ⊎ (u ≡ unit) → ⊥
    go (inl old) = none unit size old is low high
    go (inr same) = not size (subst (λ z. IsSizeIn z text size) (sym same) is) low high

pub in_no_unit : (passed rest : List Unit) (text : List ℕ) (least most : ℕ) → units ≡ passed ++ rest → rest ≡ [] → InNone passed text least most →
    (size : ℕ) → IsSize text least most size → ⊥
in_no_unit passed rest text least most whole empty none size w =
    none w.0 size (subst (λ z. Contains z w.0) (whole ∙ subst (λ z. passed ++ z ≡ passed) (sym empty) (append-nil passed)) w.1) w.2 w.3 w.4

-- an option is no size if its text is none
pub no_size : (given : List Row) (name text : Text) (least most : ℕ) (r : Option ℕ) → first_of name given ≡ Some text →
    IfNone r ((size : ℕ) → IsSize text least most size → ⊥) → IfNone r ((size : ℕ) → HasSize given name least most size → ⊥)
no_size given name text least most (Some n) is none = tt
no_size given name text least most None is none = λ size has.
    let same : has.0 ≡ text = cc in
    none size (subst (λ z. IsSize z least most size) same has.2)

-- what each option says of the limits makes the limits
pub has_limits : (given : List Row) (depth length total items : ℕ) (off : Bool) (limits : Bounds) →
    HasNumber given (codes "depth") depth → HasSize given (codes "length") 64 1073741824 length →
    HasSize given (codes "total") 256 1099511627776 total → HasNumber given (codes "items") items → HasFlag given (codes "no-streamed") off →
    IsDepth depth → IsItems items →
    limits ≡ record { depth = depth; length = length; total = total; items = items; streamed = not off; doubles = false } →
    HasLimits given limits
has_limits given depth length total items off limits has_depth has_length has_total has_items has_flag in_depth in_items is =
    subst (HasLimits given) (sym is) (record {
      depth = has_depth;
      length = has_length;
      total = has_total;
      items = has_items;
      streamed = twice_not off has_flag;
      in_range = record {
        depth_in_range = in_depth;
        length_in_range = (has_length.2.3, has_length.2.4);
        total_in_range = (has_total.2.3, has_total.2.4);
        items_in_range = in_items;
      };
    })
  where
    twice_not : (off : Bool) → HasFlag given (codes "no-streamed") off → HasFlag given (codes "no-streamed") (not (not off))
    twice_not true has = has
    twice_not false has = has

-- the limits that are made one after the other
pub made_limits : (depth length total items : ℕ) (on : Bool) (first second third : Bounds) →
    first ≡ record { depth = depth; length = length; total = total; items = 1099511627776; streamed = true; doubles = false } →
    second ≡ record first { items = items } → third ≡ record second { streamed = on } →
    third ≡ record { depth = depth; length = length; total = total; items = items; streamed = on; doubles = false }
made_limits depth length total items on first second third is is' is'' =
    is'' ∙ ap (λ (z : Bounds). record z { streamed = on }) (is' ∙ ap (λ (z : Bounds). record z { items = items }) is)

-- what holds of a result if it is right holds of its value
pub of_value : {X E : Type 0} (P : X → Type 0) (r : Result X E) (x : X) → result_ok r ≡ Some x → IfOk r P → P x
of_value P (Ok y) x is p = subst P (some_same is) p
  where
    some_same : {X : Type 0} {a b : X} → Some a ≡ Some b → a ≡ b
    some_same e = cc
of_value P (Err e) x is p = absurd (none_some x is)
  where
    none_some : {X : Type 0} (x : X) → None ≡ Some x → ⊥
    none_some x e = cc

-- a result with a value is right
pub is_right : {X E : Type 0} (r : Result X E) (x : X) → result_ok r ≡ Some x → IsOk r
is_right (Ok y) x is = refl
is_right (Err e) x is = absurd (none_some x is)
  where
    none_some : {X : Type 0} (x : X) → None ≡ Some x → ⊥
    none_some x e = cc
