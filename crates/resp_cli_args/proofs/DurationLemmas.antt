-- Times in one unit and in all.
use Rattle.std.proofs.Common.{true≢false, ◌∙◌, ap, sym, Bool, false, ◌≡◌, ◌≤◌, subst, ℕ, List, Option, Some, None, IfNone, inl, inr, codes}
use Rattle.std.specs.Str.{bytes_eq}
use Rattle.clap.specs.Words.{Row, Text, first_of}
use Rattle.resp_cli_args.specs.CommandWords.{HasPause, HasTime}
use Rattle.resp_cli_args.specs.Durations.{IsDuration, IsPause, IsTime}
use Rattle.resp_cli_args.specs.Units.{HasUnit}

-- a text that is not equal to `0` by a comparison of its bytes is another one
pub differs : (text : Text) (same : Bool) → same ≡ bytes_eq text (codes "0") → same ≡ false → text ≡ codes "0" → ⊥
differs text same says off is =
    true≢false (sym (ap (λ z. bytes_eq z (codes "0")) is) ∙ sym says ∙ off)

-- the text is no number with this unit
abbrev pub HasNot : Text → ℕ → Text → Type 0
HasNot unit scale text = (micros : ℕ) → HasUnit unit scale text micros → ⊥

-- the text is no number with this unit in this range
abbrev pub HasNotIn : Text → ℕ → Text → ℕ → ℕ → Type 0
HasNotIn unit scale text least most = (micros : ℕ) → HasUnit unit scale text micros → least ≤ micros → micros ≤ most → ⊥

-- a text that is not `0` and is a number with none of the units is no duration
pub no_duration : (text : Text) (r : Option ℕ) → (text ≡ codes "0" → ⊥) → HasNot (codes "us") 1 text → HasNot (codes "ms") 1000 text →
    HasNot (codes "s") 1000000 text → HasNot (codes "m") 60000000 text → IfNone r (HasNot (codes "h") 3600000000 text) →
    IfNone r ((micros : ℕ) → IsDuration text micros → ⊥)
no_duration text (Some found) zero' us ms s m h = tt
no_duration text None zero' us ms s m h = none
  where
    none : (micros : ℕ) → IsDuration text micros → ⊥
    none micros (inl nothing) = zero' nothing.0
    none micros (inr (inl has)) = us micros has
    none micros (inr (inr (inl has))) = ms micros has
    none micros (inr (inr (inr (inl has)))) = s micros has
    none micros (inr (inr (inr (inr (inl has))))) = m micros has
    none micros (inr (inr (inr (inr (inr has))))) = h micros has

-- a text that is in none of the units in this range is no such time
pub no_time : (text : Text) (least most : ℕ) (r : Option ℕ) → HasNotIn (codes "us") 1 text least most → HasNotIn (codes "ms") 1000 text least most →
    HasNotIn (codes "s") 1000000 text least most → HasNotIn (codes "m") 60000000 text least most →
    IfNone r (HasNotIn (codes "h") 3600000000 text least most) → IfNone r ((micros : ℕ) → IsTime text least most micros → ⊥)
no_time text least most (Some found) us ms s m h = tt
no_time text least most None us ms s m h = none
  where
    none : (micros : ℕ) → IsTime text least most micros → ⊥
    none micros (inl has, low, high) = us micros has low high
    none micros (inr (inl has), low, high) = ms micros has low high
    none micros (inr (inr (inl has)), low, high) = s micros has low high
    none micros (inr (inr (inr (inl has))), low, high) = m micros has low high
    none micros (inr (inr (inr (inr has))), low, high) = h micros has low high

-- a text that is neither `0` nor such a time
pub no_pause : (text : Text) (least most : ℕ) (r : Option ℕ) → (text ≡ codes "0" → ⊥) → IfNone r ((micros : ℕ) → IsTime text least most micros → ⊥) →
    IfNone r ((micros : ℕ) → IsPause text least most micros → ⊥)
no_pause text least most (Some found) zero' time = tt
no_pause text least most None zero' time = none
  where
    none : (micros : ℕ) → IsPause text least most micros → ⊥
    none micros (inl nothing) = zero' nothing.0
    none micros (inr is) = time micros is

-- an option is no time if its text is none
pub has_no_time : (given : List Row) (name text : Text) (least most : ℕ) (r : Option ℕ) → first_of name given ≡ Some text →
    IfNone r ((micros : ℕ) → IsTime text least most micros → ⊥) → IfNone r ((micros : ℕ) → HasTime given name least most micros → ⊥)
has_no_time given name text least most (Some found) is none = tt
has_no_time given name text least most None is none = λ micros has.
    let same : has.0 ≡ text = cc in
    none micros (subst (λ z. IsTime z least most micros) same has.2)

pub has_no_pause : (given : List Row) (name text : Text) (least most : ℕ) (r : Option ℕ) → first_of name given ≡ Some text →
    IfNone r ((micros : ℕ) → IsPause text least most micros → ⊥) → IfNone r ((micros : ℕ) → HasPause given name least most micros → ⊥)
has_no_pause given name text least most (Some found) is none = tt
has_no_pause given name text least most None is none = λ micros has.
    let same : has.0 ≡ text = cc in
    none micros (subst (λ z. IsPause z least most micros) same has.2)
