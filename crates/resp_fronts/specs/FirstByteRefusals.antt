-- The first rule that rejects a byte at the beginning of a value: the grammar, `,`, the version, `>` inside another
-- value, and depth, except for `*`. The rules of items and total are checked after these.
use Rattle.std.specs.Prelude.{ℕ, zero, suc, Option, None, Some, List, [], ◌∷◌, cond, eqb, leb}
use Rattle.std.specs.Str.{byte}
use Rattle.resp_value.specs.Rules.{Rules, Rule, Grammar, NoDouble, InVersion, PushAtTop, WithinDepth}
use Rattle.resp_value.specs.declared.version.Version.{Version}
use Rattle.resp_value.specs.declared.version.Version.TheVariants.{Two, Three}

-- the result listed for a byte, and `other` for a byte that is not listed
abbrev pub answer_beside : {A : Type 0} → List (ℕ × A) → A → ℕ → A
answer_beside [] other b = other
answer_beside (row ∷ rows) other b = cond (eqb b row.0) row.1 (answer_beside rows other b)

-- the result for a form that only version 3 has
abbrev pub refusal_in_three : Version → Option Rule → Option Rule
refusal_in_three Two answer = Some InVersion
refusal_in_three Three answer = answer

-- an aggregate on this level
abbrev pub aggregate_refusal : Rules → ℕ → Option Rule
aggregate_refusal r level = cond (leb r.limits.depth level) (Some WithinDepth) None

-- a push on this level
abbrev pub push_refusal : Rules → ℕ → Option Rule
push_refusal r zero = aggregate_refusal r 0
push_refusal r (suc level) = Some PushAtTop

-- a double, which only version 3 has, and only if doubles are allowed
abbrev pub double_refusal : Rules → Option Rule
double_refusal r = cond r.limits.doubles (refusal_in_three r.version None) (Some NoDouble)

-- each type byte with its result
abbrev pub first_byte_answers : Rules → ℕ → List (ℕ × Option Rule)
first_byte_answers r level =
    (byte ",", double_refusal r)
    ∷ (byte "+", None) ∷ (byte "-", None) ∷ (byte ":", None) ∷ (byte "$", None) ∷ (byte "*", None)
    ∷ (byte "_", refusal_in_three r.version None)
    ∷ (byte "#", refusal_in_three r.version None)
    ∷ (byte "(", refusal_in_three r.version None)
    ∷ (byte "!", refusal_in_three r.version None)
    ∷ (byte "=", refusal_in_three r.version None)
    ∷ (byte "~", refusal_in_three r.version (aggregate_refusal r level))
    ∷ (byte "%", refusal_in_three r.version (aggregate_refusal r level))
    ∷ (byte "|", refusal_in_three r.version (aggregate_refusal r level))
    ∷ (byte ">", refusal_in_three r.version (push_refusal r level))
    ∷ []

-- the first rule before items that rejects this byte as the first byte of a value on this level
abbrev pub first_byte_refusal : Rules → ℕ → ℕ → Option Rule
first_byte_refusal r level b = answer_beside (first_byte_answers r level) (Some Grammar) b
