use Rattle.std.proofs.Common.{ℕ, ◌≡◌, List, Option, None, Some, refl, subst, sym}
use Rattle.std.specs.Prelude.{IsSomeAnd, MatchOption}
use Rattle.resp_cli_stream.specs.Hints.{EndsWithContent, IsFirstOf, IsHint, clues}
use Rattle.resp_cli_stream.specs.declared.hint.Clue.{Clue}
use Rattle.resp_cli_stream.specs.declared.hint.Hint.{Hint}
use Rattle.resp_cli_stream.specs.declared.hint.Hint.TheVariants as hint
use Rattle.resp_cli_stream.proofs.hint.hint_of.Goals as goal

is_hint : (before from : List ℕ) (found : Option Clue) (result : Option Hint) → ((size : ℕ) → EndsWithContent size before → ⊥) →
    IsFirstOf clues before from found → MatchOption found (result ≡ None) (λ c. IsSomeAnd result (λ h. h ≡ hint.Clue c)) → IsHint before from result
is_hint before from (Some c) (Some h) none first is = subst (λ z. IsHint before from (Some z)) (sym is) (none, first)
is_hint before from (Some c) None none first is = absurd is
is_hint before from None result none first is = subst (IsHint before from) (sym is) (none, first)

pub returns-in-None : goal.returns-in-None
returns-in-None c =
    is_hint c.args.before.now c.args.from.now c.first_clue.result c.map.result (c.in-None.ensures.none refl) c.first_clue.ensures c.map.ensures.cases
