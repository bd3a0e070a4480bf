use Rattle.std.proofs.Common.{◌≡◌, ◌≤◌, ◌+◌, ◌-◌, ◌==◌, ℕ, Option, None, Some, eqb, arith, ◌∙◌}
use Rattle.std.specs.Prelude.{SomeIff}
use Rattle.std.specs.Option.{option_eq}
use Rattle.std.proofs.lemmas.Grind.{common_steps}
use Rattle.resp_cli_stream.proofs.lines.OpenLine.is_full.Goals as goal

-- a number less its half is its half
is_double : (less : Option ℕ) (half number : ℕ) → SomeIff less (half ≤ number) (number - half) →
    option_eq eqb less (Some half) ≡ (number == half + half)
is_double None half number is = grind (arith, common_steps, is)
is_double (Some x) half number is = grind (arith, common_steps, is.0, is.1)

pub returns-in-Attr-Some : goal.returns-in-Attr-Some
returns-in-Attr-Some c =
    rw (c.in-Attr-Some.is-0, c.in-Attr-Some.is-1) (c.eq.ensures ∙ is_double c.checked_sub.result c.in-Attr-Some.pairs c.args.self.now.members c.checked_sub.ensures)
