use Rattle.std.proofs.Common.{rules, ◌≡◌, ◌∷◌, ◌++◌, ◌+◌, ◌/◌, ◌%◌, [], ap, ◌∙◌, arith}
use Rattle.std.proofs.lemmas.Fmt.{decimal_digit, decimal_step}
use Rattle.std.specs.Prelude.{decimal}
use Rattle.resp_cli_stream.proofs.short_line.push_size.Goals as goal

pub returns-then-size-lt10 : goal.returns-then-size-lt10
returns-then-size-lt10 c = rw (decimal_digit c.args.size (omega (arith, c.if-size-lt10.true))) (search rules)

pub returns : goal.returns
returns c =
    let n = c.args.size in
    let digits : decimal n ≡ (48 + n / 10) ∷ (48 + n % 10) ∷ [] = decimal_step n (omega arith) (omega arith) ∙
    ap (λ front. front ++ ((48 + n % 10) ∷ [])) (decimal_digit (n / 10) (omega arith)) in
    rw digits (search rules)
