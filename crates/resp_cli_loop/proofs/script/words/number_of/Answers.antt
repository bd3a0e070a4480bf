use Rattle.std.proofs.Common.{◌≡◌, ◌<◌, ◌^◌, true, Ok, sym, ap, subst, ◌∙◌, arith, decimal}
use Rattle.std.specs.Str.{IsUtf8, bytes_eq}
use Rattle.std.proofs.lemmas.Bool.{not_from_true}
use Rattle.std.proofs.lemmas.Fmt.{IsAscii-decimal, parse-decimal}
use Rattle.std.proofs.lemmas.Str.{IsUtf8-from_ascii}
use Rattle.std.proofs.lemmas.Slice.Eq.{bytes_eq-Decides}
use Rattle.resp_cli_loop.proofs.ScriptWords.{true_is_not_false}
use Rattle.resp_cli_loop.proofs.script.words.number_of.Goals as goal
use Rattle.resp_cli_loop.proofs.script.words.number_of.Goals.{then-ne-via-then-ne, then-ne-via-else-ne+then-number-lt1, then-ne-via-else-ne+else-number-lt1+then-number-most}

pub returns-in_default-clause-none : goal.returns-in_default-clause-none
returns-in_default-clause-none c = λ number is low high.
    let small : number < 2 ^ 64 = omega (arith, c.ranges.most.fits, high) in
    c.in_default.ensures.cases.0 (subst IsUtf8 (sym is) (IsUtf8-from_ascii _ (IsAscii-decimal number small)))

pub returns-in_default-parse-clause-none : goal.returns-in_default-parse-clause-none
returns-in_default-parse-clause-none c = λ number is low high.
    let small : number < 2 ^ 64 = omega (arith, c.ranges.most.fits, high) in
    c.in_default-parse.not-Ok number (parse-decimal 64 number _ _ small small (c.in-Ok.ensures.cases.0 ∙ is) c.parse.ensures.value.0)

pub returns-then-ne-clause-none : goal.returns-then-ne-clause-none
returns-then-ne-clause-none c = λ number is low high.
    let small : number < 2 ^ 64 = omega (arith, c.ranges.most.fits, high) in
    let parsed : c.parse.result ≡ Ok number = parse-decimal 64 number _ _ small small (c.in-Ok.ensures.cases.0 ∙ is) c.parse.ensures.value.0 in
    let same : c.in-Ok-parse.number ≡ number = cc (parsed, c.in-Ok-parse.is) in
    let equal : bytes_eq c.as_bytes.result.now c.args.word.now ≡ true =
    (bytes_eq-Decides _ _).1 (c.as_bytes.ensures.value ∙ c.format.ensures.text ∙ ap decimal same ∙ sym is) in
    elim c.then-ne.branch [
      | then-ne-via-then-ne w ↦ true_is_not_false (sym w.if-ne.true ∙ c.ne.ensures ∙ not_from_true _ equal)
      | then-ne-via-else-ne+then-number-lt1 w ↦ omega (arith, same, low, w.if-number-lt1.true)
      | then-ne-via-else-ne+else-number-lt1+then-number-most w ↦ omega (arith, same, high, w.if-number-most.true)
    ]
