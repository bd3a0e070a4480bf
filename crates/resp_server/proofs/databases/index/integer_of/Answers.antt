use Rattle.std.proofs.Common.{◌≡◌, ℤ, pos, FitsSigned, ◌<◌, ◌^◌, true, false, Result, Ok, Err, sym, ap, subst, ◌∙◌, rules, to_z, of_z}
use Rattle.std.specs.Cmp.Lexicographic.{bytes_decides}
use Rattle.std.specs.Fmt.{signed_decimal}
use Rattle.std.specs.Int.{w64}
use Rattle.std.specs.Int.Signed.{mag}
use Rattle.std.specs.Str.{IsUtf8}
use Rattle.std.specs.Str.Parse.{ParsesSigned}
use Rattle.std.proofs.lemmas.Fmt.{IsAscii-signed, parse-signed_decimal}
use Rattle.std.proofs.lemmas.Int.{to_z-of_z}
use Rattle.std.proofs.lemmas.Str.{IsUtf8-from_ascii}
use Rattle.resp_server.proofs.databases.index.integer_of.Goals as goal

-- the integer of a result
abbrev pub found : {E : Type 0} → Result ℤ E → ℤ
found (Ok z) = z
found (Err e) = pos 0

small : (z : ℤ) → FitsSigned w64 z → mag z < 2 ^ 63
small z fits = search rules

pub returns-in_default-clause-none : goal.returns-in_default-clause-none
returns-in_default-clause-none c = λ z fits is.
    c.in_default.ensures.cases.0 (subst IsUtf8 (sym is) (IsUtf8-from_ascii (signed_decimal z) (IsAscii-signed z (small z fits))))

pub returns-in_default-parse-clause-none : goal.returns-in_default-parse-clause-none
returns-in_default-parse-clause-none c = λ z fits is.
    let reads : ParsesSigned w64 10 c.in-Ok.text.now c.parse.result = search rules in
    c.in_default-parse.not-Ok z (parse-signed_decimal w64 z c.in-Ok.text.now c.parse.result fits (small z fits)
    (c.in-Ok.ensures.cases.0 ∙ is) reads)

pub returns-else-eq-clause-none : goal.returns-else-eq-clause-none
returns-else-eq-clause-none c = λ z fits is.
    let text : c.in-Ok.text.now ≡ signed_decimal z = c.in-Ok.ensures.cases.0 ∙ is in
    let reads : ParsesSigned w64 10 c.in-Ok.text.now c.parse.result = search rules in
    let parsed = parse-signed_decimal w64 z c.in-Ok.text.now c.parse.result fits (small z fits) text reads in
    let same : z ≡ c.in-Ok-parse.integer = ap found (sym parsed ∙ c.in-Ok-parse.is) in
    let number : to_z w64 (of_z w64 c.in-Ok-parse.integer) ≡ z = ap (λ y. to_z w64 (of_z w64 y)) (sym same) ∙ to_z-of_z w64 z fits in
    let equal : c.format.result.now ≡ c.in-Ok.text.now = c.format.ensures.text ∙ ap signed_decimal number ∙ sym text in
    let wrong : true ≡ false = sym ((bytes_decides c.format.result.now c.in-Ok.text.now).1 equal) ∙ sym c.eq.ensures ∙ c.if-eq.false in
    search rules
