use Rattle.std.proofs.Common.{List, ℕ, map, length, Bor, sym, ap, subst, ◌∙◌, arith}
use Rattle.std.specs.Prelude.{All}
use Rattle.std.proofs.lemmas.List.{length-map}
use Rattle.resp_cli_loop.specs.Reasons.{IsUnfit, parts_of_line}
use Rattle.resp_cli_loop.specs.ScriptSteps.{IsWord}
use Rattle.resp_cli_loop.proofs.ScriptWords.{are_parts, parts_of, unfit_reason}
use Rattle.resp_cli_loop.proofs.script.words.words_of.Goals as goal

pub returns-then-len-gt-MOST_WORDS-clause-bad : goal.returns-then-len-gt-MOST_WORDS-clause-bad
returns-then-len-gt-MOST_WORDS-clause-bad c = λ words are.
    let these = parts_of c.args.line.now words are ∙ sym c.in-Ok.ensures in
    omega (
      arith,
      are.few,
      ap length these,
      length-map c.in-Ok.words.items (λ (word : Bor (List ℕ)). word.now),
      c.len.ensures,
      c.if-len-gt-MOST_WORDS.true,
    )

pub returns-then-len-gt-MOST_WORDS-clause-reason : goal.returns-then-len-gt-MOST_WORDS-clause-reason
returns-then-len-gt-MOST_WORDS-clause-reason c = λ named.
    omega (
      arith,
      ap length c.in-Ok.ensures,
      length-map c.in-Ok.words.items (λ (word : Bor (List ℕ)). word.now),
      c.len.ensures,
      c.if-len-gt-MOST_WORDS.true,
    )

pub returns-in-None-clause-words : goal.returns-in-None-clause-words
returns-in-None-clause-words c =
    let words = subst (λ z. All IsWord (map (λ (word : Bor (List ℕ)). word.now) z)) c.as_slice.ensures.value c.in-None.ensures.words in
    are_parts c.args.line.now _ c.in-Ok.ensures words
    (omega (arith, length-map c.in-Ok.words.items (λ (word : Bor (List ℕ)). word.now), c.len.ensures, c.if-len-gt-MOST_WORDS.false))

pub returns-clause-bad : goal.returns-clause-bad
returns-clause-bad c = λ words are.
    c.in-Some.ensures.no_words
    (subst (All IsWord) (parts_of c.args.line.now words are ∙ sym c.in-Ok.ensures ∙ ap (map (λ (word : Bor (List ℕ)). word.now)) (sym c.as_slice.ensures.value))
    are.are_words)

pub returns-clause-reason : goal.returns-clause-reason
returns-clause-reason c = λ named.
    let same = ap (map (λ (word : Bor (List ℕ)). word.now)) c.as_slice.ensures.value ∙ c.in-Ok.ensures in
    unfit_reason named (parts_of_line c.args.line.now) c.in-Some.reason
    (omega (
      arith,
      ap length c.in-Ok.ensures,
      length-map c.in-Ok.words.items (λ (word : Bor (List ℕ)). word.now),
      c.len.ensures,
      c.if-len-gt-MOST_WORDS.false,
    )) (subst (λ z. IsUnfit z c.in-Some.reason) same c.in-Some.ensures.reason)
