use Rattle.std.proofs.Common.{◌≤◌, get_or, ℕ, List, [], length, map, Bor, sym, subst, ◌∙◌, arith}
use Rattle.std.specs.Prelude.{All}
use Rattle.std.proofs.lemmas.Bool.{eqb-false, eqb-true}
use Rattle.std.proofs.lemmas.List.{length-map, take_all}
use Rattle.std.proofs.lemmas.List.Elements.{All-push}
use Rattle.resp_cli_loop.specs.Reasons.{HaveFirstUnfit}
use Rattle.resp_cli_loop.specs.ScriptSteps.{IsWord}
use Rattle.resp_cli_loop.proofs.ScriptWords.{each_word, first_unfit, nothing, taken_more}
use Rattle.resp_cli_loop.proofs.script.words.first_fault.Goals as goal

pub returns-then-is_empty-clause-no_words : goal.returns-then-is_empty-clause-no_words
returns-then-is_empty-clause-no_words c = λ all.
    let word = each_word IsWord c.args.words.now c.loop-word.word-index c.loop-word-test.true all (record { ref_ptr = (0, 0); now = [] }) in
    omega (arith, word.0, eqb-true _ 0 (sym c.is_empty.ensures ∙ c.if-is_empty.true))

pub returns-then-is_empty-clause-reason : goal.returns-then-is_empty-clause-reason
returns-then-is_empty-clause-reason c =
    let none : Bor (List ℕ) = record { ref_ptr = (0, 0); now = [] } in
    let word = get_or c.args.words.now c.loop-word.word-index none in
    subst (HaveFirstUnfit (map (λ (z : Bor (List ℕ)). z.now) c.args.words.now))
    (nothing word.now (eqb-true _ 0 (sym c.is_empty.ensures ∙ c.if-is_empty.true)))
    (first_unfit c.args.words.now c.loop-word.word-index none c.loop-word-test.true c.loop-word.invariant)

pub returns-then-not-are_seen-clause-no_words : goal.returns-then-not-are_seen-clause-no_words
returns-then-not-are_seen-clause-no_words c = λ all.
    c.if-not-are_seen.ensures (each_word IsWord c.args.words.now c.loop-word.word-index c.loop-word-test.true all (record { ref_ptr = (0, 0); now = [] })).1

pub returns-then-not-are_seen-clause-reason : goal.returns-then-not-are_seen-clause-reason
returns-then-not-are_seen-clause-reason c =
    let none : Bor (List ℕ) = record { ref_ptr = (0, 0); now = [] } in
    let word = get_or c.args.words.now c.loop-word.word-index none in
    let some = eqb-false _ 0 (sym c.is_empty.ensures ∙ c.if-is_empty.false) in (
      word.now,
      first_unfit c.args.words.now c.loop-word.word-index none c.loop-word-test.true c.loop-word.invariant,
      omega (arith, some),
      c.if-not-are_seen.ensures,
    )

pub loop-word-preserved : goal.loop-word-preserved
loop-word-preserved c =
    let words = c.args.words.now in
    let i = c.loop-word.word-index in
    let none : Bor (List ℕ) = record { ref_ptr = (0, 0); now = [] } in
    let some = eqb-false _ 0 (sym c.is_empty.ensures ∙ c.if-is_empty.false) in
    subst (All IsWord) (sym (taken_more words i none c.loop-word-test.true))
    (All-push IsWord _ _ c.loop-word.invariant (omega (arith, some), c.if-not-are_seen.ensures))

pub returns-clause-words : goal.returns-clause-words
returns-clause-words c =
    let texts = map (λ (word : Bor (List ℕ)). word.now) c.args.words.now in
    let over : length texts ≤ c.loop-word.word-index =
    omega (arith, c.loop-word-test.false, length-map c.args.words.now (λ (word : Bor (List ℕ)). word.now)) in
    subst (All IsWord) (take_all c.loop-word.word-index texts over) c.loop-word.invariant
