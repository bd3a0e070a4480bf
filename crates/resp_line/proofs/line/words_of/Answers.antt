use Rattle.std.proofs.Common.{rules, ◌≡◌, ◌++◌, ℕ, List, arith, subst, sym}
use Rattle.resp_value.specs.Words.{texts_of}
use Rattle.resp_line.specs.Lines.{AreWords, IfEnded, IsWord, UnlessEnded}
use Rattle.resp_line.proofs.WordLines.{no_words, shorter_word, blanks_shorter, word_more, words_end, words_through}
use Rattle.resp_line.proofs.line.words_of.Goals as goal

pub loop-rest-init : goal.loop-rest-init
loop-rest-init c = record {
  read = (
    c.args.line.now,
    c.without_blanks-rest.ensures.blanks,
    λ more given. subst (λ z. AreWords (texts_of z ++ more) c.args.line.now) (sym c.new-words.ensures.items) given,
    λ words given. (words, given),
  );
  starts = c.without_blanks-rest.ensures.starts;
}

pub loop-rest-smaller : goal.loop-rest-smaller
loop-rest-smaller c =
    let starts = c.loop-rest.invariant.starts (search rules) in
    let word = shorter_word _ c.loop-rest.rest.now c.in-Ok-Ended.after.now
    (subst (IfEnded (IsWord c.read_word.new.word.items c.loop-rest.rest.now)) c.in-Ok-Ended.field-0-is c.in-Ok-Ended.ensures.ended) starts in
    let spaces = blanks_shorter c.in-Ok-Ended.after.now c.without_blanks-rest-in-loop-rest.result.now c.without_blanks-rest-in-loop-rest.ensures.blanks in
    omega (arith, word, spaces)

pub loop-rest-preserved : goal.loop-rest-preserved
loop-rest-preserved c =
    let (after, spaces, so_far, through) = c.loop-rest.invariant.read in
    let word = c.read_word.new.word in
    let pushed = word_more c.args.line.now after c.loop-rest.rest.now c.in-Ok-Ended.after.now word.items (texts_of c.loop-rest.words.items) spaces so_far
    (subst (IfEnded (IsWord word.items c.loop-rest.rest.now)) c.in-Ok-Ended.field-0-is c.in-Ok-Ended.ensures.ended) in
    record {
      read = (
        c.in-Ok-Ended.after.now,
        c.without_blanks-rest-in-loop-rest.ensures.blanks,
        λ more given. subst (λ z. AreWords (z ++ more) c.args.line.now) (sym c.in_default.ensures.pushed) (pushed more given),
        words_through c.args.line.now after c.loop-rest.rest.now c.in-Ok-Ended.after.now spaces (c.loop-rest.invariant.starts (search rules)) through
            (subst (IfEnded (λ rest. (other end : List ℕ) → IsWord other c.loop-rest.rest.now end → end ≡ rest)) c.in-Ok-Ended.field-0-is
            c.in-Ok-Ended.ensures.only),
      );
      starts = c.without_blanks-rest-in-loop-rest.ensures.starts;
    }

pub returns-clause-words : goal.returns-clause-words
returns-clause-words c =
    let (after, spaces, so_far, through) = c.loop-rest.invariant.read in
    words_end c.args.line.now after c.loop-rest.rest.now (texts_of c.loop-rest.words.items) spaces (search rules) so_far

pub returns-in-Ok-Open-clause-no_words : goal.returns-in-Ok-Open-clause-no_words
returns-in-Ok-Open-clause-no_words c = λ _.
    let (after, spaces, so_far, through) = c.loop-rest.invariant.read in
    no_words c.args.line.now after c.loop-rest.rest.now spaces (c.loop-rest.invariant.starts (search rules)) through
    (subst (UnlessEnded ((other end : List ℕ) → IsWord other c.loop-rest.rest.now end → ⊥)) c.in-Ok-Open.field-0-is c.in-Ok-Open.ensures.none)

pub returns-in-Ok-NoSpace-clause-no_words : goal.returns-in-Ok-NoSpace-clause-no_words
returns-in-Ok-NoSpace-clause-no_words c = λ _.
    let (after, spaces, so_far, through) = c.loop-rest.invariant.read in
    no_words c.args.line.now after c.loop-rest.rest.now spaces (c.loop-rest.invariant.starts (search rules)) through
    (subst (UnlessEnded ((other end : List ℕ) → IsWord other c.loop-rest.rest.now end → ⊥)) c.in-Ok-NoSpace.field-0-is c.in-Ok-NoSpace.ensures.none)
