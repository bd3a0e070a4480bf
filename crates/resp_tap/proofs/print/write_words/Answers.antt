use Rattle.std.proofs.Common.{rules, arith, ◌<◌, ◌+◌, ◌++◌, ℕ, List, [], drop, get_or, length, refl, take}
use Rattle.resp_print.proofs.Printing.{HasPrintedUpTo, printed_as, printed_more, write_failed}
use Rattle.resp_tap.specs.Parts.{AreKeptOf, word_lengths}
use Rattle.resp_tap.specs.Secrets.{redacted_after, shown_word}
use Rattle.resp_tap.specs.Texts.{IsPrintedAs, word_text, words_text}
use Rattle.resp_tap.proofs.SecretWords.{left_at_next, next_shown}
use Rattle.resp_tap.proofs.KeptPrinting.{before_kept, here, is_printed, next_lengths, same_after}
use Rattle.resp_tap.proofs.print.write_words.Goals as goal
use Rattle.resp_tap.proofs.print.write_words.Goals.{After-hides-is_secret}

-- the next word and those after it are left to print, and the word is printed by its kept part
next_word : (g : _) (c : After-hides-is_secret g) (whole : List (List ℕ)) →
    AreKeptOf c.args.options.shown.most c.args.options.kept.most whole c.args.words.now c.args.lengths.now →
    HasPrintedUpTo (words_text c.args.options.shown.most (redacted_after c.args.secrets [] whole))
    (word_text c.args.options.shown.most (shown_word c.hides-is_secret.result (get_or whole c.loop-index.index [])) ++
    words_text c.args.options.shown.most (redacted_after c.args.secrets (take (c.loop-index.index + 1) whole) (drop (c.loop-index.index + 1) whole)))
    (g.W.Sink.written c.args.writer.now) (g.W.Sink.written c.loop-index.writer) (g.W.Sink.failures c.args.writer.now)
    (g.W.Sink.failures c.loop-index.writer) ×
    IsPrintedAs c.args.options.shown.most (get_or whole c.loop-index.index []) c.word-word.result.now c.length_of-count.result.0
next_word g c whole are =
    let p = c.args.options in
    let words = c.args.words.now in
    let secrets = c.args.secrets in
    let index = c.loop-index.index in
    let below : index < length words = search rules in
    let at = here p.shown.most p.kept.most whole words c.args.lengths.now index c.word-word.result.now are below c.word-word.ensures in
    let word = get_or whole index [] in
    let counted = c.length_of-count.ensures word (word_lengths p.kept.most (drop (index + 1) whole)) at.part
    (next_lengths p.kept.most whole index c.loop-index.longer.now at.below (c.loop-index.invariant.longer whole are)) in
    let is_secret = c.hides-is_secret.ensures (take index whole) (before_kept whole index at.below) (c.loop-index.invariant.left whole are) in
    let next = next_shown p.shown.most secrets whole index word (shown_word c.hides-is_secret.result word) c.hides-is_secret.result at.below refl is_secret refl in (
      printed_as _ _ _ _ _ _ _ next (c.loop-index.invariant.printed whole are),
      is_printed p.shown.most p.kept.most whole words c.args.lengths.now word c.word-word.result.now c.length_of-count.result.0 are at.part counted.0,
    )

pub returns-in_err-write_shown : goal.returns-in_err-write_shown
returns-in_err-write_shown g c = λ whole are.
    let next = next_word g (goal.at.returns-in_err-write_shown g c).After-hides-is_secret whole are in
    write_failed c.from_residual.result _ _ _ _ _ _ _ _ _ next.0 c.from_residual.ensures.0 (c.in_err-write_shown.ensures _ next.1)

pub loop-index-preserved : goal.loop-index-preserved
loop-index-preserved g c =
    let p = c.args.options in
    let words = c.args.words.now in
    let secrets = c.args.secrets in
    let index = c.loop-index.index in
    let below : index < length words = search rules in
    record {
      within = omega (arith, below);
      left = λ whole are.
          let at = here p.shown.most p.kept.most whole words c.args.lengths.now index c.word-word.result.now are below c.word-word.ensures in
          left_at_next secrets whole index c.loop-index.left c.left_after-left.result at.below
          (same_after p.shown.most p.kept.most whole words c.args.lengths.now secrets (get_or whole index []) c.word-word.result.now c.loop-index.left c.left_after-left.result are at.part c.left_after-left.ensures)
          (c.loop-index.invariant.left whole are);
      longer = λ whole are.
          let at = here p.shown.most p.kept.most whole words c.args.lengths.now index c.word-word.result.now are below c.word-word.ensures in
          (c.length_of-count.ensures (get_or whole index []) (word_lengths p.kept.most (drop (index + 1) whole)) at.part
          (next_lengths p.kept.most whole index c.loop-index.longer.now at.below (c.loop-index.invariant.longer whole are))).1;
      printed = λ whole are.
          let next = next_word g (goal.at.loop-index-preserved g c).After-hides-is_secret whole are in
          printed_more _ _ _ _ _ _ _ _ _ next.0 (c.in_ok-write_shown.ensures _ next.1);
    }
