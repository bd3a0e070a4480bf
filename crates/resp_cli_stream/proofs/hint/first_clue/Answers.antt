use Rattle.std.proofs.Common.{◌∷◌, ◌++◌, ◌∙◌, [], append_assoc, ap, sym}
use Rattle.resp_cli_stream.specs.Hints.{Shows}
use Rattle.resp_cli_stream.proofs.HintLemmas.{none_more, shown_if}
use Rattle.resp_cli_stream.proofs.hint.first_clue.Goals as goal

pub loop-clue-preserved : goal.loop-clue-preserved
loop-clue-preserved c =
    let inv = c.loop-clue.invariant in
    let clue = c.in-Some.clue.now in
    let before = c.args.before.now in
    let from = c.args.from.now in
    record {
      passed = inv.passed ++ clue ∷ [];
      whole = inv.whole ∙ ap (λ z. inv.passed ++ z) c.in-Some.ensures.cases.0 ∙ sym (append_assoc inv.passed (clue ∷ []) c.in-Some.beyond.now);
      not_shown = none_more inv.passed clue before from inv.not_shown (shown_if c.shows.result (Shows clue before from) c.shows.ensures.1 c.if-shows.false);
    }
