use Rattle.std.proofs.Common.{false, subst, sym}
use Rattle.resp_tap.specs.SeenOf.{IsKeptIn}
use Rattle.resp_tap.specs.Texts.{seen_text}
use Rattle.resp_tap.specs.declared.print.TextOptions.{TextOptions}
use Rattle.resp_tap.proofs.KeptItems.{prints_same}
use Rattle.resp_tap.proofs.tap.TapWatching.watch_some.Goals as goal

pub returns-clause-watches : goal.returns-clause-watches
returns-clause-watches g c =
    let what = c.step-step.result.seen in (
      what,
      (
        c.step-step.ensures.sees,
        record {
          asked = c.asked-asked.result;
          of_command = c.asked-asked.ensures;
          text = λ whole kept. prints_same _ _ _ _ _ _ _ _
              (λ i. seen_text (c.options-options.ensures i) false (c.stamp_of-stamp.ensures i) whole what)
              (c.write_seen-printed.ensures whole
              (subst (λ (o : TextOptions). IsKeptIn o.shown.most o.kept.most whole what)
              (sym c.options-options.ensures) kept));
        },
      ),
    )
