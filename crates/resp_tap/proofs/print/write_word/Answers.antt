use Rattle.std.proofs.Common.{◌∙◌, ◌++◌, ap, codes, length, subst}
use Rattle.resp_print.specs.Shown.{quoted_text}
use Rattle.resp_print.specs.Written.{WritesText}
use Rattle.resp_tap.specs.Texts.{word_end}
use Rattle.resp_tap.proofs.print.write_word.Goals as goal

pub returns : goal.returns
returns g c = λ whole is.
    let most = c.args.most in
    subst (WritesText _ _ _ _ c.write_segments.result)
    (ap (λ end. codes " \"" ++ (quoted_text c.shown_part.result.now ++ end)) (c.word_end.ensures ∙ ap (word_end most) is.1) ∙
    ap (λ part. codes " \"" ++ (quoted_text part ++ word_end most (length whole))) (c.shown_part.ensures ∙ is.0))
    c.write_segments.ensures
