use Rattle.std.proofs.Common.{ap, subst}
use Rattle.resp_print.specs.Written.{WritesText}
use Rattle.resp_print.proofs.WrittenLemmas.{writes_next, writes_part}
use Rattle.resp_tap.specs.Texts.{words_line}
use Rattle.resp_tap.proofs.print.write_words_line.Goals as goal

pub returns-in_err-write_text : goal.returns-in_err-write_text
returns-in_err-write_text g c = λ whole are.
    writes_part _ _ _ _ _ _ _ c.from_residual.ensures.0 c.in_err-write_text.ensures

pub returns-in_err-write_words : goal.returns-in_err-write_words
returns-in_err-write_words g c = λ whole are.
    let r = c.from_residual-in_err-write_words.result in
    subst (WritesText _ _ _ _ r) (ap (words_line c.args.options.shown.most) (c.secrets_for.ensures whole c.args.lengths.now are))
    (writes_next _ _ _ _ _ _ _ _ _ c.in_ok-write_text.ensures
    (writes_part _ _ _ _ _ _ _ c.from_residual-in_err-write_words.ensures.0 (c.in_err-write_words.ensures whole are)))

pub returns : goal.returns
returns g c = λ whole are.
    let r = c.write_text-2.result in
    subst (WritesText _ _ _ _ r) (ap (words_line c.args.options.shown.most) (c.secrets_for.ensures whole c.args.lengths.now are))
    (writes_next _ _ _ _ _ _ _ _ _ c.in_ok-write_text.ensures
    (writes_next _ _ _ _ _ _ _ _ _ (c.in_ok-write_words.ensures whole are) c.write_text-2.ensures))
