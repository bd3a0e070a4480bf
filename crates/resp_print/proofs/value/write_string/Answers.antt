use Rattle.std.proofs.Common.{◌++◌, ap, codes, subst}
use Rattle.resp_print.specs.Shown.{count_text, quoted_text}
use Rattle.resp_print.specs.Written.{WritesText}
use Rattle.resp_print.proofs.WrittenLemmas.{writes_next, writes_part}
use Rattle.resp_print.proofs.value.write_string.Goals as goal

pub returns-in_err-write_text : goal.returns-in_err-write_text
returns-in_err-write_text g c = writes_part c.from_residual.result _ _ _ _ c.args.word.now _ c.from_residual.ensures.0 c.in_err-write_text.ensures

pub returns-in_err-write_quoted : goal.returns-in_err-write_quoted
returns-in_err-write_quoted g c =
    let size = codes "\" " ++ count_text c.args.most c.args.count ++ codes "\n" in
    let shown = c.shown_part.result.now in
    let r = c.from_residual-in_err-write_quoted.result in
    subst (WritesText _ _ _ _ r) (ap (λ part. c.args.word.now ++ (quoted_text part ++ size)) c.shown_part.ensures)
    (writes_next r _ _ _ _ _ _ c.args.word.now (quoted_text shown ++ size) c.in_ok-write_text.ensures
    (writes_part r _ _ _ _ (quoted_text shown) size c.from_residual-in_err-write_quoted.ensures.0 c.in_err-write_quoted.ensures))

pub returns : goal.returns
returns g c =
    let size = codes "\" " ++ count_text c.args.most c.args.count ++ codes "\n" in
    let shown = c.shown_part.result.now in
    let r = c.write_count.result in
    subst (WritesText _ _ _ _ r) (ap (λ part. c.args.word.now ++ (quoted_text part ++ size)) c.shown_part.ensures)
    (writes_next r _ _ _ _ _ _ c.args.word.now (quoted_text shown ++ size) c.in_ok-write_text.ensures
    (writes_next r _ _ _ _ _ _ (quoted_text shown) size c.in_ok-write_quoted.ensures c.write_count.ensures))
