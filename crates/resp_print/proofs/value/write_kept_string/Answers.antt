use Rattle.std.proofs.Common.{◌≡◌, ◌++◌, codes, ap, subst, ◌∙◌}
use Rattle.resp_print.specs.Shown.{count_text, quoted_text, shown_part}
use Rattle.resp_print.specs.Written.{WritesText}
use Rattle.resp_print.proofs.Kept.{same_front, when_ok}
use Rattle.resp_print.proofs.value.write_kept_string.Goals as goal

pub returns : goal.returns
returns g c = λ whole rest for.
    let counted = c.full_length-count.ensures whole rest for in
    let most = c.args.most in
    let count = c.full_length-count.result in (
      subst (WritesText _ _ _ _ c.write_string.result)
          (ap (λ part. c.args.word.now ++ (quoted_text part ++ (codes "\" " ++ count_text most count ++ codes "\n"))) (same_front most _ _ whole rest for)
          ∙ ap (λ n. c.args.word.now ++ (quoted_text (shown_part most whole) ++ (codes "\" " ++ count_text most n ++ codes "\n"))) counted.0)
          c.write_string.ensures,
      when_ok c.write_string.result (c.full_length-count.new.lengths.now ≡ rest) counted.1,
    )
