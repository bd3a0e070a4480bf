use Rattle.std.proofs.Common.{List, ℕ, Option, ◌++◌, codes, length}
use Rattle.resp_print.specs.Shown.{count_text, quoted_text, shown_part}
use Rattle.resp_print.proofs.Kept.{when_err}
use Rattle.resp_print.proofs.WrittenLemmas.{writes_next, writes_part}
use Rattle.resp_print.proofs.value.write_verbatim.Goals as goal

-- the second quoted text, and the number of its bytes
abbrev rest_of : Option ℕ → List ℕ → List ℕ
rest_of most text = codes "\" \"" ++ (quoted_text (shown_part most text) ++ (codes "\" " ++ count_text most (length text) ++ codes "\n"))

pub returns-in_err-write_text : goal.returns-in_err-write_text
returns-in_err-write_text g c = λ whole rest for. (
  writes_part c.from_residual.result _ _ _ _ (codes "verbatim \"") (quoted_text c.args.format.now ++ rest_of c.args.most whole)
      c.from_residual.ensures.0 c.in_err-write_text.ensures,
  when_err c.from_residual.result _ c.from_residual.ensures.0,
)

pub returns-in_err-write_quoted : goal.returns-in_err-write_quoted
returns-in_err-write_quoted g c = λ whole rest for.
    let r = c.from_residual-in_err-write_quoted.result in (
      writes_next r _ _ _ _ _ _ (codes "verbatim \"") (quoted_text c.args.format.now ++ rest_of c.args.most whole) c.in_ok-write_text.ensures
          (writes_part r _ _ _ _ (quoted_text c.args.format.now) (rest_of c.args.most whole) c.from_residual-in_err-write_quoted.ensures.0
          c.in_err-write_quoted.ensures),
      when_err r _ c.from_residual-in_err-write_quoted.ensures.0,
    )

pub returns : goal.returns
returns g c = λ whole rest for.
    let r = c.write_kept_string.result in
    let kept = c.write_kept_string.ensures whole rest for in (
      writes_next r _ _ _ _ _ _ (codes "verbatim \"") (quoted_text c.args.format.now ++ rest_of c.args.most whole) c.in_ok-write_text.ensures
          (writes_next r _ _ _ _ _ _ (quoted_text c.args.format.now) (rest_of c.args.most whole) c.in_ok-write_quoted.ensures kept.0),
      kept.1,
    )
