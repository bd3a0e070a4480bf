use Rattle.std.proofs.Common.{◌++◌, None, ap, append_assoc, codes, decimal, sym, ◌∙◌}
use Rattle.resp_print.specs.Shown.{lines_on, lines_within}
use Rattle.resp_tap.specs.Texts.{client_line, numbered_line}
use Rattle.resp_tap.proofs.laws.without_times_lines_are_those_of_loop.Goals as goal

pub returns : goal.returns
returns c = λ p number x whole. (
  ap (λ most. numbered_line p.client (codes " reply ") number (codes "") None ++ lines_within most 1 x) whole ∙
      ap (λ z. (codes "client " ++ z) ++ lines_on 1 x) (sym (append_assoc (decimal p.client) (codes " reply ") (decimal number ++ codes "\n"))),
  ap (λ most. client_line p.client (codes " push") None ++ lines_within most 1 x) whole,
)
