use Rattle.std.proofs.Common.{rules, subst, sym}
use Rattle.resp_line.specs.Lines.{ReadsByte}
use Rattle.resp_line.specs.declared.line.Quote.TheVariants.{Double}
use Rattle.resp_line.proofs.WordLines.{escape_read}
use Rattle.resp_line.proofs.line.double_byte.Goals as goal

pub returns-clause-read : goal.returns-clause-read
returns-clause-read c =
    subst (λ z. ReadsByte Double z c.args.text.now c.in_ok-escape.after.now) (sym c.escaped.ensures)
    (escape_read c.args.text.now c.in_ok-byte.beyond.now c.in_ok-escape.after.now c.in_ok-byte.byte.now c.in_ok-escape.escape.now (search rules)
    (search rules) (search rules) c.in_default.ensures.none)
