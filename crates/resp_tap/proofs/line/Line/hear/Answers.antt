use Rattle.std.proofs.Common.{rules, ◌≡◌, false, subst}
use Rattle.resp_value.specs.Values.{datum_of}
use Rattle.resp_tap.specs.Lines.{confirms, is_free, number_of_reply}
use Rattle.resp_tap.specs.LinesOf.{line_of}
use Rattle.resp_tap.specs.Notices.{notice_of}
use Rattle.resp_tap.proofs.LineLemmas.{number_taken}
use Rattle.resp_tap.proofs.line.Line.hear.Goals as goal
use Rattle.resp_tap.proofs.line.Line.hear.Goals.{then-is_push, else-is_push+then-is_listening, else-is_push+else-is_listening}

pub returns-clause-number : goal.returns-clause-number
returns-clause-number g c =
    let l = line_of c.args.self.now in
    let x = datum_of c.args.value.now in
    let first = c.in-Some.first in
    let other : confirms first.kind (notice_of x) ≡ false = search rules in
    let free : is_free l x ≡ false = elim c.if-is_push.branch [
      | then-is_push w ↦ search rules
      | else-is_push+then-is_listening w ↦ search rules
      | else-is_push+else-is_listening w ↦ search rules
    ] in
    number_taken l x first c.take.result (search rules) (search rules) other free (λ due is.
    subst (λ what. c.take.result ≡ number_of_reply first first.kind due what) c.notice_of-notice.ensures (c.take.ensures.number due is))
