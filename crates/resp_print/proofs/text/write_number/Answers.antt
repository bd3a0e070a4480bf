use Rattle.std.proofs.Common.{◌≡◌, ◌∙◌, ◌++◌, append_assoc}
use Rattle.resp_print.proofs.WrittenLemmas.{writes_next, writes_part}
use Rattle.resp_print.proofs.text.write_number.Goals as goal

pub returns-in_err-write_text : goal.returns-in_err-write_text
returns-in_err-write_text g c =
    rw append_assoc (writes_part c.from_residual.result _ _ _ _ c.args.before.now (g.N.Integer.text c.args.number ++ c.args.beyond.now)
    c.from_residual.ensures.0 c.in_err-write_text.ensures)

pub returns-in_err-write_text-2 : goal.returns-in_err-write_text-2
returns-in_err-write_text-2 g c =
    let number : c.as_bytes.result.now ≡ g.N.Integer.text c.args.number = c.as_bytes.ensures.value ∙ c.format.ensures.text in
    let r = c.from_residual-in_err-write_text-2.result in
    rw (append_assoc, ← number) (writes_next r _ _ _ _ _ _ c.args.before.now (c.as_bytes.result.now ++ c.args.beyond.now) c.in_ok-write_text.ensures
    (writes_part r _ _ _ _ c.as_bytes.result.now c.args.beyond.now c.from_residual-in_err-write_text-2.ensures.0 c.in_err-write_text-2.ensures))

pub returns : goal.returns
returns g c =
    let number : c.as_bytes.result.now ≡ g.N.Integer.text c.args.number = c.as_bytes.ensures.value ∙ c.format.ensures.text in
    let r = c.write_text-3.result in
    rw (append_assoc, ← number) (writes_next r _ _ _ _ _ _ c.args.before.now (c.as_bytes.result.now ++ c.args.beyond.now) c.in_ok-write_text.ensures
    (writes_next r _ _ _ _ _ _ c.as_bytes.result.now c.args.beyond.now c.in_ok-write_text-2.ensures c.write_text-3.ensures))
