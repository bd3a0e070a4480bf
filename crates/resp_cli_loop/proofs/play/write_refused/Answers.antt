use Rattle.std.proofs.Common.{◌++◌, codes, decimal, ◌∙◌}
use Rattle.resp_value.specs.Causes.{name_of}
use Rattle.resp_print.proofs.WrittenLemmas.{writes_next, writes_part}
use Rattle.resp_cli_loop.proofs.play.write_refused.Goals as goal

pub returns-in_err-write_number : goal.returns-in_err-write_number
returns-in_err-write_number g c =
    writes_part c.from_residual.result _ _ _ _ (codes "client " ++ decimal c.args.client ++ codes " refused ") (name_of c.args.cause ++ codes "\n")
    c.from_residual.ensures.0 c.in_err-write_number.ensures

pub returns-in_err-write_text : goal.returns-in_err-write_text
returns-in_err-write_text g c =
    let r = c.from_residual-in_err-write_text.result in
    let named = c.as_bytes.ensures.value ∙ c.name.ensures in
    writes_next r _ _ _ _ _ _ (codes "client " ++ decimal c.args.client ++ codes " refused ") (name_of c.args.cause ++ codes "\n")
    c.in_ok-write_number.ensures
    (writes_part r _ _ _ _ (name_of c.args.cause) (codes "\n") c.from_residual-in_err-write_text.ensures.0 (rw named at c.in_err-write_text.ensures))

pub returns : goal.returns
returns g c =
    let r = c.write_text-2.result in
    let named = c.as_bytes.ensures.value ∙ c.name.ensures in
    writes_next r _ _ _ _ _ _ (codes "client " ++ decimal c.args.client ++ codes " refused ") (name_of c.args.cause ++ codes "\n")
    c.in_ok-write_number.ensures
    (writes_next r _ _ _ _ _ _ (name_of c.args.cause) (codes "\n") (rw named at c.in_ok-write_text.ensures) c.write_text-2.ensures)
