use Rattle.std.proofs.Common.{codes, ◌∙◌}
use Rattle.resp_cli_loop.specs.Reasons.{reason_text}
use Rattle.resp_print.proofs.WrittenLemmas.{writes_next, writes_part}
use Rattle.resp_cli_loop.proofs.script.ScriptError.explain.Goals as goal

pub returns-in_err-write_text-in-BadScript : goal.returns-in_err-write_text-in-BadScript
returns-in_err-write_text-in-BadScript g c =
    rw c.in-BadScript.is (writes_part c.from_residual.result _ _ _ _ _ _ c.from_residual.ensures.0 c.in_err-write_text-in-BadScript.ensures)

pub returns-in_err-write_text-in-BadScript-2 : goal.returns-in_err-write_text-in-BadScript-2
returns-in_err-write_text-in-BadScript-2 g c =
    let r = c.from_residual-in_err-write_text-in-BadScript-2.result in
    let said = c.as_bytes.ensures.value ∙ c.sentence.ensures in
    rw c.in-BadScript.is
    (writes_next r _ _ _ _ _ _ _ _ c.in_ok-write_text-in-BadScript.ensures
    (writes_part r _ _ _ _ (reason_text c.in-BadScript.reason) _ c.from_residual-in_err-write_text-in-BadScript-2.ensures.0
    (rw said at c.in_err-write_text-in-BadScript-2.ensures)))

pub returns-in_ok-write_text-in-BadScript-2 : goal.returns-in_ok-write_text-in-BadScript-2
returns-in_ok-write_text-in-BadScript-2 g c =
    let r = c.write_text-in-BadScript-2.result in
    let said = c.as_bytes.ensures.value ∙ c.sentence.ensures in
    rw c.in-BadScript.is
    (writes_next r _ _ _ _ _ _ _ _ c.in_ok-write_text-in-BadScript.ensures
    (writes_next r _ _ _ _ _ _ (reason_text c.in-BadScript.reason) (codes "\n") (rw said at c.in_ok-write_text-in-BadScript-2.ensures)
    c.write_text-in-BadScript-2.ensures))
