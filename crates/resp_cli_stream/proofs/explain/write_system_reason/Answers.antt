use Rattle.std.proofs.Common.{◌++◌, codes}
use Rattle.resp_print.proofs.WrittenLemmas.{writes_next, writes_part}
use Rattle.resp_cli_stream.proofs.explain.write_system_reason.Goals as goal

pub returns-in_err-write_text : goal.returns-in_err-write_text
returns-in_err-write_text g c =
    writes_part c.from_residual.result _ _ _ _ (codes "  ") (c.args.why.now ++ codes "\n") c.from_residual.ensures.0 c.in_err-write_text.ensures

pub returns-in_err-write_text-2 : goal.returns-in_err-write_text-2
returns-in_err-write_text-2 g c =
    let r = c.from_residual-in_err-write_text-2.result in
    writes_next r _ _ _ _ _ _ (codes "  ") (c.args.why.now ++ codes "\n") c.in_ok-write_text.ensures
    (writes_part r _ _ _ _ c.args.why.now (codes "\n") c.from_residual-in_err-write_text-2.ensures.0 c.in_err-write_text-2.ensures)

pub returns : goal.returns
returns g c =
    let r = c.write_text-3.result in
    writes_next r _ _ _ _ _ _ (codes "  ") (c.args.why.now ++ codes "\n") c.in_ok-write_text.ensures
    (writes_next r _ _ _ _ _ _ c.args.why.now (codes "\n") c.in_ok-write_text-2.ensures c.write_text-3.ensures)
