use Rattle.std.proofs.Common.{◌++◌, codes}
use Rattle.resp_print.proofs.WrittenLemmas.{writes_next, writes_part}
use Rattle.resp_cli_args.proofs.words.write_reason.Goals as goal

pub returns-in_err-write_text : goal.returns-in_err-write_text
returns-in_err-write_text g c =
    let r = c.from_residual.result in
    writes_part r _ _ _ _ c.args.before.now (c.args.name.now ++ (codes ": " ++ (c.args.why.now ++ codes "\n"))) c.from_residual.ensures.0 c.in_err-write_text.ensures

pub returns-in_err-write_text-2 : goal.returns-in_err-write_text-2
returns-in_err-write_text-2 g c =
    let r = c.from_residual-in_err-write_text-2.result in
    writes_next r _ _ _ _ _ _ c.args.before.now (c.args.name.now ++ (codes ": " ++ (c.args.why.now ++ codes "\n"))) c.in_ok-write_text.ensures
    (writes_part r _ _ _ _ c.args.name.now (codes ": " ++ (c.args.why.now ++ codes "\n")) c.from_residual-in_err-write_text-2.ensures.0 c.in_err-write_text-2.ensures)

pub returns-in_err-write_text-3 : goal.returns-in_err-write_text-3
returns-in_err-write_text-3 g c =
    let r = c.from_residual-in_err-write_text-3.result in
    writes_next r _ _ _ _ _ _ c.args.before.now (c.args.name.now ++ (codes ": " ++ (c.args.why.now ++ codes "\n"))) c.in_ok-write_text.ensures
    (writes_next r _ _ _ _ _ _ c.args.name.now (codes ": " ++ (c.args.why.now ++ codes "\n")) c.in_ok-write_text-2.ensures
    (writes_part r _ _ _ _ (codes ": ") (c.args.why.now ++ codes "\n") c.from_residual-in_err-write_text-3.ensures.0 c.in_err-write_text-3.ensures))

pub returns-in_err-write_text-4 : goal.returns-in_err-write_text-4
returns-in_err-write_text-4 g c =
    let r = c.from_residual-in_err-write_text-4.result in
    writes_next r _ _ _ _ _ _ c.args.before.now (c.args.name.now ++ (codes ": " ++ (c.args.why.now ++ codes "\n"))) c.in_ok-write_text.ensures
    (writes_next r _ _ _ _ _ _ c.args.name.now (codes ": " ++ (c.args.why.now ++ codes "\n")) c.in_ok-write_text-2.ensures
    (writes_next r _ _ _ _ _ _ (codes ": ") (c.args.why.now ++ codes "\n") c.in_ok-write_text-3.ensures
    (writes_part r _ _ _ _ c.args.why.now (codes "\n") c.from_residual-in_err-write_text-4.ensures.0 c.in_err-write_text-4.ensures)))

pub returns : goal.returns
returns g c =
    let r = c.write_text-5.result in
    writes_next r _ _ _ _ _ _ c.args.before.now (c.args.name.now ++ (codes ": " ++ (c.args.why.now ++ codes "\n"))) c.in_ok-write_text.ensures
    (writes_next r _ _ _ _ _ _ c.args.name.now (codes ": " ++ (c.args.why.now ++ codes "\n")) c.in_ok-write_text-2.ensures
    (writes_next r _ _ _ _ _ _ (codes ": ") (c.args.why.now ++ codes "\n") c.in_ok-write_text-3.ensures
    (writes_next r _ _ _ _ _ _ c.args.why.now (codes "\n") c.in_ok-write_text-4.ensures
    (c.write_text-5.ensures))))
