use Rattle.std.proofs.Common.{◌∷◌, [], codes}
use Rattle.resp_print.specs.Shown.{quoted_text}
use Rattle.resp_print.proofs.WrittenLemmas.{writes_next, writes_part}
use Rattle.resp_cli_stream.proofs.valid.write_name.Goals as goal

pub returns-in_err-write_text : goal.returns-in_err-write_text
returns-in_err-write_text g c =
    writes_part c.from_residual.result _ _ _ _ (codes " ") (quoted_text (c.args.byte ∷ [])) c.from_residual.ensures.0 c.in_err-write_text.ensures

pub returns : goal.returns
returns g c =
    writes_next c.write_quoted.result _ _ _ _ _ _ (codes " ") (quoted_text (c.args.byte ∷ [])) c.in_ok-write_text.ensures c.write_quoted.ensures
