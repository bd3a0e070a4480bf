use Rattle.resp_print.specs.Shown.{lines_on}
use Rattle.resp_value.specs.Values.{datum_of}
use Rattle.resp_print.specs.Headings.{reply_heading}
use Rattle.resp_cli_loop.specs.declared.play.PlayError.TheVariants.{Write}
use Rattle.resp_print.proofs.Printing.{is_that_error}
use Rattle.resp_cli_loop.proofs.Printing.{failed_part, prints_next}
use Rattle.resp_cli_loop.proofs.heard.write_reply.Goals as goal

pub returns-clause-prints : goal.returns-clause-prints
returns-clause-prints g c =
    prints_next c.played.result _ _ _ _ _ _ (reply_heading c.args.client c.args.number) (lines_on 1 (datum_of c.args.reply.now)) c.in_ok-write_numbers.ensures
    (c.played.ensures.prints _ _ _ _ _ _ c.write_value.ensures)

pub returns-in_err-write_numbers-clause-prints : goal.returns-in_err-write_numbers-clause-prints
returns-in_err-write_numbers-clause-prints g c =
    rw (is_that_error c.from_residual.result Write c.from_residual.ensures.1)
    (failed_part _ _ _ _ (reply_heading c.args.client c.args.number) (lines_on 1 (datum_of c.args.reply.now)) c.in_err-write_numbers.ensures)
