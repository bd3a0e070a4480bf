use Rattle.resp_print.proofs.WrittenLemmas.{writes_next, writes_part}
use Rattle.resp_cli_stream.specs.Valid.{lead_text, names_text}
use Rattle.resp_cli_stream.proofs.valid.NextBytes.write.Goals as goal

pub returns-in_err-write_text : goal.returns-in_err-write_text
returns-in_err-write_text g c =
    writes_part c.from_residual.result _ _ _ _ (lead_text c.args.self.now.goes_on) (names_text c.args.self.now.bytes.items) c.from_residual.ensures.0
    (rw c.lead.ensures at c.in_err-write_text.ensures)

pub returns : goal.returns
returns g c =
    writes_next c.write_names.result _ _ _ _ _ _ (lead_text c.args.self.now.goes_on) (names_text c.args.self.now.bytes.items)
    (rw c.lead.ensures at c.in_ok-write_text.ensures) (rw c.as_slice.ensures.value at c.write_names.ensures)
