use Rattle.resp_encode.proofs.ReadValues.{memory_alone, total_or_memory}
use Rattle.resp_encode.proofs.laws.what_was_read_can_be_encoded.Goals as goal

pub returns-clause-total_or_memory : goal.returns-clause-total_or_memory
returns-clause-total_or_memory c = total_or_memory c.what_was_read_can_be_written.ensures.fits_but_for_total

pub returns-clause-memory_alone : goal.returns-clause-memory_alone
returns-clause-memory_alone c =
    memory_alone c.what_was_read_can_be_written.ensures.fits_but_for_total c.what_was_read_can_be_written.ensures.written_counted
