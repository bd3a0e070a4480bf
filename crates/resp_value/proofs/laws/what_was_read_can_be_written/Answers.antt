use Rattle.resp_value.proofs.ReadValues.{a_counted_spelling_is_no_shorter, what_was_read_can_be_written, what_was_read_counted_can_be_written, what_was_read_fits_but_for_total}
use Rattle.resp_value.proofs.laws.what_was_read_can_be_written.Goals as goal

pub returns-clause-fits_but_for_total : goal.returns-clause-fits_but_for_total
returns-clause-fits_but_for_total c = what_was_read_fits_but_for_total

pub returns-clause-written : goal.returns-clause-written
returns-clause-written c = what_was_read_can_be_written

pub returns-clause-no_longer : goal.returns-clause-no_longer
returns-clause-no_longer c = a_counted_spelling_is_no_shorter

pub returns-clause-written_counted : goal.returns-clause-written_counted
returns-clause-written_counted c = what_was_read_counted_can_be_written
