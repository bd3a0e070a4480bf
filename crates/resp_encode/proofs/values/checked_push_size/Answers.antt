use Rattle.resp_encode.proofs.values.checked_push_size.Goals as goal

pub returns-clause-verdict : goal.returns-clause-verdict
returns-clause-verdict c = c.checked_size.ensures.verdict _ c.measure_group-found.ensures.found
    (tt, c.measure_group-found.ensures.are_values)

pub returns-clause-size : goal.returns-clause-size
returns-clause-size c = c.checked_size.ensures.size _ c.measure_group-found.ensures.found
