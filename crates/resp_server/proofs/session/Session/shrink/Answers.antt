use Rattle.resp_server.proofs.session.Session.shrink.Goals as goal

pub returns-then-self-clause-reading : goal.returns-then-self-clause-reading
returns-then-self-clause-reading c rules reads = c.new.ensures.reading rules
