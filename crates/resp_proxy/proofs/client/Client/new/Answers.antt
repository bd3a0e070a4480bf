use Rattle.std.proofs.Common.{[], sym}
use Rattle.resp_proxy.proofs.client.Client.new.Goals as goal

pub returns-clause-nothing : goal.returns-clause-nothing
returns-clause-nothing c terms = record { front = []; begun = c.new.ensures.nothing terms.rules terms.lines; whole = sym c.new-2.ensures.items }
