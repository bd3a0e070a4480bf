use Rattle.resp_wire.proofs.HubSessions.{serves_none}
use Rattle.resp_wire.proofs.hub_sessions.HubSessionsU64.find.Goals as goal

pub returns-in-Ok-clause-nothing : goal.returns-in-Ok-clause-nothing
returns-in-Ok-clause-nothing g c = λ held. serves_none held c.args.self.now c.args.client.now c.is_closing.ensures.waiting
