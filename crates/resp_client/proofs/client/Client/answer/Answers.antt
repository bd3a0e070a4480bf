use Rattle.resp_client.specs.Clients.{state_of}
use Rattle.resp_client.proofs.Fronts.{between_values}
use Rattle.resp_client.proofs.client.Client.answer.Goals as goal

pub invariant_of-self-clause-reading : goal.invariant_of-self-clause-reading
invariant_of-self-clause-reading c =
    between_values c.args.self.now.limits (state_of c.args.self.now).waiting (record { version = c.in-Some-asked.version; asks = c.pop_front.new.self.items })
    c.args.self.now.decoder c.args.self.now.fault c.requires

pub invariant_of-self-else-not-is_refusal-clause-reading : goal.invariant_of-self-else-not-is_refusal-clause-reading
invariant_of-self-else-not-is_refusal-clause-reading c =
    between_values c.args.self.now.limits (state_of c.args.self.now).waiting (record { version = c.args.self.now.version; asks = c.pop_front.new.self.items })
    c.args.self.now.decoder c.args.self.now.fault c.requires

pub invariant_of-self-in_default-asked-clause-reading : goal.invariant_of-self-in_default-asked-clause-reading
invariant_of-self-in_default-asked-clause-reading c =
    between_values c.args.self.now.limits (state_of c.args.self.now).waiting (record { version = c.args.self.now.version; asks = c.pop_front.new.self.items })
    c.args.self.now.decoder c.args.self.now.fault c.requires

pub invariant_of-self-in_default-clause-reading : goal.invariant_of-self-in_default-clause-reading
invariant_of-self-in_default-clause-reading c =
    between_values c.args.self.now.limits (state_of c.args.self.now).waiting (record { version = c.args.self.now.version; asks = c.pop_front.new.self.items })
    c.args.self.now.decoder c.args.self.now.fault c.requires
