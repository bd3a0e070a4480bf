use Rattle.std.proofs.Math.Logic.{∥∥₁_prop}
use Rattle.resp_client.specs.Clients.{state_of}
use Rattle.resp_client.proofs.Fronts.{where_reading}
use Rattle.resp_client.proofs.client.Client.fault.Goals as goal

pub returns-clause-reads_where_none : goal.returns-clause-reads_where_none
returns-clause-reads_where_none c = λ none.
    let now = c.args.self.now in
    where_reading now.limits (state_of now).waiting now.decoder now.fault now.reading none ∥∥₁_prop (λ front h. ∣ (front, h) ∣₁)
