use Rattle.std.proofs.Common.{sym, ap, ◌∙◌}
use Rattle.resp_session.specs.Stores.{value_at}
use Rattle.resp_server.proofs.StorePlaces.{looked_up, no_value}
use Rattle.resp_server.proofs.store.Store.get.Goals as goal

pub returns-in-Some : goal.returns-in-Some
returns-in-Some g c =
    looked_up c.self.invariant.in_place c.args.key.now c.in-Some.ensures.value ∙
    ap (λ es. value_at es c.args.key.now) c.self.view_is

pub returns-in-None : goal.returns-in-None
returns-in-None g c =
    sym (no_value c.self.invariant.in_place c.args.key.now (sym c.in-None.ensures.value)) ∙
    ap (λ es. value_at es c.args.key.now) c.self.view_is
