use Rattle.std.proofs.Common.{◌≡◌, [], List, ap, ◌∙◌}
use Rattle.std.specs.Prelude.{set}
use Rattle.std.proofs.Math.ListN.{length-set}
use Rattle.resp_session.specs.Stores.{Store}
use Rattle.resp_server.specs.Servers.{IsWithin, ServerState}
use Rattle.resp_server.proofs.Lists.{all_set, emptied_at, empty_within}
use Rattle.resp_server.proofs.databases.Databases.flush.Goals as goal

pub invariant_of-self-2 : goal.invariant_of-self-2
invariant_of-self-2 g c =
    let i = c.self.inside in
    let d = c.replace.new.dest in
    let none : d.store ≡ [] = ap (λ d. d.store) c.replace.ensures.after ∙ c.new-empty.ensures.store in
    let same : d.limits ≡ i.limits = ap (λ d. d.limits) c.replace.ensures.after ∙ c.new-empty.ensures.limits in
    record {
      count = length-set i.list.items c.args.index d ∙ c.self.invariant.count;
      within = all_set (IsWithin i.limits) i.list.items c.args.index d c.self.invariant.within (empty_within i.limits d same none);
      ready = c.self.invariant.ready;
      same_rules = c.self.invariant.same_rules;
    }

pub returns : goal.returns
returns g c =
    let i = c.self.inside in
    let none : c.replace.new.dest.store ≡ [] = ap (λ d. d.store) c.replace.ensures.after ∙ c.new-empty.ensures.store in
    ap (λ (s : List Store). record { limits = i.limits; stores = s; last = i.last }) (emptied_at i.list.items c.args.index c.replace.new.dest none) ∙
    ap (λ (v : ServerState). record v { stores = set v.stores c.args.index [] }) c.self.view_is
