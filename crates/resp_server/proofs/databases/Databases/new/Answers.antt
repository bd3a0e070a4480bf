use Rattle.std.proofs.Common.{◌≡◌, ◌+◌, List, [], replicate, ap, subst, sym, ◌∙◌, arith, rules}
use Rattle.resp_session.specs.Stores.{Store}
use Rattle.resp_server.proofs.Lists.{AreEmpty, none_empty, one_more_empty}
use Rattle.resp_server.proofs.databases.Databases.new.Goals as goal

pub loop-init : goal.loop-init
loop-init g c = none_empty c.args.limits c.new-list.result.items (search rules)

pub loop-preserved : goal.loop-preserved
loop-preserved g c =
    subst (AreEmpty c.args.limits (c.loop.counter + 1)) (sym c.in_ok-push.ensures.items)
    (one_more_empty c.args.limits c.loop.counter c.loop.list.items c.new.result c.loop.invariant c.new.ensures.limits c.new.ensures.store)

pub invariant_of-result : goal.invariant_of-result
invariant_of-result g c =
    let many : c.loop.counter ≡ 16 = omega arith in
    record {
      count = c.loop.invariant.count ∙ many;
      within = c.loop.invariant.within;
      ready = c.in_ok-new.ensures.ready;
      same_rules = c.in_ok-new.ensures.rules;
    }

pub returns : goal.returns
returns g c =
    let many : c.loop.counter ≡ 16 = omega arith in
    let empty : Store = [] in
    record {
      empty = ap (λ (s : List Store). record { limits = c.args.limits; stores = s; last = 0 })
          (c.loop.invariant.stores ∙ ap (λ n. replicate n empty) many);
    }
