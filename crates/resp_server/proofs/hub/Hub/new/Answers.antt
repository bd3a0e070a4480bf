use Rattle.std.proofs.Common.{[], subst, sym, arith}
use Rattle.std.specs.Str.{bytes_eq}
use Rattle.std.proofs.lemmas.Map.Keys.{IsDistinct-from_apart}
use Rattle.resp_session.specs.Fitting.{FitsStore}
use Rattle.resp_server.specs.Hubs.{AreSound}
use Rattle.resp_server.proofs.hub.Hub.new.Goals as goal

pub invariant_of-result : goal.invariant_of-result
invariant_of-result g c = record {
  stored = subst (λ limits. FitsStore limits c.new.result.store) (sym c.new.ensures.limits) (subst (FitsStore c.args.limits) (sym c.new.ensures.store)
      (record { distinct = IsDistinct-from_apart bytes_eq [] (λ i j d before within. absurd (omega (arith, within))); values = tt }));
  few = omega arith;
  sound = subst (AreSound c.new.result.limits 0) (sym c.new-2.ensures.empty) tt;
}
