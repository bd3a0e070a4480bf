use Rattle.std.proofs.Common.{◌+◌, rules, arith, sym, subst}
use Rattle.resp_wire.specs.Happening.{AreOpened}
use Rattle.resp_wire.proofs.world.open_each.Goals as goal
use Rattle.resp_wire.proofs.worlds.Opened.{memory_alone, none_opened, one_more_opened}

pub loop-init : goal.loop-init
loop-init g c = record {
  opened = subst (λ ends. AreOpened c.args.limits.now c.args.hub.now c.args.hub.now ends 0) (sym c.new-ends.ensures.items)
      (none_opened c.args.limits.now c.args.hub.now c.requires.nothing_open);
  within = search rules;
}

pub returns-in-Err-clause-memory : goal.returns-in-Err-clause-memory
returns-in-Err-clause-memory g c =
    let less = c.loop-test.true in
    let most = c.requires.few in
    memory_alone c.args.limits.now c.args.hub.now c.loop.hub c.loop.ends.items c.loop.counter c.in-Err.error c.loop.invariant.opened
    (omega (arith, less, most)) c.in-Err.ensures.too_many.0

pub loop-preserved : goal.loop-preserved
loop-preserved g c =
    let less = c.loop-test.true in
    record {
      opened = subst (λ ends. AreOpened c.args.limits.now c.args.hub.now c.open.new.self ends (c.loop.counter + 1)) (sym c.in-Ok.ensures.items)
          (one_more_opened c.args.limits.now c.args.hub.now c.loop.hub c.open.new.self c.loop.ends.items c.loop.counter c.in_default.field-0 c.new.result
          c.loop.invariant.opened c.in_default.ensures.opened c.new.ensures);
      within = omega (arith, less);
    }

pub returns-clause-opened : goal.returns-clause-opened
returns-clause-opened g c =
    let past = c.loop-test.false in
    let within = c.loop.invariant.within in
    subst (AreOpened c.args.limits.now c.args.hub.now c.loop.hub c.loop.ends.items) (omega (arith, past, within)) c.loop.invariant.opened
