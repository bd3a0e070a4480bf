use Rattle.std.proofs.Common.{◌≡◌, ◌∙◌, ◌<◌, IfSome, None, arith, length, map, refl, subst, sym, take}
use Rattle.resp_wire.specs.Happening.{RunsTo}
use Rattle.resp_wire.specs.Links.{is_of_link}
use Rattle.resp_session.specs.Worlds.{client_of}
use Rattle.resp_wire.specs.Worlds.{CountsFailures, event_of}
use Rattle.resp_wire.proofs.LinkStops.{counts_on}
use Rattle.resp_wire.proofs.world.World.run.Goals as goal
use Rattle.resp_wire.proofs.worlds.Lacking.{lacks_at}
use Rattle.resp_wire.proofs.worlds.Running.{among, event_there, fails_in_run, runs_none, runs_one_more, stopped_at_once, stops_again, takes_none, up_to_last, was_going}

pub loop-index-init : goal.loop-index-init
loop-index-init g c = record {
  within = omega arith;
  happens = runs_none g.L.Link.is_honest c.args.self.now;
  same = refl;
  keep = refl;
  as_many = refl;
  going = λ less. absurd (omega (arith, less));
}

pub returns-in-Err-clause-stops : goal.returns-in-Err-clause-stops
returns-in-Err-clause-stops g c =
    let i = c.loop-index.invariant in
    record {
      within = among c.args.events.now c.loop-index.index c.loop-index-test.true;
      between = c.loop-index.self;
      before = i.happens;
      stopped = stopped_at_once c.args.self.now.stopped c.loop-index.self.stopped c.loop-index.index c.in-Err.stop i.same i.going
          c.in-Err.ensures.stopped_before;
      reason = λ none. fails_in_run g.L.Link.is_honest g.L.Link.failures c.args.self.now c.loop-index.self c.step.new.self (take c.loop-index.index (map event_of
          c.args.events.now)) c.in-Err.stop.cause i.happens i.keep (c.in-Err.ensures.stops (i.same ∙ none));
      links = λ none.
          let event = event_of c.index-events-index.result in
          subst (λ o. IfSome o (λ e. CountsFailures g.L.Link.failures (client_of e) c.args.self.now.links c.step.new.self.links
          (is_of_link c.in-Err.stop.cause)))
          (sym (event_there c.args.events.now c.loop-index.index c.index-events-index.result c.loop-index-test.true c.index-events-index.is))
          (counts_on g.L.Link.failures (client_of event) c.args.self.now.links c.loop-index.self.links c.step.new.self.links (is_of_link c.in-Err.stop.cause)
          i.keep (c.in-Err.ensures.links (i.same ∙ none)));
      memory = λ none out. lacks_at g.L.Link.is_honest c.loop-index.self (map event_of c.args.events.now) c.loop-index.index
          (event_of c.index-events-index.result) (event_there c.args.events.now c.loop-index.index c.index-events-index.result c.loop-index-test.true
          c.index-events-index.is) (c.in-Err.ensures.memory (i.same ∙ none) out);
    }

pub returns-in-Err-clause-stopped_before : goal.returns-in-Err-clause-stopped_before
returns-in-Err-clause-stopped_before g c =
    let i = c.loop-index.invariant in
    stops_again c.args.self.now.stopped c.loop-index.self.stopped c.loop-index.index c.in-Err.stop i.same i.going c.in-Err.ensures.stopped_before
    (0 < length c.args.events.now)

pub loop-index-preserved : goal.loop-index-preserved
loop-index-preserved g c =
    let i = c.loop-index.invariant in
    let less = c.loop-index-test.true in
    let event = c.index-events-index.result in
    let were : c.loop-index.self.stopped ≡ None = was_going c.loop-index.self.stopped c.in_default.field-0 c.in_default.ensures.stopped_before in
    let none : c.args.self.now.stopped ≡ None = sym i.same ∙ were in
    record {
      within = omega (arith, less);
      happens = runs_one_more g.L.Link.is_honest c.args.self.now c.loop-index.self c.step.new.self (map event_of c.args.events.now) c.loop-index.index
          (event_of event) c.in_default.field-0 i.happens (event_there c.args.events.now c.loop-index.index event less c.index-events-index.is)
          c.in_default.ensures.happens;
      same = c.in_default.ensures.going ∙ sym none;
      keep = c.in_default.ensures.none_failed ∙ i.keep;
      as_many = c.step.ensures.as_many ∙ i.as_many;
      going = λ _. none;
    }

pub returns-clause-happens : goal.returns-clause-happens
returns-clause-happens g c =
    let i = c.loop-index.invariant in
    let within = i.within in
    let past = c.loop-index-test.false in
    subst (RunsTo g.L.Link.is_honest c.args.self.now c.loop-index.self)
    (up_to_last c.args.events.now c.loop-index.index (omega (arith, within, past))) i.happens

pub returns-clause-stopped_before : goal.returns-clause-stopped_before
returns-clause-stopped_before g c =
    let i = c.loop-index.invariant in
    let past = c.loop-index-test.false in
    takes_none c.args.self.now.stopped _ (length c.args.events.now) (λ some. i.going (omega (arith, some, past)))
