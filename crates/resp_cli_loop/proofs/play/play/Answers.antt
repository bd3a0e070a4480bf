use Rattle.std.proofs.Common.{◌+◌, ◌≤◌, ◌++◌, ◌∙◌, Ok, Err, refl, length, take, drop, sym, ap, subst, arith}
use Rattle.std.proofs.lemmas.List.{take_all}
use Rattle.resp_cli_loop.specs.Plays.{PlaysAll, step_events, steps_events}
use Rattle.resp_print.proofs.Printing.{is_that_error}
use Rattle.resp_cli_loop.proofs.Flushed.{steps_more, steps_split, stops_within}
use Rattle.resp_cli_loop.proofs.Played.{all_then, counts_then, plays_none, stops_script}
use Rattle.resp_cli_loop.proofs.Playing.{at_step_of, fails_to_write, no_stop_at_step, no_stop_kept}
use Rattle.resp_cli_loop.proofs.play.play.Goals as goal

pub loop-line-init : goal.loop-line-init
loop-line-init g c =
    record { plays = λ limits w shows. plays_none shows (g.W.Sink.written c.args.writer.now); none_failed = refl; going = λ going. going }

pub returns-in_err-play_step-clause-plays : goal.returns-in_err-play_step-clause-plays
returns-in_err-play_step-clause-plays g c = λ limits w shows.
    let clients = c.args.script.now.clients in
    let steps = c.args.script.now.steps.items in
    let i = c.loop-line.line-index in
    let step = c.loop-line-item.result in
    let so_far = c.loop-line.invariant.plays limits w shows in
    let first = steps_events clients (take i steps) in
    let events = step_events clients step.0 step.1 in
    rw (is_that_error c.from_residual.result _ c.from_residual.ensures.1)
    (stops_script g.L.Link.is_honest limits w (steps_events clients steps) c.play_step.new.world _ _ c.in_err-play_step.field-0.0
    (stops_within g.L.Link.is_honest limits w (first ++ events) (steps_events clients (drop (i + 1) steps)) (steps_events clients steps) c.play_step.new.world _ _
    c.in_err-play_step.field-0.0 (steps_split clients steps _ c.deref-line-items.ensures.value i step c.loop-line-test.true c.loop-line-item.is)
    (all_then g.L.Link.is_honest limits w first events c.loop-line.world c.play_step.new.world _ _ _ (Err c.in_err-play_step.field-0.0) so_far
    (c.in_err-play_step.ensures.plays limits so_far.played.last so_far.shows))))

pub returns-in_err-play_step-clause-stopped : goal.returns-in_err-play_step-clause-stopped
returns-in_err-play_step-clause-stopped g c =
    rw (is_that_error c.from_residual.result _ c.from_residual.ensures.1)
    (at_step_of c.args.script.now.steps.items c.deref-line-items.result.now c.loop-line.line-index c.loop-line-item.result c.in_err-play_step.field-0.0
    c.deref-line-items.ensures.value c.loop-line-test.true c.loop-line-item.is c.in_err-play_step.ensures.stopped)

pub loop-line-preserved : goal.loop-line-preserved
loop-line-preserved g c = record {
  plays = λ limits w shows.
      let clients = c.args.script.now.clients in
      let steps = c.args.script.now.steps.items in
      let i = c.loop-line.line-index in
      let step = c.loop-line-item.result in
      let so_far = c.loop-line.invariant.plays limits w shows in
      subst (λ es. PlaysAll g.L.Link.is_honest limits w es c.play_step.new.world (g.W.Sink.written c.args.writer.now) (g.W.Sink.written c.play_step.new.writer))
      (sym (steps_more clients steps _ c.deref-line-items.ensures.value i step c.loop-line-test.true c.loop-line-item.is))
      (all_then g.L.Link.is_honest limits w (steps_events clients (take i steps)) (step_events clients step.0 step.1) c.loop-line.world c.play_step.new.world _ _ _
      (Ok tt) so_far (c.in_ok-play_step.ensures.plays limits so_far.played.last so_far.shows));
  none_failed = c.in_ok-play_step.ensures.failed ∙ c.loop-line.invariant.none_failed;
  going = λ going. c.in_ok-play_step.ensures.cause (c.loop-line.invariant.going going);
}

pub returns-clause-plays : goal.returns-clause-plays
returns-clause-plays g c = λ limits w shows.
    let clients = c.args.script.now.clients in
    let steps = c.args.script.now.steps.items in
    let i = c.loop-line.line-index in
    let over : length steps ≤ i = omega (arith, c.loop-line-test.false, ap length c.deref-line-items.ensures.value) in
    let all : PlaysAll g.L.Link.is_honest limits w (steps_events clients steps) c.loop-line.world (g.W.Sink.written c.args.writer.now)
    (g.W.Sink.written c.loop-line.writer) =
    subst (λ taken. PlaysAll g.L.Link.is_honest limits w (steps_events clients taken) c.loop-line.world (g.W.Sink.written c.args.writer.now)
    (g.W.Sink.written c.loop-line.writer)) (take_all i steps over) (c.loop-line.invariant.plays limits w shows) in
    counts_then g.L.Link.is_honest limits w (steps_events clients steps) c.loop-line.world _ _ _ _ _ c.write_counts.result all
    (c.write_counts.ensures.prints limits all.played.last all.shows)

pub returns-clause-stopped : goal.returns-clause-stopped
returns-clause-stopped g c = no_stop_at_step c.args.script.now.steps.items _ _ c.write_counts.result c.write_counts.ensures.ends

pub returns-clause-cause : goal.returns-clause-cause
returns-clause-cause g c = no_stop_kept _ c.loop-line.world.stopped _ _ c.write_counts.result c.loop-line.invariant.going c.write_counts.ensures.ends

pub returns-clause-failed : goal.returns-clause-failed
returns-clause-failed g c = fails_to_write _ _ _ c.write_counts.result c.loop-line.invariant.none_failed c.write_counts.ensures.ends

pub returns-in_err-play_step-clause-memory : goal.returns-in_err-play_step-clause-memory
returns-in_err-play_step-clause-memory g c = λ memory limits w shows.
    let so_far = c.loop-line.invariant.plays limits w shows in
    c.in_err-play_step.ensures.memory (sym (is_that_error c.from_residual.result _ c.from_residual.ensures.1) ∙ memory) limits so_far.played.last so_far.shows
