use Rattle.std.proofs.Common.{rules, refl}
use Rattle.resp_client.specs.Clients.{state_of}
use Rattle.resp_cli_ask.proofs.Receiving.{stops_in_text, stops_telling, tells_in_turns, tells_none_yet, tells_turn, tells_whole}
use Rattle.resp_cli_ask.proofs.hear.tell_piece.Goals as goal

pub loop-turn-init : goal.loop-turn-init
loop-turn-init g c = record {
  told = λ front h. tells_none_yet c.args.telling.now c.args.client.now (g.O.Sink.written c.args.output.now) front c.args.piece.now (search rules) h;
  none_failed = refl;
}

pub loop-turn-preserved : goal.loop-turn-preserved
loop-turn-preserved g c = record {
  told = λ front h.
      let w = c.loop-turn.invariant.told front h in
      tells_turn c.readings_go_on.ensures c.args.telling.now c.loop-turn.telling c.tell.new.telling (state_of c.args.client.now) c.loop-turn.client
      c.feed.new.self (g.O.Sink.written c.args.output.now) (g.O.Sink.written c.loop-turn.output) (g.O.Sink.written c.tell.new.output) front
      c.args.piece.now c.loop-turn.rest.now _ c.loop-turn.turn c.in-Ok.heard.used c.in-Ok.heard.what w
      (c.in-Ok.ensures.heard w.tells.receives.rest w.tells.receives.takes) c.in-Ok.ensures.only_replies_answer
      (c.in-Ok.ensures.uses_bytes (search rules)) c.in-Ok.ensures.within_piece c.in_default.ensures.told.0 c.tell.ensures.counted (search rules);
  none_failed = search rules;
}

pub returns-then-is_empty-clause-told : goal.returns-then-is_empty-clause-told
returns-then-is_empty-clause-told g c = λ front h.
    tells_whole c.args.telling.now c.loop-turn.telling (state_of c.args.client.now) c.loop-turn.client (g.O.Sink.written c.args.output.now)
    (g.O.Sink.written c.loop-turn.output) front c.args.piece.now c.loop-turn.rest.now c.loop-turn.turn (c.loop-turn.invariant.told front h) (search rules)

pub returns-clause-told : goal.returns-clause-told
returns-clause-told g c = λ front h.
    let w = c.loop-turn.invariant.told front h in
    tells_whole c.args.telling.now c.loop-turn.telling (state_of c.args.client.now) c.loop-turn.client (g.O.Sink.written c.args.output.now)
    (g.O.Sink.written c.loop-turn.output) front c.args.piece.now c.loop-turn.rest.now c.loop-turn.turn w
    (tells_in_turns c.args.telling.now c.loop-turn.telling (state_of c.args.client.now) c.loop-turn.client (g.O.Sink.written c.args.output.now)
    (g.O.Sink.written c.loop-turn.output) front c.args.piece.now c.loop-turn.rest.now c.loop-turn.turn w (search rules))

pub returns-in-Err-clause-refusal : goal.returns-in-Err-clause-refusal
returns-in-Err-clause-refusal g c = λ front h.
    let w = c.loop-turn.invariant.told front h in
    stops_telling c.args.telling.now c.loop-turn.telling (state_of c.args.client.now) c.loop-turn.client (g.O.Sink.written c.args.output.now)
    (g.O.Sink.written c.loop-turn.output) front c.args.piece.now c.loop-turn.rest.now c.loop-turn.turn c.in-Err.fault c.stop.result c.stop.ensures w
    (c.in-Err.ensures.refusal w.tells.receives.rest w.tells.receives.takes)

pub returns-in-Err-tell-clause-refusal : goal.returns-in-Err-tell-clause-refusal
returns-in-Err-tell-clause-refusal g c = λ front h.
    let w = c.loop-turn.invariant.told front h in
    stops_in_text c.readings_go_on.ensures c.args.telling.now c.loop-turn.telling c.tell.new.telling (state_of c.args.client.now) c.loop-turn.client
    c.feed.new.self (g.O.Sink.written c.args.output.now) (g.O.Sink.written c.loop-turn.output) (g.O.Sink.written c.tell.new.output) front
    c.args.piece.now c.loop-turn.rest.now c.loop-turn.turn c.in-Ok.heard.used c.in-Ok.heard.what c.in-Err-tell.error _ _ w
    (c.in-Ok.ensures.heard w.tells.receives.rest w.tells.receives.takes) c.in-Ok.ensures.only_replies_answer c.in-Err-tell.ensures.told
