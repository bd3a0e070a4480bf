use Rattle.std.proofs.Common.{◌∙◌, ◌+◌, ◌≤◌, Bool, Err, ap, arith, length, length-drop, subst, sym, take}
use Rattle.resp_io.proofs.Turning.{spends_more}
use Rattle.resp_wire.specs.Visits.{Answers}
use Rattle.resp_wire.proofs.Visited.{answered_more, answered_overfull, answered_part}
use Rattle.resp_wire.proofs.serve.answer.Goals as goal

pub loop-used-preserved : goal.loop-used-preserved
loop-used-preserved g c =
    let l = c.loop-used in
    let t = g.T.Sessions in
    let w = g.W.Sink.written in
    let piece = c.args.piece.now in
    let size = ap length c.beyond.ensures ∙ length-drop l.used piece in
    let gives = c.in-Ok.ensures.within in
    let given = gives.within in
    let test = c.loop-used-test.true in
    let within : l.used + c.in-Ok.count ≤ length piece = omega (arith, given, size, test) in
    record {
      here = c.in-Ok-send.ensures.still_here;
      answered = answered_more t.has_served t.writes t.waiting t.closing c.args.held (w c.args.writer.now) (w l.writer) (w c.send.new.writer)
          c.args.sessions.now l.sessions c.give-given.new.self c.send.new.self c.args.client.now l.client c.give-given.new.client c.send.new.client piece
          c.beyond.result.now l.used c.in-Ok.count l.closing c.in-Ok-send.now l.invariant.answered c.beyond.ensures within c.in-Ok.ensures.served
          c.send.ensures.sent c.in-Ok-send.ensures.all
          (λ less. c.in-Ok-send.ensures.same_closing ∙ (gives.stops (omega (arith, less, size))).0) c.in-Ok-send.ensures.closing;
      failures = c.in-Ok-send.ensures.failures ∙ l.invariant.failures;
      spends = spends_more (g.W.Sink.calls c.args.writer.now) (g.W.Sink.calls l.writer) (g.W.Sink.calls c.send.new.writer) c.args.turns.now l.turns
          c.send.new.turns l.invariant.spends c.send.ensures.turns;
    }

pub returns-in-Err-clause-answered : goal.returns-in-Err-clause-answered
returns-in-Err-clause-answered g c =
    let l = c.loop-used in
    let t = g.T.Sessions in
    let w = g.W.Sink.written in
    subst (λ e. Answers {A = Bool} (t.has_served c.args.held) (t.has_cut_short c.args.held) (w c.args.writer.now) (w c.send.new.writer) c.args.sessions.now
    c.args.client.now c.send.new.self c.send.new.client (take (l.used + c.in-Ok.count) c.args.piece.now) (Err e)) (sym c.unsent.ensures.error)
    (answered_part t.has_served t.has_cut_short t.writes t.waiting t.closing c.args.held (w c.args.writer.now) (w l.writer) (w c.send.new.writer)
    c.args.sessions.now l.sessions c.give-given.new.self c.send.new.self c.args.client.now l.client c.give-given.new.client c.send.new.client
    c.args.piece.now c.beyond.result.now l.used c.in-Ok.count l.closing c.in-Err.halt l.invariant.answered c.beyond.ensures c.in-Ok.ensures.served
    c.send.ensures.sent)

pub returns-in-Err-clause-full : goal.returns-in-Err-clause-full
returns-in-Err-clause-full g c = λ less.
    let l = c.loop-used in
    let t = g.T.Sessions in
    let w = g.W.Sink.written in
    let piece = c.args.piece.now in
    let size = ap length c.beyond.ensures ∙ length-drop l.used piece in
    answered_overfull t.has_served (t.takes c.args.held) t.writes t.waiting t.closing c.args.held (w c.args.writer.now) (w l.writer) (w c.send.new.writer)
    c.args.sessions.now l.sessions c.give-given.new.self c.send.new.self c.args.client.now l.client c.give-given.new.client c.send.new.client piece
    (take c.in-Ok.count c.beyond.result.now) l.used l.closing l.invariant.answered c.in-Ok.ensures.taken
    (c.in-Ok.ensures.within.stops (omega (arith, less, size))).1 c.send.ensures.sent c.in-Err.ensures.part

pub returns-in-Err-clause-turns : goal.returns-in-Err-clause-turns
returns-in-Err-clause-turns g c =
    let l = c.loop-used in
    spends_more (g.W.Sink.calls c.args.writer.now) (g.W.Sink.calls l.writer) (g.W.Sink.calls c.send.new.writer) c.args.turns.now l.turns c.send.new.turns
    l.invariant.spends c.send.ensures.turns
