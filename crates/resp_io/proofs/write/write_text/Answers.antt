use Rattle.std.proofs.Common.{rules, ◌-◌, ap, arith, length, subst, take}
use Rattle.std.proofs.lemmas.List.{length-drop}
use Rattle.resp_io.specs.Devices.{Appends}
use Rattle.resp_io.proofs.Turning.{appends_part, spends_one}
use Rattle.resp_io.proofs.write.write_text.Goals as goal

pub loop-count-preserved : goal.loop-count-preserved
loop-count-preserved g c =
    let i = c.loop-count.invariant in
    let text = c.args.text.now in
    let count = c.loop-count.count in
    record {
      within = omega (arith, i.within, c.in-Ok.ensures.within, ap length c.beyond.ensures, length-drop count text);
      appended = appends_part (g.W.Sink.written c.args.writer.now) (g.W.Sink.written c.loop-count.writer) (g.W.Sink.written c.write.new.self) text count
          c.in-Ok.more i.appended
          (subst (λ z. Appends (g.W.Sink.written c.loop-count.writer) (g.W.Sink.written c.write.new.self) (take c.in-Ok.more z)) c.beyond.ensures
          c.in-Ok.ensures.bytes);
      spends = spends_one (g.W.Sink.calls c.args.writer.now) (g.W.Sink.calls c.loop-count.writer) (g.W.Sink.calls c.write.new.self) c.args.turns.now
          c.loop-count.turns (c.loop-count.turns - 1) i.spends c.in-Ok.ensures.calls (search rules);
      onward = λ some. let spent = i.spends.spent in search rules;
      none_failed = search rules;
    }

pub returns-in-Ok-eq0-clause-turns : goal.returns-in-Ok-eq0-clause-turns
returns-in-Ok-eq0-clause-turns g c = spends_one (g.W.Sink.calls c.args.writer.now) (g.W.Sink.calls c.loop-count.writer) (g.W.Sink.calls c.write.new.self)
    c.args.turns.now c.loop-count.turns (c.loop-count.turns - 1) c.loop-count.invariant.spends c.write.ensures.calls (search rules)

pub returns-in-Ok-eq0-2-clause-turns : goal.returns-in-Ok-eq0-2-clause-turns
returns-in-Ok-eq0-2-clause-turns g c = spends_one (g.W.Sink.calls c.args.writer.now) (g.W.Sink.calls c.loop-count.writer) (g.W.Sink.calls c.write.new.self)
    c.args.turns.now c.loop-count.turns (c.loop-count.turns - 1) c.loop-count.invariant.spends c.write.ensures.calls (search rules)
