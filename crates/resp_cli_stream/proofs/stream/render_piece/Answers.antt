use Rattle.std.proofs.Common.{rules, ◌<◌, ◌++◌, Err, length, take, sym, subst, ◌∙◌, arith, append_assoc}
use Rattle.std.proofs.Math.Seq.{take-length}
use Rattle.resp_cli_stream.specs.Takings.{Takes}
use Rattle.resp_cli_stream.proofs.Rendered.{all_done, done_more, left_to_do, length_left, renders_most, renders_on, renders_value, stopped_before_end, took_stop}
use Rattle.resp_cli_stream.proofs.stream.render_piece.Goals as goal

pub returns-then-values-eq-MOST_VALUES-clause-stops : goal.returns-then-values-eq-MOST_VALUES-clause-stops
returns-then-values-eq-MOST_VALUES-clause-stops g c = λ bytes start h.
    let w = c.loop-rest.invariant in
    let rest = c.loop-rest.rest.now in
    let some : 0 < length rest = search rules in
    rw (sym (left_to_do bytes w.done rest w.split)) (renders_most (w.stands bytes start h) rest c.if-values-eq-MOST_VALUES.true some)

pub take-requires : goal.take-requires
take-requires g c =
    let (bytes, start, h) = c.requires.stands in
    let s = c.loop-rest.invariant.stands bytes start h in
    (s.begins.rest, s.so_far, s.takes)

pub loop-rest-smaller-then-taken : goal.loop-rest-smaller-then-taken
loop-rest-smaller-then-taken g c =
    let (bytes, start, h) = c.requires.stands in
    let s = c.loop-rest.invariant.stands bytes start h in
    let t = rw c.if-taken.true at (c.in-Ok.ensures.takes s.begins.rest s.so_far s.takes) in
    omega (arith, t.0, length_left c.in-Ok.taken.used c.loop-rest.rest.now, c.in-Ok.ensures.within_piece)

pub loop-rest-preserved-then-taken : goal.loop-rest-preserved-then-taken
loop-rest-preserved-then-taken g c =
    let w = c.loop-rest.invariant in
    let rest = c.loop-rest.rest.now in
    let front = take c.in-Ok.taken.used rest in
    record {
      done = w.done ++ front;
      split = done_more c.args.piece.now w.done rest c.in-Ok.taken.used w.split;
      stands = λ bytes start h.
          let s = w.stands bytes start h in
          let t = rw (w.same_rules, c.if-taken.true) at (c.in-Ok.ensures.takes s.begins.rest s.so_far s.takes) in
          rw (sym (append_assoc bytes w.done front)) (renders_value s front t.1);
      few = omega (arith, w.few, c.if-values-eq-MOST_VALUES.false);
      same_rules = c.in-Ok.ensures.same_rules ∙ w.same_rules;
      none_failed = c.in-Ok.ensures.write_failures ∙ w.none_failed;
    }

pub loop-rest-smaller : goal.loop-rest-smaller
loop-rest-smaller g c =
    let (bytes, start, h) = c.requires.stands in
    let s = c.loop-rest.invariant.stands bytes start h in
    let rest = c.loop-rest.rest.now in
    let some : 0 < length rest = search rules in
    let t = rw c.if-taken.false at (c.in-Ok.ensures.takes s.begins.rest s.so_far s.takes) in
    omega (arith, some, t.0, length_left c.in-Ok.taken.used rest)

pub loop-rest-preserved : goal.loop-rest-preserved
loop-rest-preserved g c =
    let w = c.loop-rest.invariant in
    let rest = c.loop-rest.rest.now in
    record {
      done = w.done ++ take c.in-Ok.taken.used rest;
      split = done_more c.args.piece.now w.done rest c.in-Ok.taken.used w.split;
      stands = λ bytes start h.
          let s = w.stands bytes start h in
          let t = rw (w.same_rules, c.if-taken.false) at (c.in-Ok.ensures.takes s.begins.rest s.so_far s.takes) in
          rw (t.0, take-length rest, sym (append_assoc bytes w.done rest)) (renders_on s rest c.if-values-eq-MOST_VALUES.false t.1);
      few = w.few;
      same_rules = c.in-Ok.ensures.same_rules ∙ w.same_rules;
      none_failed = c.in-Ok.ensures.write_failures ∙ w.none_failed;
    }

pub returns-in-Err-clause-stops : goal.returns-in-Err-clause-stops
returns-in-Err-clause-stops g c = λ bytes start h.
    let r = g.T.Rendering.rules c.args.rendering.now in
    let w = c.loop-rest.invariant in
    let rest = c.loop-rest.rest.now in
    let s = w.stands bytes start h in
    let t = subst (λ r. Takes r (g.T.Rendering.text r) (g.T.Rendering.is_written r) (g.T.Rendering.is_left r) (g.T.Rendering.is_begun r)
    (g.T.Rendering.has_taken c.take.new.self) s.begins.rest rest s.so_far (g.W.Sink.written c.loop-rest.writer) (g.W.Sink.written c.take.new.writer)
    (Err c.in-Err.stop)) w.same_rules (c.in-Err.ensures.takes s.begins.rest s.so_far s.takes) in
    rw (c.of_value.ensures, sym (left_to_do bytes w.done rest w.split))
    (took_stop s (g.T.Rendering.is_left r) (g.T.Rendering.is_begun r) (g.T.Rendering.has_taken c.take.new.self) rest (g.W.Sink.written c.take.new.writer)
    c.in-Err.stop t)

pub returns-in-Err-clause-before_end : goal.returns-in-Err-clause-before_end
returns-in-Err-clause-before_end g c =
    let r = g.T.Rendering.rules c.loop-rest.rendering in
    let (bytes, start, h) = c.requires.stands in
    let s = c.loop-rest.invariant.stands bytes start h in
    rw c.of_value.ensures
    (stopped_before_end r (g.T.Rendering.text r) (g.T.Rendering.is_written r) (g.T.Rendering.is_left r) (g.T.Rendering.is_begun r)
    (g.T.Rendering.has_taken c.take.new.self) s.begins.rest c.loop-rest.rest.now s.so_far (g.W.Sink.written c.loop-rest.writer) (g.W.Sink.written c.take.new.writer)
    c.loop-rest.values c.in-Err.stop (c.in-Err.ensures.takes s.begins.rest s.so_far s.takes))

pub returns-clause-goes_on : goal.returns-clause-goes_on
returns-clause-goes_on g c = λ bytes start h.
    let w = c.loop-rest.invariant in
    rw (sym (all_done w.done c.loop-rest.rest.now w.split (search rules))) (w.stands bytes start h)
