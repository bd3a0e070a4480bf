use Rattle.std.proofs.Common.{◌≡◌, ◌+◌, ◌≤◌, ◌++◌, [], Err, length, take, vec_len, refl, sym, ap, subst, ◌∙◌, arith, length-append}
use Rattle.std.proofs.lemmas.List.{length-take-le}
use Rattle.resp_cli_stream.specs.Live.{EachRead, IsLive}
use Rattle.resp_cli_stream.specs.Streams.{HasRendered, UsesReader}
use Rattle.resp_cli_stream.specs.Takings.{EndsInput}
use Rattle.resp_cli_args.specs.declared.tool_error.ToolError.TheVariants.{Memory}
use Rattle.resp_cli_stream.specs.declared.stream.TheConstants.{MOST_READS}
use Rattle.resp_cli_stream.proofs.LiveLemmas.{live_on, none_recorded}
use Rattle.resp_cli_stream.proofs.Outcomes.{is_that_error}
use Rattle.resp_cli_stream.proofs.ReadLemmas.{called_again, never_called, nothing_read, one_more, reads_fail, reads_none, reads_on, take-into}
use Rattle.resp_cli_stream.proofs.Rendered.{ended_stop, flushed, nothing_rendered, renders_counted, renders_so_far}
use Rattle.resp_cli_stream.proofs.stream.render_stream.Goals as goal
use Rattle.resp_cli_stream.proofs.stream.render_stream.Given.{Over}
use Rattle.resp_cli_stream.proofs.stream.render_stream.Goals.{After-deref, After-read_beside}

-- what was written before the read
written : (g : Over) (c : After-read_beside g) → HasRendered (g.T.Rendering.rules c.args.rendering.now)
    (g.T.Rendering.text (g.T.Rendering.rules c.args.rendering.now)) (g.T.Rendering.is_written (g.T.Rendering.rules c.args.rendering.now))
    (g.T.Rendering.has_taken c.loop.rendering) c.loop.invariant.bytes (g.W.Sink.written c.args.writer.now) (g.W.Sink.written c.flush.new.writer)
    c.loop.totals.values
written g c = flushed c.loop.invariant.stands c.in_default.ensures.same

-- what was sent before the read, and those before it
sent : (g : Over) (c : After-read_beside g) → g.T.Rendering.writes → EachRead (g.R.LiveSource.looks c.args.reader.now)
    (g.R.LiveSource.looks c.read_beside.new.self) (IsLive (g.T.Rendering.rules c.args.rendering.now)
    (g.T.Rendering.text (g.T.Rendering.rules c.args.rendering.now)) (g.T.Rendering.is_due (g.T.Rendering.rules c.args.rendering.now))
    (g.R.Source.remaining c.args.reader.now) (g.W.Sink.written c.args.writer.now))
sent g c writes =
    let w = c.loop.invariant in
    live_on (written g c) (g.T.Rendering.rules c.loop.rendering) w.same_rules g.T.Rendering.is_due (g.R.Source.remaining c.args.reader.now)
    (g.R.Source.remaining c.loop.reader) (g.W.LiveSink.sent c.flush.new.writer) (g.R.LiveSource.looks c.args.reader.now) (g.R.LiveSource.looks c.loop.reader)
    (g.R.LiveSource.looks c.read_beside.new.self) c.part_stands-in-loop.ensures.not_whole c.part_stands-in-loop.ensures.due w.read
    (c.in_default.ensures.sent writes) (w.live writes) c.read_beside.ensures.looks

-- the buffer was read into, and kept its length
room : (g : Over) (c : After-read_beside g) → length c.read_beside.new.into ≡ vec_len c.loop.buffer
room g c = c.read_beside.auto.into ∙ c.as_mut_slice.ensures.len

-- no more bytes were read than it has
within : (g : Over) (c : After-deref g) → c.in-Ok.count ≤ length c.read_beside.new.into
within g c = omega (arith, c.in-Ok.ensures.within, c.as_mut_slice.ensures.len)

-- the piece has the bytes that were read
piece : (g : Over) (c : After-deref g) → length c.read_beside.new.into ≡ vec_len c.loop.buffer →
    take c.in-Ok.count c.deref.result.now ≡ take c.in-Ok.count c.read_beside.new.into
piece g c room =
    ap (take c.in-Ok.count) c.deref.ensures.value ∙
    take-into c.read_beside.new.into c.loop.buffer.items c.loop.buffer.len c.in-Ok.count (within g c) (omega (arith, room))

pub returns-in_err-buffer-clause-rendered : goal.returns-in_err-buffer-clause-rendered
returns-in_err-buffer-clause-rendered g c =
    let r = g.T.Rendering.rules c.args.rendering.now in (
      [],
      nothing_read (g.R.Source.remaining c.args.reader.now),
      rw (is_that_error c.from_residual.result Memory c.from_residual.ensures.1)
          (renders_so_far (nothing_rendered r (g.T.Rendering.text r) (g.T.Rendering.is_written r) (g.T.Rendering.has_taken c.args.rendering.now)
          (g.W.Sink.written c.args.writer.now) c.requires.nothing_taken) c.part_stands.ensures.begun),
    )

pub loop-init : goal.loop-init
loop-init g c =
    let r = g.T.Rendering.rules c.args.rendering.now in
    record {
      bytes = [];
      read = nothing_read (g.R.Source.remaining c.args.reader.now);
      size = refl;
      bounded = omega arith;
      stands = nothing_rendered r (g.T.Rendering.text r) (g.T.Rendering.is_written r) (g.T.Rendering.has_taken c.args.rendering.now)
          (g.W.Sink.written c.args.writer.now) c.requires.nothing_taken;
      few = omega arith;
      same_rules = refl;
      calls = never_called (g.R.Source.calls c.args.reader.now);
      unfailing = refl;
      none_failed = refl;
      live = λ _. none_recorded (g.R.LiveSource.looks c.args.reader.now) _;
      room = c.in_ok-buffer.ensures.len;
    }

pub returns-in-Err-clause-rendered : goal.returns-in-Err-clause-rendered
returns-in-Err-clause-rendered g c =
    let w = c.loop.invariant in
    (w.bytes, w.read, renders_so_far (flushed w.stands c.in-Err.ensures.same) (rw w.same_rules at c.part_stands-in-loop.ensures.begun))

pub returns-in-Err-read_beside-clause-rendered : goal.returns-in-Err-read_beside-clause-rendered
returns-in-Err-read_beside-clause-rendered g c =
    let w = c.loop.invariant in (
      w.bytes,
      reads_fail _ _ _ w.bytes _ c.in-Err-read_beside.field-0 w.read c.in-Err-read_beside.ensures.bytes,
      renders_so_far (written g (goal.at.returns-in-Err-read_beside-clause-rendered g c).After-read_beside)
          (rw w.same_rules at c.part_stands-in-loop.ensures.begun),
    )

pub returns-in-Err-finish-clause-rendered : goal.returns-in-Err-finish-clause-rendered
returns-in-Err-finish-clause-rendered g c =
    let r = g.T.Rendering.rules c.args.rendering.now in
    let w = c.loop.invariant in
    let s = written g (goal.at.returns-in-Err-finish-clause-rendered g c).After-read_beside in (
      w.bytes,
      reads_none _ _ _ w.bytes _ c.in-Ok.count c.if-count-eq0.true w.read c.in-Ok.ensures.bytes,
      rw c.of_value.ensures (ended_stop s (g.T.Rendering.is_left r) (g.T.Rendering.is_begun r) (g.W.Sink.written c.finish.new.writer) c.in-Err-finish.stop
          (subst (λ r. EndsInput r (g.T.Rendering.text r) (g.T.Rendering.is_left r) (g.T.Rendering.is_begun r) s.begins.rest s.so_far
          (g.W.Sink.written c.flush.new.writer) (g.W.Sink.written c.finish.new.writer) (Err c.in-Err-finish.stop)) w.same_rules
          (c.in-Err-finish.ensures.ends s.begins.rest s.so_far s.takes))),
    )

pub returns-then-count-eq0-clause-rendered : goal.returns-then-count-eq0-clause-rendered
returns-then-count-eq0-clause-rendered g c =
    let w = c.loop.invariant in
    let s = written g (goal.at.returns-then-count-eq0-clause-rendered g c).After-read_beside in (
      w.bytes,
      reads_none _ _ _ w.bytes _ c.in-Ok.count c.if-count-eq0.true w.read c.in-Ok.ensures.bytes,
      renders_counted s c.loop.totals.bytes (g.W.Sink.written c.finish.new.writer) c.no_spelling_is_empty.ensures
          (c.in_default-finish.ensures.ends s.begins.rest s.so_far s.takes) w.few w.size,
    )

pub returns-in-Err-render_piece-clause-rendered : goal.returns-in-Err-render_piece-clause-rendered
returns-in-Err-render_piece-clause-rendered g c =
    let at = goal.at.returns-in-Err-render_piece-clause-rendered g c in
    let w = c.loop.invariant in (
      w.bytes ++ take c.in-Ok.count c.read_beside.new.into,
      reads_on _ _ _ w.bytes c.read_beside.new.into c.in-Ok.count w.read c.in-Ok.ensures.bytes,
      (rw (w.same_rules, piece g at.After-deref (room g at.After-read_beside))
          at (c.in-Err-render_piece.ensures.stops w.bytes (g.W.Sink.written c.args.writer.now))) (written g at.After-read_beside),
    )

pub loop-preserved : goal.loop-preserved
loop-preserved g c =
    let at = goal.at.loop-preserved g c in
    let w = c.loop.invariant in
    let room = room g at.After-read_beside in
    let within = within g at.After-deref in
    let size : length (w.bytes ++ take c.in-Ok.count c.read_beside.new.into) ≡ length w.bytes + c.in-Ok.count =
    length-append w.bytes (take c.in-Ok.count c.read_beside.new.into) ∙ ap (λ n. length w.bytes + n) (length-take-le c.in-Ok.count c.read_beside.new.into within) in
    record {
      bytes = w.bytes ++ take c.in-Ok.count c.read_beside.new.into;
      read = reads_on _ _ _ w.bytes c.read_beside.new.into c.in-Ok.count w.read c.in-Ok.ensures.bytes;
      size = omega (arith, size, w.size);
      bounded = omega (arith, one_more c.loop.counter c.args.piece, size, w.bounded, within, room, w.room);
      stands = (rw (w.same_rules, piece g at.After-deref room) at (c.in-Ok-render_piece.ensures.goes_on w.bytes (g.W.Sink.written c.args.writer.now)))
          (written g at.After-read_beside);
      few = c.in-Ok-render_piece.ensures.few;
      same_rules = c.in-Ok-render_piece.ensures.same_rules ∙ w.same_rules;
      calls = called_again c.loop.counter _ (g.R.Source.calls c.loop.reader) _ w.calls c.read_beside.ensures.calls;
      unfailing = c.in-Ok.ensures.failures ∙ w.unfailing;
      none_failed = c.in-Ok-render_piece.ensures.write_failures ∙ c.in_default.ensures.failures ∙ w.none_failed;
      live = sent g at.After-read_beside;
      room = w.room;
    }

pub returns-clause-rendered : goal.returns-clause-rendered
returns-clause-rendered g c =
    let w = c.loop.invariant in
    (w.bytes, w.read, renders_so_far w.stands (rw w.same_rules at c.part_stands-2.ensures.begun))

pub returns-in_err-buffer-clause-reads : goal.returns-in_err-buffer-clause-reads
returns-in_err-buffer-clause-reads g c =
    let calls = g.R.Source.calls c.args.reader.now in
    let failures = g.R.Source.failures c.args.reader.now in
    subst (λ r. UsesReader MOST_READS r calls calls failures failures) (sym (is_that_error c.from_residual.result Memory c.from_residual.ensures.1))
    record { bounded = omega arith; used_up = λ turns. absurd cc; failed = refl }

pub returns-in-Err-read_beside-clause-live : goal.returns-in-Err-read_beside-clause-live
returns-in-Err-read_beside-clause-live g c = sent g (goal.at.returns-in-Err-read_beside-clause-live g c).After-read_beside

pub returns-in-Err-finish-clause-live : goal.returns-in-Err-finish-clause-live
returns-in-Err-finish-clause-live g c = sent g (goal.at.returns-in-Err-finish-clause-live g c).After-read_beside

pub returns-then-count-eq0-clause-live : goal.returns-then-count-eq0-clause-live
returns-then-count-eq0-clause-live g c = sent g (goal.at.returns-then-count-eq0-clause-live g c).After-read_beside

pub returns-in-Err-render_piece-clause-live : goal.returns-in-Err-render_piece-clause-live
returns-in-Err-render_piece-clause-live g c = sent g (goal.at.returns-in-Err-render_piece-clause-live g c).After-read_beside

pub render_piece-requires-clause-stands : goal.render_piece-requires-clause-stands
render_piece-requires-clause-stands g c =
    let w = c.loop.invariant in
    (w.bytes, g.W.Sink.written c.args.writer.now, rw w.same_rules (written g (goal.at.render_piece-requires-clause-stands g c).After-read_beside))
