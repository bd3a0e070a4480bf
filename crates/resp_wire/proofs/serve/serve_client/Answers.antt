use Rattle.std.proofs.Common.{◌≡◌, ◌∙◌, ◌<◌, ◌≤◌, false, true, Bool, [], Ok, Err, ap, arith, length, refl, rules, subst, sym, take, take_all}
use Rattle.std.specs.Prelude.{IfErr, IfOk, OnOk}
use Rattle.std.proofs.lemmas.Bool.{false≢true}
use Rattle.std.proofs.lemmas.List.{length-take-le}
use Rattle.resp_io.specs.Devices.{failures_after}
use Rattle.resp_io.specs.Turns.{Halts, has_failed, stopped_by}
use Rattle.resp_io.proofs.Pieces.{all_read, gives, none_left, some_left}
use Rattle.resp_io.proofs.Turning.{end_after, spends_both, spends_no_turns, spends_nothing, spends_writes}
use Rattle.resp_wire.specs.Visits.{Answers, EndsVisit, FailsVisit, StaysAfter, StopsAnswering, is_of_reader, is_of_writer, rest_in}
use Rattle.resp_wire.specs.declared.serve.Served.TheVariants.{Closed, Ended}
use Rattle.resp_wire.specs.declared.serve.Visit.{Visit}
use Rattle.resp_wire.specs.declared.error.ServeError.TheVariants.{NoSession, TooManyTurns}
use Rattle.resp_wire.proofs.Visited as visited
use Rattle.resp_wire.proofs.serve.serve_client.Goals as goal

-- Without the client.

pub returns-in_default-clause-served : goal.returns-in_default-clause-served
returns-in_default-clause-served g c =
    let t = g.T.Sessions in
    visited.ended_visit c.args.buffer.now c.ended.ensures
    (visited.visited_nobody (length c.args.buffer.now) g.W.Sink.written g.R.Source.remaining g.R.Source.calls g.R.Source.failures c.args.writer.now
    c.args.reader.now t.has_served t.has_cut_short t.waiting t.closing c.args.held c.args.sessions.now c.args.client.now (c.find.ensures.nothing c.args.held))

pub returns-in_default-clause-ends : goal.returns-in_default-clause-ends
returns-in_default-clause-ends g c = λ room.
    let t = g.T.Sessions in
    subst (λ (v : Visit). EndsVisit (g.R.Source.remaining c.args.reader.now) (g.R.Source.remaining c.args.reader.now)
    (t.waiting c.args.sessions.now c.args.client.now) (t.closing c.args.sessions.now c.args.client.now) v.end) (sym c.ended.ensures) tt

pub returns-in_default-clause-closing : goal.returns-in_default-clause-closing
returns-in_default-clause-closing g c = λ has closed. absurd (false≢true (c.in_default.ensures.found ∙ has))

pub returns-in_default-clause-refusal : goal.returns-in_default-clause-refusal
returns-in_default-clause-refusal g c =
    let w = g.W.Sink.failures c.args.writer.now in
    let r = g.R.Source.failures c.args.reader.now in
    let has = g.T.Sessions.has c.args.sessions.now c.args.client.now in
    subst (λ (v : Visit). IfErr v.end (FailsVisit has w w r r)) (sym c.ended.ensures) (sym c.in_default.ensures.found)

pub returns-in_default-clause-turns : goal.returns-in_default-clause-turns
returns-in_default-clause-turns g c = (
  c.args.turns,
  spends_no_turns (g.W.Sink.calls c.args.writer.now) (g.R.Source.calls c.args.reader.now) c.args.turns,
  λ out. absurd (let e = visited.same_error c.ended.result.end NoSession TooManyTurns (ap (λ (v : Visit). v.end) c.ended.ensures) out in cc),
)

-- The bytes that waited could not all be written.

pub returns-in-Err-clause-served : goal.returns-in-Err-clause-served
returns-in-Err-clause-served g c =
    let t = g.T.Sessions in
    visited.ended_visit c.args.buffer.now (visited.ended_by c.ended-in-Err.result c.unsent.result _ c.ended-in-Err.ensures c.unsent.ensures.error)
    (visited.visited_none (length c.args.buffer.now) g.W.Sink.written g.R.Source.remaining g.R.Source.calls g.R.Source.failures c.args.writer.now
    c.send.new.writer c.args.reader.now t.has_served t.has_cut_short t.writes t.waiting t.closing c.args.held c.args.sessions.now c.send.new.self
    c.args.client.now c.send.new.client c.in-Err.halt (c.find.ensures.nothing c.args.held) c.send.ensures.sent)

pub returns-in-Err-clause-ends : goal.returns-in-Err-clause-ends
returns-in-Err-clause-ends g c = λ room.
    let t = g.T.Sessions in
    let r = g.R.Source.remaining c.args.reader.now in
    let waits = t.waiting c.send.new.self c.send.new.client in
    let closing = t.closing c.send.new.self c.send.new.client in
    subst (λ (v : Visit). EndsVisit r r waits closing v.end)
    (sym (visited.ended_by c.ended-in-Err.result c.unsent.result _ c.ended-in-Err.ensures c.unsent.ensures.error))
    (visited.ends_write r r waits closing c.in-Err.halt c.in-Err.ensures.part)

pub returns-in-Err-clause-closing : goal.returns-in-Err-clause-closing
returns-in-Err-clause-closing g c = λ has closed.
    let o = c.send.ensures.sent in (
      refl,
      record {
        text = o.text;
        appended = o.appended;
        wrote = o.wrote;
        no_memory = visited.write_memory c.ended-in-Err.result.end c.in-Err.halt (ap (λ (v : Visit). v.end)
            (visited.ended_by c.ended-in-Err.result c.unsent.result _ c.ended-in-Err.ensures c.unsent.ensures.error));
      },
    )

pub returns-in-Err-clause-refusal : goal.returns-in-Err-clause-refusal
returns-in-Err-clause-refusal g c =
    let w = g.W.Sink.failures c.args.writer.now in
    let w' = g.W.Sink.failures c.send.new.writer in
    let r = g.R.Source.failures c.args.reader.now in
    let has = g.T.Sessions.has c.args.sessions.now c.args.client.now in
    subst (λ (v : Visit). IfErr v.end (FailsVisit has w w' r r))
    (sym (visited.ended_by c.ended-in-Err.result c.unsent.result _ c.ended-in-Err.ensures c.unsent.ensures.error))
    (visited.fails_write has w w' r r c.send.new.turns c.in-Err.halt c.in-Err.ensures.halted)

pub returns-in-Err-clause-write_failures : goal.returns-in-Err-clause-write_failures
returns-in-Err-clause-write_failures g c =
    let w = g.W.Sink.failures c.args.writer.now in
    let w' = g.W.Sink.failures c.send.new.writer in
    subst (λ (v : Visit). w' ≡ failures_after (stopped_by is_of_writer v.end) w) (sym c.ended-in-Err.ensures)
    (subst (λ b. w' ≡ failures_after b w) (sym c.unsent.ensures.of_writer) c.in-Err.ensures.failures)

pub returns-in-Err-clause-read_failures : goal.returns-in-Err-clause-read_failures
returns-in-Err-clause-read_failures g c =
    let r = g.R.Source.failures c.args.reader.now in
    subst (λ (v : Visit). r ≡ failures_after (stopped_by is_of_reader v.end) r) (sym c.ended-in-Err.ensures)
    (subst (λ b. r ≡ failures_after b r) (sym c.unsent.ensures.of_reader) refl)

pub returns-in-Err-clause-turns : goal.returns-in-Err-clause-turns
returns-in-Err-clause-turns g c = (
  c.send.new.turns,
  spends_writes (g.W.Sink.calls c.args.writer.now) (g.W.Sink.calls c.send.new.writer) (g.R.Source.calls c.args.reader.now) c.args.turns c.send.new.turns
      c.send.ensures.turns,
  λ out. visited.write_turns (g.W.Sink.failures c.args.writer.now) (g.W.Sink.failures c.send.new.writer) c.send.new.turns c.in-Err.halt
      c.in-Err.ensures.halted (sym c.unsent.ensures.error ∙
      visited.same_error c.ended-in-Err.result.end c.unsent.result TooManyTurns (ap (λ (v : Visit). v.end) c.ended-in-Err.ensures) out),
)

-- They were written.

pub loop-closing-init : goal.loop-closing-init
loop-closing-init g c =
    let t = g.T.Sessions in
    record {
      here = c.send.ensures.still_here;
      known = sym c.in-Some.ensures.found;
      flag = c.in-Ok.ensures.closing;
      visited = visited.visited_first (length c.args.buffer.now) g.W.Sink.written g.R.Source.remaining g.R.Source.calls g.R.Source.failures
          c.args.writer.now c.send.new.writer c.args.reader.now t.has_served t.writes t.waiting t.closing c.args.held c.args.sessions.now c.send.new.self
          c.args.client.now c.send.new.client (c.find.ensures.nothing c.args.held) c.send.ensures.sent c.in-Ok.ensures.all c.send.ensures.same_closing;
      room = refl;
      writes = c.in-Ok.ensures.failures;
      reads = refl;
      spends = spends_writes (g.W.Sink.calls c.args.writer.now) (g.W.Sink.calls c.send.new.writer) (g.R.Source.calls c.args.reader.now) c.args.turns
          c.send.new.turns c.send.ensures.turns;
    }

-- The input ended.

pub returns-in-Ok-eq0-clause-served : goal.returns-in-Ok-eq0-clause-served
returns-in-Ok-eq0-clause-served g c =
    let l = c.loop-closing in
    let t = g.T.Sessions in
    let zero : c.in-Ok-eq0.field-0 ≡ 0 = grind arith in
    visited.ended_visit c.read_some.new.into c.ended-in-Ok-eq0.ensures
    (visited.visited_all (length c.args.buffer.now) g.W.Sink.written g.R.Source.remaining g.R.Source.calls g.R.Source.failures c.args.writer.now l.writer
    c.args.reader.now l.reader c.read_some.new.reader (t.has_served c.args.held) (t.has_cut_short c.args.held) t.writes t.waiting t.closing
    c.args.sessions.now l.sessions c.args.client.now l.client Ended l.invariant.visited (c.in-Ok-eq0.ensures.empty zero))

pub returns-in-Ok-eq0-clause-ends : goal.returns-in-Ok-eq0-clause-ends
returns-in-Ok-eq0-clause-ends g c = λ room.
    let l = c.loop-closing in
    let t = g.T.Sessions in
    let zero : c.in-Ok-eq0.field-0 ≡ 0 = grind arith in
    let v = l.invariant.visited in
    let flag : l.closing ≡ false = search rules in
    let is_open = sym l.invariant.flag ∙ flag in
    let before = g.R.Source.remaining c.args.reader.now in
    let after = g.R.Source.remaining c.read_some.new.reader in
    subst (λ (visit : Visit). EndsVisit before after (t.waiting l.sessions l.client) (t.closing l.sessions l.client) visit.end)
    (sym c.ended-in-Ok-eq0.ensures) (
      end_after before (g.R.Source.remaining l.reader) after _
          (all_read (length c.args.buffer.now) g.R.Source.remaining g.R.Source.calls g.R.Source.failures c.args.reader.now l.reader v.pieces v.given)
          (c.in-Ok-eq0.ensures.end (subst (λ n. 0 < n) (sym l.invariant.room) room) zero),
      is_open,
      v.none_waits,
    )

pub returns-in-Ok-eq0-clause-closing : goal.returns-in-Ok-eq0-clause-closing
returns-in-Ok-eq0-clause-closing g c = λ has closed.
    let l = c.loop-closing in
    let flag : l.closing ≡ false = search rules in
    absurd (false≢true (sym flag ∙ l.invariant.flag ∙ (l.invariant.visited.closed closed).1))

pub returns-in-Ok-eq0-clause-turns : goal.returns-in-Ok-eq0-clause-turns
returns-in-Ok-eq0-clause-turns g c =
    let l = c.loop-closing in (
      c.read_some.new.turns,
      spends_both (g.W.Sink.calls c.args.writer.now) (g.W.Sink.calls l.writer) (g.W.Sink.calls l.writer) (g.R.Source.calls c.args.reader.now)
          (g.R.Source.calls l.reader) (g.R.Source.calls c.read_some.new.reader) c.args.turns l.left c.read_some.new.turns c.read_some.new.turns
          l.invariant.spends c.read_some.ensures.turns (spends_nothing (g.W.Sink.calls l.writer) c.read_some.new.turns),
      λ out. absurd (let is = ap (λ (v : Visit). v.end) c.ended-in-Ok-eq0.ensures in cc),
    )

-- A read stopped.

pub returns-in-Err-read_some-clause-served : goal.returns-in-Err-read_some-clause-served
returns-in-Err-read_some-clause-served g c =
    let l = c.loop-closing in
    let t = g.T.Sessions in
    visited.ended_visit c.read_some.new.into
    (visited.ended_by c.ended-in-Err-read_some.result c.unread.result _ c.ended-in-Err-read_some.ensures c.unread.ensures.error)
    (visited.visited_unread (length c.args.buffer.now) g.W.Sink.written g.R.Source.remaining g.R.Source.calls g.R.Source.failures c.args.writer.now l.writer
    c.args.reader.now l.reader c.read_some.new.reader (t.has_served c.args.held) (t.has_cut_short c.args.held) t.writes t.waiting t.closing
    c.args.sessions.now l.sessions c.args.client.now l.client c.in-Err-read_some.halt l.invariant.visited c.in-Err-read_some.ensures.unread)

pub returns-in-Err-read_some-clause-ends : goal.returns-in-Err-read_some-clause-ends
returns-in-Err-read_some-clause-ends g c = λ room.
    let l = c.loop-closing in
    let t = g.T.Sessions in
    let before = g.R.Source.remaining c.args.reader.now in
    let after = g.R.Source.remaining c.read_some.new.reader in
    let waits = t.waiting l.sessions l.client in
    let closing = t.closing l.sessions l.client in
    let flag : l.closing ≡ false = search rules in
    subst (λ (v : Visit). EndsVisit before after waits closing v.end)
    (sym (visited.ended_by c.ended-in-Err-read_some.result c.unread.result _ c.ended-in-Err-read_some.ensures c.unread.ensures.error))
    (visited.ends_read before after waits closing c.in-Err-read_some.halt l.invariant.visited.none_waits
    (sym l.invariant.flag ∙ flag))

pub returns-in-Err-read_some-clause-closing : goal.returns-in-Err-read_some-clause-closing
returns-in-Err-read_some-clause-closing g c = λ has closed.
    let l = c.loop-closing in
    let flag : l.closing ≡ false = search rules in
    absurd (false≢true (sym flag ∙ l.invariant.flag ∙ (l.invariant.visited.closed closed).1))

pub returns-in-Err-read_some-clause-refusal : goal.returns-in-Err-read_some-clause-refusal
returns-in-Err-read_some-clause-refusal g c =
    let l = c.loop-closing in
    let w = g.W.Sink.failures c.args.writer.now in
    let w' = g.W.Sink.failures l.writer in
    let r = g.R.Source.failures c.args.reader.now in
    let r' = g.R.Source.failures c.read_some.new.reader in
    let has = g.T.Sessions.has c.args.sessions.now c.args.client.now in
    subst (λ (v : Visit). IfErr v.end (FailsVisit has w w' r r'))
    (sym (visited.ended_by c.ended-in-Err-read_some.result c.unread.result _ c.ended-in-Err-read_some.ensures c.unread.ensures.error))
    (visited.fails_read has w w' r r' c.read_some.new.turns c.in-Err-read_some.halt
    (subst (λ n. Halts n r' c.read_some.new.turns c.in-Err-read_some.halt) l.invariant.reads c.in-Err-read_some.ensures.halted))

pub returns-in-Err-read_some-clause-write_failures : goal.returns-in-Err-read_some-clause-write_failures
returns-in-Err-read_some-clause-write_failures g c =
    let l = c.loop-closing in
    let w = g.W.Sink.failures c.args.writer.now in
    let w' = g.W.Sink.failures l.writer in
    subst (λ (v : Visit). w' ≡ failures_after (stopped_by is_of_writer v.end) w) (sym c.ended-in-Err-read_some.ensures)
    (subst (λ b. w' ≡ failures_after b w) (sym c.unread.ensures.of_writer) l.invariant.writes)

pub returns-in-Err-read_some-clause-read_failures : goal.returns-in-Err-read_some-clause-read_failures
returns-in-Err-read_some-clause-read_failures g c =
    let l = c.loop-closing in
    let r = g.R.Source.failures c.args.reader.now in
    let r' = g.R.Source.failures c.read_some.new.reader in
    subst (λ (v : Visit). r' ≡ failures_after (stopped_by is_of_reader v.end) r) (sym c.ended-in-Err-read_some.ensures)
    (subst (λ b. r' ≡ failures_after b r) (sym c.unread.ensures.of_reader)
    (subst (λ n. r' ≡ failures_after (has_failed c.in-Err-read_some.halt) n) l.invariant.reads c.in-Err-read_some.ensures.failures))

pub returns-in-Err-read_some-clause-turns : goal.returns-in-Err-read_some-clause-turns
returns-in-Err-read_some-clause-turns g c =
    let l = c.loop-closing in (
      c.read_some.new.turns,
      spends_both (g.W.Sink.calls c.args.writer.now) (g.W.Sink.calls l.writer) (g.W.Sink.calls l.writer) (g.R.Source.calls c.args.reader.now)
          (g.R.Source.calls l.reader) (g.R.Source.calls c.read_some.new.reader) c.args.turns l.left c.read_some.new.turns c.read_some.new.turns
          l.invariant.spends c.read_some.ensures.turns (spends_nothing (g.W.Sink.calls l.writer) c.read_some.new.turns),
      λ out. visited.read_turns (g.R.Source.failures l.reader) (g.R.Source.failures c.read_some.new.reader) c.read_some.new.turns
          c.in-Err-read_some.halt c.in-Err-read_some.ensures.halted (sym c.unread.ensures.error ∙
          visited.same_error c.ended-in-Err-read_some.result.end c.unread.result TooManyTurns
          (ap (λ (v : Visit). v.end) c.ended-in-Err-read_some.ensures) out),
    )

-- A piece was answered in part.

pub returns-in-Err-end-clause-served : goal.returns-in-Err-end-clause-served
returns-in-Err-end-clause-served g c =
    let l = c.loop-closing in
    let t = g.T.Sessions in
    let v = l.invariant.visited in
    let a = c.answer-answered in
    let n = c.in-Ok-read_some.count in
    let into = c.read_some.new.into in
    let e = c.in-Err-end.error in
    let flag : l.closing ≡ false = search rules in
    let is_open = sym l.invariant.flag ∙ flag in
    let some : 0 < n = grind arith in
    let room = l.invariant.room in
    let within : n ≤ length into = c.in-Ok-read_some.ensures.within in
    let size = length-take-le n into within in
    let taken = a.ensures.within in
    let used : a.result.used ≤ n = omega (arith, taken, size) in
    let refusal = subst (λ end. IfErr end (StopsAnswering (g.W.Sink.failures l.writer) (g.W.Sink.failures a.new.writer) a.new.turns)) c.in-Err-end.is
    a.ensures.refusal in
    visited.visited_part (length c.args.buffer.now) g.W.Sink.written g.R.Source.remaining g.R.Source.calls g.R.Source.failures c.args.writer.now l.writer
    a.new.writer c.args.reader.now l.reader c.read_some.new.reader (t.has_served c.args.held) (t.has_cut_short c.args.held) t.writes t.waiting t.closing
    c.args.sessions.now l.sessions a.new.sessions c.args.client.now l.client a.new.client (take n into)
    (rest_in (record { end = Err e; rest = record { start = a.result.used; end = n } }) into) a.result.used (g.W.Sink.failures l.writer)
    (g.W.Sink.failures a.new.writer) a.new.turns e v is_open
    (gives (length c.args.buffer.now) (length l.buffer) g.R.Source.remaining g.R.Source.calls g.R.Source.failures c.args.reader.now l.reader
    c.read_some.new.reader v.pieces (take n into) (omega (arith, room)) v.given (c.in-Ok-read_some.ensures.piece some)) refusal
    (λ out. none_left n a.result.used into (a.ensures.no_memory (c.in-Err-end.is ∙ ap Err out) ∙ size))
    (subst (λ end. Answers {A = Bool} (t.has_served c.args.held) (t.has_cut_short c.args.held) (g.W.Sink.written l.writer) (g.W.Sink.written a.new.writer)
    l.sessions l.client a.new.sessions a.new.client (take a.result.used (take n into)) end) c.in-Err-end.is a.ensures.answered)
    (visited.rest_taken a.result.used n into used)

pub returns-in-Err-end-clause-ends : goal.returns-in-Err-end-clause-ends
returns-in-Err-end-clause-ends g c = λ room.
    let t = g.T.Sessions in
    let l = c.loop-closing in
    let a = c.answer-answered in
    visited.ends_answer (g.R.Source.remaining c.args.reader.now) (g.R.Source.remaining c.read_some.new.reader) (t.waiting a.new.sessions a.new.client)
    (t.closing a.new.sessions a.new.client) (g.W.Sink.failures l.writer) (g.W.Sink.failures a.new.writer) a.new.turns c.in-Err-end.error
    (subst (λ end. IfErr end (StopsAnswering (g.W.Sink.failures l.writer) (g.W.Sink.failures a.new.writer) a.new.turns)) c.in-Err-end.is a.ensures.refusal)
    (subst (λ end. IfErr end (StaysAfter (t.waiting a.new.sessions a.new.client) (t.closing a.new.sessions a.new.client))) c.in-Err-end.is a.ensures.stopped)

pub returns-in-Err-end-clause-whole : goal.returns-in-Err-end-clause-whole
returns-in-Err-end-clause-whole g c = λ all.
    let a = c.answer-answered in
    let n = c.in-Ok-read_some.count in
    let into = c.read_some.new.into in
    none_left n a.result.used into (a.ensures.all all ∙ length-take-le n into c.in-Ok-read_some.ensures.within)

pub returns-in-Err-end-clause-full : goal.returns-in-Err-end-clause-full
returns-in-Err-end-clause-full g c = λ some.
    let l = c.loop-closing in
    let t = g.T.Sessions in
    let a = c.answer-answered in
    let n = c.in-Ok-read_some.count in
    let into = c.read_some.new.into in
    let size = length-take-le n into c.in-Ok-read_some.ensures.within in
    let less = some_left n a.result.used into some in
    visited.stops_overfull (length c.args.buffer.now) g.W.Sink.written g.R.Source.remaining g.R.Source.calls g.R.Source.failures c.args.writer.now l.writer
    a.new.writer c.args.reader.now l.reader (t.has_served c.args.held) (t.takes c.args.held) t.writes t.waiting t.closing c.args.held c.args.sessions.now
    l.sessions a.new.sessions c.args.client.now l.client a.new.client l.invariant.visited (a.ensures.full (omega (arith, less, size)))

pub returns-in-Err-end-clause-closing : goal.returns-in-Err-end-clause-closing
returns-in-Err-end-clause-closing g c = λ has closed.
    let l = c.loop-closing in
    let flag : l.closing ≡ false = search rules in
    absurd (false≢true (sym flag ∙ l.invariant.flag ∙ (l.invariant.visited.closed closed).1))

pub returns-in-Err-end-clause-refusal : goal.returns-in-Err-end-clause-refusal
returns-in-Err-end-clause-refusal g c =
    let l = c.loop-closing in
    let a = c.answer-answered in
    let w' = g.W.Sink.failures a.new.writer in
    visited.fails_answer (g.T.Sessions.has c.args.sessions.now c.args.client.now) (g.W.Sink.failures c.args.writer.now) w'
    (g.R.Source.failures c.args.reader.now) (g.R.Source.failures c.read_some.new.reader) a.new.turns c.in-Err-end.error
    (subst (λ n. StopsAnswering n w' a.new.turns c.in-Err-end.error) l.invariant.writes
    (subst (λ end. IfErr end (StopsAnswering (g.W.Sink.failures l.writer) w' a.new.turns)) c.in-Err-end.is a.ensures.refusal))

pub returns-in-Err-end-clause-turns : goal.returns-in-Err-end-clause-turns
returns-in-Err-end-clause-turns g c =
    let l = c.loop-closing in
    let a = c.answer-answered in (
      a.new.turns,
      spends_both (g.W.Sink.calls c.args.writer.now) (g.W.Sink.calls l.writer) (g.W.Sink.calls a.new.writer) (g.R.Source.calls c.args.reader.now)
          (g.R.Source.calls l.reader) (g.R.Source.calls c.read_some.new.reader) c.args.turns l.left c.read_some.new.turns a.new.turns l.invariant.spends
          c.read_some.ensures.turns a.ensures.turns,
      λ out. visited.answer_turns (g.W.Sink.failures l.writer) (g.W.Sink.failures a.new.writer) a.new.turns c.in-Err-end.error
          (subst (λ end. IfErr end (StopsAnswering (g.W.Sink.failures l.writer) (g.W.Sink.failures a.new.writer) a.new.turns)) c.in-Err-end.is
          a.ensures.refusal)
          (visited.same_error (Err c.in-Err-end.error) c.in-Err-end.error TooManyTurns refl out),
    )

-- A piece was answered.

pub loop-closing-preserved : goal.loop-closing-preserved
loop-closing-preserved g c =
    let l = c.loop-closing in
    let t = g.T.Sessions in
    let v = l.invariant.visited in
    let a = c.answer-answered in
    let n = c.in-Ok-read_some.count in
    let into = c.read_some.new.into in
    let flag : l.closing ≡ false = search rules in
    let is_open = sym l.invariant.flag ∙ flag in
    let some : 0 < n = grind arith in
    let room = l.invariant.room in
    let size = length-take-le n into c.in-Ok-read_some.ensures.within in
    let same : length into ≡ length l.buffer = search rules in
    let whole = subst (λ end. OnOk end (a.result.used ≡ length (take n into))) c.in-Ok-end.is a.ensures.whole in
    record {
      here = a.ensures.still_here;
      known = l.invariant.known;
      flag = subst (λ end. IfOk end (λ closing. closing ≡ t.closing a.new.sessions a.new.client)) c.in-Ok-end.is
          (a.ensures.closing (omega (arith, some, size)));
      visited = visited.visited_more (length c.args.buffer.now) g.W.Sink.written g.R.Source.remaining g.R.Source.calls g.R.Source.failures
          c.args.writer.now l.writer a.new.writer c.args.reader.now l.reader c.read_some.new.reader (t.has_served c.args.held)
          (t.has_cut_short c.args.held) t.writes t.waiting t.closing c.args.sessions.now l.sessions a.new.sessions c.args.client.now l.client a.new.client
          (take n into) c.in-Ok-end.now v is_open
          (gives (length c.args.buffer.now) (length l.buffer) g.R.Source.remaining g.R.Source.calls g.R.Source.failures c.args.reader.now l.reader
          c.read_some.new.reader v.pieces (take n into) (omega (arith, room)) v.given (c.in-Ok-read_some.ensures.piece some))
          (subst (λ p. Answers {A = Bool} (t.has_served c.args.held) (t.has_cut_short c.args.held) (g.W.Sink.written l.writer)
          (g.W.Sink.written a.new.writer) l.sessions l.client a.new.sessions a.new.client p (Ok c.in-Ok-end.now))
          (ap (λ k. take k (take n into)) whole ∙ take_all (length (take n into)) (take n into) (omega arith))
          (subst (λ end. Answers {A = Bool} (t.has_served c.args.held) (t.has_cut_short c.args.held) (g.W.Sink.written l.writer)
          (g.W.Sink.written a.new.writer) l.sessions l.client a.new.sessions a.new.client (take a.result.used (take n into)) end) c.in-Ok-end.is
          a.ensures.answered))
          (subst (λ end. OnOk end (t.waiting a.new.sessions a.new.client ≡ [])) c.in-Ok-end.is a.ensures.written);
      room = same ∙ room;
      writes = subst (λ end. g.W.Sink.failures a.new.writer ≡ failures_after (stopped_by is_of_writer end) (g.W.Sink.failures l.writer)) c.in-Ok-end.is
          a.ensures.failures ∙ l.invariant.writes;
      reads = c.in-Ok-read_some.ensures.failures ∙ l.invariant.reads;
      spends = spends_both (g.W.Sink.calls c.args.writer.now) (g.W.Sink.calls l.writer) (g.W.Sink.calls a.new.writer) (g.R.Source.calls c.args.reader.now)
          (g.R.Source.calls l.reader) (g.R.Source.calls c.read_some.new.reader) c.args.turns l.left c.read_some.new.turns a.new.turns l.invariant.spends
          c.read_some.ensures.turns a.ensures.turns;
    }

-- The client is closing.

pub returns-clause-served : goal.returns-clause-served
returns-clause-served g c =
    let l = c.loop-closing in
    let t = g.T.Sessions in
    visited.ended_visit l.buffer c.ended-2.ensures
    (visited.visited_all (length c.args.buffer.now) g.W.Sink.written g.R.Source.remaining g.R.Source.calls g.R.Source.failures c.args.writer.now l.writer
    c.args.reader.now l.reader l.reader (t.has_served c.args.held) (t.has_cut_short c.args.held) t.writes t.waiting t.closing c.args.sessions.now l.sessions
    c.args.client.now l.client Closed l.invariant.visited refl)

pub returns-clause-ends : goal.returns-clause-ends
returns-clause-ends g c = λ room.
    let l = c.loop-closing in
    let t = g.T.Sessions in
    let flag : l.closing ≡ true = search rules in
    subst (λ (v : Visit). EndsVisit (g.R.Source.remaining c.args.reader.now) (g.R.Source.remaining l.reader) (t.waiting l.sessions l.client)
    (t.closing l.sessions l.client) v.end) (sym c.ended-2.ensures)
    (sym l.invariant.flag ∙ flag, l.invariant.visited.none_waits)

pub returns-clause-closing : goal.returns-clause-closing
returns-clause-closing g c = λ has closed.
    let l = c.loop-closing in
    let v = l.invariant.visited in
    let (reader, still, wrote) = v.closed closed in (
      reader,
      record {
        text = v.text;
        appended = v.appended;
        wrote = wrote;
        no_memory = λ out. absurd (let is = sym (ap (λ (v : Visit). v.end) c.ended-2.ensures) ∙ out in cc);
      },
    )

pub returns-clause-turns : goal.returns-clause-turns
returns-clause-turns g c =
    let l = c.loop-closing in
    (l.left, l.invariant.spends, λ out. absurd (let is = sym (ap (λ (v : Visit). v.end) c.ended-2.ensures) ∙ out in cc))
