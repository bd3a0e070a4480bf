use Rattle.std.proofs.Common.{◌++◌, inl, inr, refl, subst}
use Rattle.std.specs.List.{concat}
use Rattle.resp_client.specs.Clients.{state_of}
use Rattle.resp_wire.specs.Hearing.{HearsAll, WaitsBefore}
use Rattle.resp_wire.specs.Stops.{StopsListening}
use Rattle.resp_wire.proofs.Exchanges.{all_sent, no_fault_queued, no_fault_written, queue_takes_no_turn, sends_all, sends_part}
use Rattle.resp_wire.proofs.Queueing.{keeps_on}
use Rattle.resp_wire.proofs.ask.ask_with.Goals as goal
use Rattle.resp_io.proofs.Turning.{spends_no_turns, spends_writes}

pub returns-in-Err-clause-turns : goal.returns-in-Err-clause-turns
returns-in-Err-clause-turns g c = (
  c.args.turns,
  spends_no_turns (g.W.Sink.calls c.args.writer.now) (g.R.Source.calls c.args.reader.now) c.args.turns,
  λ is. absurd (queue_takes_no_turn c.args.client.now c.queue.new.client c.args.requests.now _ c.in-Err.error refl c.in-Err.ensures.refusal is),
)

pub returns-in-Err-clause-refusal : goal.returns-in-Err-clause-refusal
returns-in-Err-clause-refusal g c = inl (record {
  stops = c.in-Err.ensures.refusal;
  same_reading = c.queue.ensures.same_reading;
  nothing_written = refl;
  nothing_read = refl;
  nothing_heard = refl;
})

pub returns-in-Err-clause-fault_is_kept : goal.returns-in-Err-clause-fault_is_kept
returns-in-Err-clause-fault_is_kept g c = no_fault_queued c.args.client.now c.queue.new.client c.args.requests.now c.in-Err.error c.in-Err.ensures.refusal

pub returns-in-Err-send_all-clause-refusal : goal.returns-in-Err-send_all-clause-refusal
returns-in-Err-send_all-clause-refusal g c =
    inr (inl (record {
      sends_part = sends_part c.args.client.now c.queue.new.client c.send_all.new.client c.args.requests.now (g.W.Sink.written c.args.writer.now)
          (g.W.Sink.written c.send_all.new.writer) c.in_default.ensures.all_queued c.send_all.ensures.sent;
      same_reading = keeps_on c.args.client.now c.queue.new.client c.send_all.new.client c.queue.ensures.same_reading
          c.send_all.ensures.same_reading;
      fails = c.in-Err-send_all.ensures.refusal;
      nothing_read = refl;
      nothing_heard = refl;
    }))

pub returns-in-Err-send_all-clause-fault_is_kept : goal.returns-in-Err-send_all-clause-fault_is_kept
returns-in-Err-send_all-clause-fault_is_kept g c =
    no_fault_written c.send_all.new.client (g.W.Sink.failures c.args.writer.now) (g.W.Sink.failures c.send_all.new.writer)
    (state_of c.send_all.new.client).out c.in-Err-send_all.error c.in-Err-send_all.ensures.refusal

pub returns-in-Err-send_all-clause-turns : goal.returns-in-Err-send_all-clause-turns
returns-in-Err-send_all-clause-turns g c = (
  c.send_all.new.turns,
  spends_writes (g.W.Sink.calls c.args.writer.now) (g.W.Sink.calls c.send_all.new.writer) (g.R.Source.calls c.args.reader.now) c.args.turns
      c.send_all.new.turns c.send_all.ensures.turns,
  c.in-Err-send_all.ensures.no_turn_left,
)

pub returns-in-Err-hear_all-clause-refusal : goal.returns-in-Err-hear_all-clause-refusal
returns-in-Err-hear_all-clause-refusal g c =
    let old = c.args.client.now in
    let mid = c.queue.new.client in
    let new = c.send_all.new.client in
    let requests = c.args.requests.now in
    let held = g.W.Sink.written c.args.writer.now in
    let held' = g.W.Sink.written c.send_all.new.writer in
    let q = c.in_default.ensures.all_queued in
    let (pieces, read, heard) = c.in-Err-hear_all.ensures.heard in
    let is = all_sent old mid new requests held held' q c.send_all.ensures.sent c.in_default-send_all.ensures.all in
    inr (inr (record {
      sends_all = sends_all old mid new requests held held' q c.send_all.ensures.sent c.in_default-send_all.ensures.all;
      fails = c.in-Err-hear_all.ensures.refusal;
      came = record {
        pieces = pieces;
        read = read;
        heard = λ front h. subst
            (λ s. StopsListening s c.hear_all.new.client c.args.heard.now c.hear_all.new.heard (front ++ concat pieces) c.in-Err-hear_all.error) is
            (let (_, stops, waits) = heard front
            (c.send_all.ensures.same_reading.same_front front (c.queue.ensures.same_reading.same_front front h)) in stops);
        waits = λ front h. subst (λ s. WaitsBefore s c.args.heard.now front pieces) is
            (let (_, stops, waits) = heard front
            (c.send_all.ensures.same_reading.same_front front (c.queue.ensures.same_reading.same_front front h)) in waits);
      };
    }))

pub returns-clause-sent : goal.returns-clause-sent
returns-clause-sent g c = sends_all c.args.client.now c.queue.new.client c.send_all.new.client c.args.requests.now (g.W.Sink.written c.args.writer.now)
    (g.W.Sink.written c.send_all.new.writer) c.in_default.ensures.all_queued c.send_all.ensures.sent c.in_default-send_all.ensures.all

pub returns-clause-heard : goal.returns-clause-heard
returns-clause-heard g c =
    let (pieces, read, heard) = c.in_default-hear_all.ensures.heard in
    let is = all_sent c.args.client.now c.queue.new.client c.send_all.new.client c.args.requests.now (g.W.Sink.written c.args.writer.now)
    (g.W.Sink.written c.send_all.new.writer) c.in_default.ensures.all_queued c.send_all.ensures.sent c.in_default-send_all.ensures.all in
    record {
      pieces = pieces;
      read = read;
      heard = λ front h. subst (λ s. HearsAll s c.hear_all.new.client c.args.heard.now c.hear_all.new.heard (front ++ concat pieces)) is
          (let (all, _, waits) = heard front
          (c.send_all.ensures.same_reading.same_front front (c.queue.ensures.same_reading.same_front front h)) in all);
      waits = λ front h. subst (λ s. WaitsBefore s c.args.heard.now front pieces) is
          (let (all, _, waits) = heard front
          (c.send_all.ensures.same_reading.same_front front (c.queue.ensures.same_reading.same_front front h)) in waits);
    }
