use Rattle.std.proofs.Common.{rules, drop, ◌+◌, subst, sym}
use Rattle.resp_wire.specs.Stops.{StopsQueueing}
use Rattle.resp_wire.proofs.Queueing.{keeps_on, next_request, queues_one, stops_queueing}
use Rattle.resp_wire.proofs.ask.queue.Goals as goal

pub returns-in-Err-clause-refusal : goal.returns-in-Err-clause-refusal
returns-in-Err-clause-refusal c =
    let i = c.loop-index.invariant in
    let requests = c.args.requests.now in
    let index = c.loop-index.index in
    let request = c.index-requests-index.result in
    subst (StopsQueueing c.args.client.now c.queue_one.new.client requests) (sym c.refused.ensures.error)
    (stops_queueing c.args.client.now c.loop-index.client c.queue_one.new.client requests (drop (index + 1) requests) request index c.in-Err.error i.queued
    (next_request requests index request c.index-requests-index.is (search rules)) c.in-Err.ensures.answer c.in-Err.ensures.unchanged)

pub returns-in-Err-clause-same_reading : goal.returns-in-Err-clause-same_reading
returns-in-Err-clause-same_reading c =
    keeps_on c.args.client.now c.loop-index.client c.queue_one.new.client c.loop-index.invariant.same_reading c.queue_one.ensures.same_reading

pub loop-index-preserved : goal.loop-index-preserved
loop-index-preserved c =
    let i = c.loop-index.invariant in
    let requests = c.args.requests.now in
    let index = c.loop-index.index in
    let request = c.index-requests-index.result in
    record {
      queued = queues_one c.args.client.now c.loop-index.client c.queue_one.new.client requests (drop (index + 1) requests) request index i.queued
          (next_request requests index request c.index-requests-index.is (search rules)) c.in_default.ensures.answer.0 c.in_default.ensures.queued;
      same_reading = keeps_on c.args.client.now c.loop-index.client c.queue_one.new.client i.same_reading c.queue_one.ensures.same_reading;
    }
