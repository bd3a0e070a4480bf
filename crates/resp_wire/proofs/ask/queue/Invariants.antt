use Rattle.resp_client.specs.Hearing.{KeepsReading}
use Rattle.resp_wire.specs.Stops.{QueuesFirst}
use Rattle.resp_wire.proofs.ask.queue.Given as goal

abbrev pub invariant-loop-index : goal.invariant-loop-index
invariant-loop-index l = record {
  queued : QueuesFirst l.fn.client l.client l.fn.requests l.index;
  same_reading : KeepsReading l.fn.client l.client;
}
