use Rattle.std.specs.Prelude.{◌≡◌}
use Rattle.resp_client.specs.Clients.{state_of}
use Rattle.resp_client.specs.Hearing.{WhereTaken}
use Rattle.resp_cli_ask.proofs.Receiving.{TellsUpTo}
use Rattle.resp_cli_ask.proofs.hear.tell_piece.Given as goal

abbrev pub invariant-loop-turn : goal.invariant-loop-turn
invariant-loop-turn g l = record {
  told : WhereTaken l.fn.client (λ front. TellsUpTo l.fn.telling l.telling (state_of l.fn.client) l.client (g.O.Sink.written l.fn.output)
      (g.O.Sink.written l.output) front l.fn.piece l.rest l.turn);
  none_failed : g.O.Sink.failures l.output ≡ g.O.Sink.failures l.fn.output;
}
