use Rattle.std.proofs.Common.{◌≡◌, ◌+◌, ◌≤◌, length}
use Rattle.resp_session.specs.Stores.{store_without}
use Rattle.resp_server.specs.Words.{words_left}
use Rattle.resp_server.proofs.store.Store.remove.Given as goal

abbrev pub invariant-loop : goal.invariant-loop
invariant-loop g l = record {
  left : store_without l.self (words_left l.keys) ≡ store_without l.fn.self (words_left l.fn.keys);
  taken : l.counter + length (words_left l.keys) ≡ length (words_left l.fn.keys);
  count : l.removed + length l.self ≡ length l.fn.self;
  few : l.removed ≤ l.counter;
}
