use Rattle.std.proofs.Common.{◌≡◌, ◌<◌, ◌≤◌, ℕ, List, length}
use Rattle.resp_io.specs.Turns.{Spends, WereRead}
use Rattle.resp_wire.proofs.link.tcp.receive.Given as goal

abbrev pub invariant-loop-count : goal.invariant-loop-count
invariant-loop-count g l = record {
  within : l.count ≤ length l.into;
  room : length l.into ≡ length l.fn.into;
  spends : Spends (g.R.Source.calls l.fn.to) (g.R.Source.calls l.to) l.fn.turns l.turns;
  onward : 0 < l.count → l.turns < l.fn.turns;
  read : (came : List ℕ) × WereRead (g.R.Source.remaining l.fn.to) (g.R.Source.remaining l.to) came;
  none_failed : g.R.Source.failures l.to ≡ g.R.Source.failures l.fn.to;
}

abbrev pub decreases-loop-count : goal.decreases-loop-count
decreases-loop-count g l = l.turns
