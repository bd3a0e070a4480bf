use Rattle.std.proofs.Common.{◌≡◌, ◌≤◌, ◌++◌, ℕ, List, length}
use Rattle.resp_scan.specs.Kinds.{rules_of}
use Rattle.resp_cli_stream.specs.Begun.{HavePassed}
use Rattle.resp_cli_stream.proofs.starts.Starts.pass.Given as goal

abbrev pub invariant-loop-self : goal.invariant-loop-self
invariant-loop-self l = record {
  done : List ℕ;
  split : l.piece ≡ done ++ l.rest;
  stands : (bytes : List ℕ) → HavePassed l.initial.self bytes → HavePassed l.self (bytes ++ done);
  same_rules : rules_of l.self.scanner ≡ rules_of l.initial.self.scanner;
  at_most : l.initial.self.values ≤ l.most → l.self.values ≤ l.most;
}

abbrev pub decreases-loop-self : goal.decreases-loop-self
decreases-loop-self l = length l.rest
