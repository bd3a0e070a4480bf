use Rattle.std.proofs.Common.{◌≡◌, ◌++◌, ◌+◌, ◌-◌, ◌≤◌, ℕ, List, length, take}
use Rattle.resp_server.specs.Answering.{IsAnswered, IsReading}
use Rattle.resp_server.specs.Reading.{HasReadFront}
use Rattle.resp_server.proofs.answer.answer.Given as goal

abbrev pub invariant-loop-used : goal.invariant-loop-used
invariant-loop-used g l = record {
  answered : (front : List ℕ) → HasReadFront l.fn.session.decoder front →
      IsAnswered l.fn.database.limits l.fn.database.store l.database.store l.fn.session l.session (front ++ take l.used l.piece) l.commands;
  same_limits : l.database.limits ≡ l.fn.database.limits;
  same_id : l.session.id ≡ l.fn.session.id;
  ready : IsReading l.fn.database.limits l.database.store l.session;
  within : l.used ≤ length l.piece;
  few : l.commands ≤ l.used;
  bounded : length l.fn.session.out.items ≤ l.held + l.fn.database.limits.total →
      length l.session.out.items ≤ l.held + l.fn.database.limits.total;
  first : l.used ≡ 0 → length l.session.out.items ≤ length l.fn.session.out.items;
}

abbrev pub decreases-loop-used : goal.decreases-loop-used
decreases-loop-used g l = length l.piece - l.used
