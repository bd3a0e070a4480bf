use Rattle.std.proofs.Common.{◌≡◌, ◌+◌, ◌-◌, ◌≤◌, ◌++◌}
use Rattle.resp_server.specs.Names.{shown_word}
use Rattle.resp_server.proofs.databases.reply.append_shown.Given as goal

abbrev pub invariant-loop : goal.invariant-loop
invariant-loop l = record {
  shown : l.fn.out.items ++ shown_word 128 l.fn.word ≡ l.out.items ++ shown_word (128 - l.counter) l.rest;
  spare : l.fn.out.spare ≤ l.out.spare + l.counter;
}
