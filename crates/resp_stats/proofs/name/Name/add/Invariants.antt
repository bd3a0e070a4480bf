use Rattle.std.proofs.Common.{◌≡◌, ◌-◌, ◌≤◌, ◌++◌, length, map, take}
use Rattle.resp_stats.specs.Names.{name_byte}
use Rattle.resp_stats.proofs.name.Name.add.Given as goal

abbrev pub invariant-loop-byte : goal.invariant-loop-byte
invariant-loop-byte l = record {
  within : l.index ≤ length l.word;
  so_far : l.self.text.items ≡ l.fn.self.text.items ++ map name_byte (take l.index l.word);
}

abbrev pub decreases-loop-byte : goal.decreases-loop-byte
decreases-loop-byte l = length l.word - l.index
