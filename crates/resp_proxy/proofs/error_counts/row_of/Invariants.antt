use Rattle.std.proofs.Common.{◌≡◌, take}
use Rattle.resp_proxy.proofs.error_counts.row_of.Given as goal

abbrev pub invariant-loop-byte : goal.invariant-loop-byte
invariant-loop-byte l = l.copy.items ≡ take l.byte-index l.word
