use Rattle.std.proofs.Common.{◌≡◌, ◌++◌, codes, map, take}
use Rattle.resp_proxy.specs.OwnReplies.{on_line}
use Rattle.resp_proxy.proofs.answer.one_line.Given as goal

-- a minus and the bytes of the message so far
abbrev pub invariant-loop-byte : goal.invariant-loop-byte
invariant-loop-byte l = l.line.items ≡ codes "-" ++ map on_line (take l.byte-index l.message)
