use Rattle.std.proofs.Common.{◌≡◌, ◌≤◌, ◌*◌, length, take}
use Rattle.resp_print.specs.Shown.{quoted_text}
use Rattle.resp_print.proofs.quote.quote_block.Given as goal

abbrev pub invariant-loop-byte : goal.invariant-loop-byte
invariant-loop-byte l = (l.at ≤ 4 * l.byte-index) × (length l.quoted ≡ 256) × (take l.at l.quoted ≡ quoted_text (take l.byte-index l.block))
