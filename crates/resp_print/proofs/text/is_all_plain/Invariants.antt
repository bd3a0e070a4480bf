use Rattle.std.proofs.Common.{◌≡◌, true, take}
use Rattle.resp_print.specs.Shown.{quoted_text}
use Rattle.resp_print.proofs.text.is_all_plain.Given as goal

abbrev pub invariant-loop-byte : goal.invariant-loop-byte
invariant-loop-byte l = l.is_plain_so_far ≡ true → quoted_text (take l.byte-index l.text) ≡ take l.byte-index l.text
