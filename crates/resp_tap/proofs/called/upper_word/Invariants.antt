use Rattle.std.proofs.Common.{◌≡◌, map, take}
use Rattle.std.specs.Char.{to_ascii_uppercase}
use Rattle.resp_tap.proofs.called.upper_word.Given as goal

abbrev pub invariant-loop-index : goal.invariant-loop-index
invariant-loop-index l = l.name.items ≡ map to_ascii_uppercase (take l.index l.word)
