use Rattle.std.proofs.Common.{◌≡◌, map, take}
use Rattle.resp_tap.specs.ClientNames.{shown_byte}
use Rattle.resp_tap.proofs.client_name.shown_name.Given as goal

abbrev pub invariant-loop-index : goal.invariant-loop-index
invariant-loop-index l = l.shown.items ≡ map shown_byte (take l.index l.name)
