use Rattle.std.proofs.Common.{◌≡◌, ◌-◌, drop, length}
use Rattle.resp_proxy.specs.OwnReplies.{is_client_name}
use Rattle.resp_proxy.proofs.answer.is_client_name.Given as goal

-- all bytes may be in a name if the other bytes may be
abbrev pub invariant-loop-index : goal.invariant-loop-index
invariant-loop-index l = is_client_name l.name ≡ is_client_name (drop l.index l.name)

abbrev pub decreases-loop-index : goal.decreases-loop-index
decreases-loop-index l = length l.name - l.index
