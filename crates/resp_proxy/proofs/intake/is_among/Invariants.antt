use Rattle.std.proofs.Common.{drop}
use Rattle.resp_proxy.specs.Terms.{IsAmong}
use Rattle.resp_value.specs.Words.{texts_of}
use Rattle.resp_proxy.proofs.intake.is_among.Given as goal

-- the name is among the other names, if it is among all
abbrev pub invariant-loop-other : goal.invariant-loop-other
invariant-loop-other l = IsAmong (texts_of l.names) l.name → IsAmong (texts_of (drop l.other-index l.names)) l.name
