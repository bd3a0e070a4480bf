use Rattle.std.proofs.Common.{take}
use Rattle.std.specs.List.{AllByRecursion}
use Rattle.resp_session.specs.Bulks.{IsBulk}
use Rattle.resp_session.proofs.words.are_bulks.Given as goal

abbrev pub invariant-loop-member : goal.invariant-loop-member
invariant-loop-member l = AllByRecursion IsBulk (take l.member-index l.members)
