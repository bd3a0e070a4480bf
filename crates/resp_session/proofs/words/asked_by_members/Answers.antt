use Rattle.std.proofs.Common.{sym, ap, subst}
use Rattle.std.specs.List.{AllByRecursion}
use Rattle.resp_session.specs.Bulks.{IsBulk}
use Rattle.resp_session.specs.Commands.{array_meaning}
use Rattle.resp_session.proofs.BulkMembers.{contents_of_bulks}
use Rattle.resp_session.proofs.words.asked_by_members.Goals as goal

pub returns-then-are_bulks-clause-meaning : goal.returns-then-are_bulks-clause-meaning
returns-then-are_bulks-clause-meaning c = sym (ap array_meaning
    (contents_of_bulks c.args.members.items (subst (AllByRecursion IsBulk) c.as_slice.ensures.value c.if-are_bulks.ensures)))
