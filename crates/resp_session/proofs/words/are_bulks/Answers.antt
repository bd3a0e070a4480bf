use Rattle.resp_session.proofs.BulkMembers.{other_member}
use Rattle.resp_session.proofs.words.are_bulks.Goals as goal

pub returns-in_default : goal.returns-in_default
returns-in_default c = other_member c.args.members.now c.loop-member.member-index c.member-item.result
    c.loop-member-test.true c.member-item.is c.in_default.not-Bulk
