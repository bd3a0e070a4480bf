use Rattle.std.proofs.Common.{Err, ap, length, refl, take}
use Rattle.resp_wire.proofs.HubSessions.{cut_where, given_known, given_uses, lost_closing, lost_known, session_cuts, session_gives}
use Rattle.resp_wire.proofs.hub_sessions.HubSessionsU64.give.Goals as goal

pub returns-in-Ok-clause-still_here : goal.returns-in-Ok-clause-still_here
returns-in-Ok-clause-still_here g c =
    given_known c.args.self.now c.bytes_within.new.self c.args.client.now (take c.in-Ok.taken.used c.args.piece.now) c.in-Ok.taken.commands c.requires.here
    c.requires.is_open c.in-Ok.ensures.answered

pub returns-in-Ok-clause-taken : goal.returns-in-Ok-clause-taken
returns-in-Ok-clause-taken g c = record {
  same_id = refl;
  commands = c.in-Ok.taken.commands;
  answered = c.in-Ok.ensures.answered;
  bounded = c.bytes_within.ensures.bounded;
}

pub returns-in-Ok-clause-served : goal.returns-in-Ok-clause-served
returns-in-Ok-clause-served g c =
    session_gives c.answers_go_on.ensures c.answers_are_added.ensures c.args.held c.args.self.now c.bytes_within.new.self c.args.client.now
    (take c.in-Ok.taken.used c.args.piece.now) c.in-Ok.taken.commands c.requires.here c.requires.is_open c.requires.none_waits
    c.in-Ok.ensures.answered c.bytes_within.ensures.bounded

pub returns-in-Ok-clause-within : goal.returns-in-Ok-clause-within
returns-in-Ok-clause-within g c =
    given_uses c.args.self.now c.bytes_within.new.self c.args.client.now c.args.held (length c.args.piece.now) c.in-Ok.taken.used
    (take c.in-Ok.taken.used c.args.piece.now) c.in-Ok.taken.commands c.requires.here c.requires.is_open c.requires.none_waits
    c.in-Ok.ensures.answered c.in-Ok.ensures.within

pub returns-in-Err-clause-still_here : goal.returns-in-Err-clause-still_here
returns-in-Err-clause-still_here g c =
    lost_known c.args.self.now c.bytes_within.new.self c.args.client.now c.args.piece.now c.requires.here c.requires.is_open
    (cut_where c.args.self.now c.bytes_within.new.self c.args.client.now c.args.piece.now c.in-Err.field-0 c.requires.here
    (λ is. c.in-Err.ensures.none (ap Err is)) c.in-Err.ensures.cut_short)

pub returns-in-Err-clause-cut_short : goal.returns-in-Err-clause-cut_short
returns-in-Err-clause-cut_short g c =
    session_cuts c.answers_go_on.ensures c.answers_are_added.ensures c.args.held c.args.self.now c.bytes_within.new.self c.args.client.now
    c.args.piece.now c.requires.here c.requires.is_open c.requires.none_waits
    (cut_where c.args.self.now c.bytes_within.new.self c.args.client.now c.args.piece.now c.in-Err.field-0 c.requires.here
    (λ is. c.in-Err.ensures.none (ap Err is)) c.in-Err.ensures.cut_short) c.bytes_within.ensures.bounded

pub returns-in-Err-clause-closed : goal.returns-in-Err-clause-closed
returns-in-Err-clause-closed g c =
    lost_closing c.args.self.now c.bytes_within.new.self c.args.client.now c.args.piece.now c.requires.here c.requires.is_open
    (cut_where c.args.self.now c.bytes_within.new.self c.args.client.now c.args.piece.now c.in-Err.field-0 c.requires.here
    (λ is. c.in-Err.ensures.none (ap Err is)) c.in-Err.ensures.cut_short)
