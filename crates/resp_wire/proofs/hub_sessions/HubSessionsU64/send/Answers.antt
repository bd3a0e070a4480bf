use Rattle.std.proofs.Common.{◌<◌, [], length, subst, sym}
use Rattle.std.specs.Prelude.{OnErr, OnOk}
use Rattle.resp_server.specs.Sending.{HasSent, HasSentPart}
use Rattle.resp_wire.proofs.HubSessions.{known_sent, sent_closing, sent_waits, session_sends}
use Rattle.resp_wire.proofs.hub_sessions.HubSessionsU64.send.Goals as goal

pub returns-in-Ok-end-clause-still_here : goal.returns-in-Ok-end-clause-still_here
returns-in-Ok-end-clause-still_here g c =
    let old = c.args.self.now in
    let new = c.write_out.new.self in
    let id = c.args.client.now in
    let w = g.W.Sink.written c.args.writer.now in
    let w' = g.W.Sink.written c.write_out.new.writer in
    let sent = subst (λ e. OnOk e (HasSent old new id w w' [])) c.in-Ok-end.is c.in-Ok.ensures.sent in
    known_sent old new id w w' [] c.requires.here sent

pub returns-in-Ok-end-clause-sent : goal.returns-in-Ok-end-clause-sent
returns-in-Ok-end-clause-sent g c =
    let old = c.args.self.now in
    let new = c.write_out.new.self in
    let id = c.args.client.now in
    let w = g.W.Sink.written c.args.writer.now in
    let w' = g.W.Sink.written c.write_out.new.writer in
    session_sends old new id w w' [] (subst (λ e. OnOk e (HasSent old new id w w' [])) c.in-Ok-end.is c.in-Ok.ensures.sent)

pub returns-in-Ok-end-clause-all : goal.returns-in-Ok-end-clause-all
returns-in-Ok-end-clause-all g c =
    let old = c.args.self.now in
    let new = c.write_out.new.self in
    let id = c.args.client.now in
    let w = g.W.Sink.written c.args.writer.now in
    let w' = g.W.Sink.written c.write_out.new.writer in
    sent_waits old new id w w' [] (subst (λ e. OnOk e (HasSent old new id w w' [])) c.in-Ok-end.is c.in-Ok.ensures.sent)

pub returns-in-Ok-end-clause-same_closing : goal.returns-in-Ok-end-clause-same_closing
returns-in-Ok-end-clause-same_closing g c =
    let old = c.args.self.now in
    let new = c.write_out.new.self in
    let id = c.args.client.now in
    let w = g.W.Sink.written c.args.writer.now in
    let w' = g.W.Sink.written c.write_out.new.writer in
    sent_closing old new id w w' [] (subst (λ e. OnOk e (HasSent old new id w w' [])) c.in-Ok-end.is c.in-Ok.ensures.sent)

pub returns-in-Err-clause-still_here : goal.returns-in-Err-clause-still_here
returns-in-Err-clause-still_here g c =
    let old = c.args.self.now in
    let new = c.write_out.new.self in
    let id = c.args.client.now in
    let w = g.W.Sink.written c.args.writer.now in
    let w' = g.W.Sink.written c.write_out.new.writer in
    let (waits, some, sent) = subst (λ e. OnErr e (HasSentPart old new id w w')) c.in-Err.is c.in-Ok.ensures.part in
    known_sent old new id w w' waits c.requires.here sent

pub returns-in-Err-clause-sent : goal.returns-in-Err-clause-sent
returns-in-Err-clause-sent g c =
    let old = c.args.self.now in
    let new = c.write_out.new.self in
    let id = c.args.client.now in
    let w = g.W.Sink.written c.args.writer.now in
    let w' = g.W.Sink.written c.write_out.new.writer in
    let (waits, some, sent) = subst (λ e. OnErr e (HasSentPart old new id w w')) c.in-Err.is c.in-Ok.ensures.part in
    session_sends old new id w w' waits sent

pub returns-in-Err-clause-part : goal.returns-in-Err-clause-part
returns-in-Err-clause-part g c =
    let old = c.args.self.now in
    let new = c.write_out.new.self in
    let id = c.args.client.now in
    let w = g.W.Sink.written c.args.writer.now in
    let w' = g.W.Sink.written c.write_out.new.writer in
    let (waits, some, sent) = subst (λ e. OnErr e (HasSentPart old new id w w')) c.in-Err.is c.in-Ok.ensures.part in
    subst (λ l. 0 < length l) (sym (sent_waits old new id w w' waits sent)) some

pub returns-in-Err-clause-same_closing : goal.returns-in-Err-clause-same_closing
returns-in-Err-clause-same_closing g c =
    let old = c.args.self.now in
    let new = c.write_out.new.self in
    let id = c.args.client.now in
    let w = g.W.Sink.written c.args.writer.now in
    let w' = g.W.Sink.written c.write_out.new.writer in
    let (waits, some, sent) = subst (λ e. OnErr e (HasSentPart old new id w w')) c.in-Err.is c.in-Ok.ensures.part in
    sent_closing old new id w w' waits sent
