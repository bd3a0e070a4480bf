use Rattle.std.proofs.Common.{refl, ap}
use Rattle.std.specs.Option.{option_map}
use Rattle.resp_server.specs.Hubs.{Seat}
use Rattle.resp_server.proofs.Seats.{seat_changed, seat_is, sound_with}
use Rattle.resp_server.proofs.Sending.{written_out}
use Rattle.resp_io.proofs.Turning.{spends_nothing}
use Rattle.resp_server.proofs.hub.Hub.write_out.Goals as goal

pub returns-in_default-clause-none : goal.returns-in_default-clause-none
returns-in_default-clause-none g c = seat_is _ _ _ _ c.args.self.now c.self.view_is c.args.id c.in_default.ensures.value

pub returns-in_default-clause-turns : goal.returns-in_default-clause-turns
returns-in_default-clause-turns g c = spends_nothing (g.W.Sink.calls c.args.writer.now) c.args.turns.now

pub invariant_of-self-2 : goal.invariant_of-self-2
invariant_of-self-2 g c = sound_with c.self.invariant c.args.id (c.get_mut.follows.holds _).0 c.in-Some.ensures.value
    (record { same_id = refl; same_decoder = refl; same_closing = refl })

pub returns-clause-sent : goal.returns-clause-sent
returns-clause-sent g c = (written_out _ _ _ _ c.self.view_is c.args.id _ (c.get_mut.follows.holds _).0 c.in-Some.ensures.value c.as_slice.ensures
    c.write_text-written.result _ _ refl c.advance.ensures.items refl refl c.write_text-written.ensures.appended c.write_text-written.ensures.whole
    c.write_text-written.ensures.part).0

pub returns-clause-closing : goal.returns-clause-closing
returns-clause-closing g c =
    let i = c.self.inside in
    ap (option_map (λ (s : Seat). s.closing)) (seat_changed i.database.limits i.sessions.entries i.database.store i.last c.args.id _
    (c.get_mut.follows.holds _).0 c.in-Some.ensures.value)

pub returns-clause-part : goal.returns-clause-part
returns-clause-part g c = (written_out _ _ _ _ c.self.view_is c.args.id _ (c.get_mut.follows.holds _).0 c.in-Some.ensures.value c.as_slice.ensures
    c.write_text-written.result _ _ refl c.advance.ensures.items refl refl c.write_text-written.ensures.appended c.write_text-written.ensures.whole
    c.write_text-written.ensures.part).1
