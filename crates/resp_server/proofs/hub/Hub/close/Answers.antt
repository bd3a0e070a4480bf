use Rattle.std.proofs.Common.{refl, subst, sym, ap, ◌∙◌}
use Rattle.resp_server.specs.Hubs.{HubState, AreSound, seats_of, without_seat}
use Rattle.resp_server.proofs.Seats.{seat_is, seat_is_there, seats-remove, sound_remove}
use Rattle.resp_server.proofs.hub.Hub.close.Goals as goal

pub returns-in_default-clause-none : goal.returns-in_default-clause-none
returns-in_default-clause-none g c = seat_is _ _ _ _ c.args.self.now c.self.view_is c.args.id c.in_default.ensures.value

pub invariant_of-self-2 : goal.invariant_of-self-2
invariant_of-self-2 g c =
    let i = c.self.inside in
    record {
      stored = c.self.invariant.stored;
      few = c.self.invariant.few;
      sound = subst (AreSound i.database.limits i.last) (sym c.in-Some.ensures.entries)
          (sound_remove i.database.limits i.last i.sessions.entries c.args.id c.self.invariant.sound);
    }

pub returns-clause-closed : goal.returns-clause-closed
returns-clause-closed g c =
    let i = c.self.inside in
    ap (λ sessions. record { limits = i.database.limits; sessions = sessions; store = i.database.store; last = i.last })
    (ap seats_of c.in-Some.ensures.entries ∙ seats-remove i.sessions.entries c.args.id) ∙
    ap (λ (hub : HubState). record hub { sessions = without_seat hub.sessions c.args.id }) c.self.view_is

pub returns-clause-some : goal.returns-clause-some
returns-clause-some g c = seat_is_there _ _ _ _ c.self.view_is c.args.id c.in-Some.ensures.value

pub returns-clause-gone : goal.returns-clause-gone
returns-clause-gone g c =
    let i = c.self.inside in
    seat_is i.database.limits c.remove.new.self.entries i.database.store i.last _ refl c.args.id (sym c.in-Some.ensures.updates.1)
