use Rattle.std.proofs.Common.{◌≤◌, length, drop, refl, ap}
use Rattle.resp_server.specs.Hubs.{Seat}
use Rattle.resp_server.proofs.Seats.{seat_is, seated_is, if_seated, sound_with, seat_is_there}
use Rattle.resp_server.proofs.hub.Hub.sent.Goals as goal

pub returns-in_default-clause-none : goal.returns-in_default-clause-none
returns-in_default-clause-none g c = seat_is _ _ _ _ c.args.self.now c.self.view_is c.args.id c.in_default.ensures.value

pub advance-requires : goal.advance-requires
advance-requires g c =
    if_seated _ _ _ _ c.self.view_is c.args.id c.in-Some.ensures.value (λ (s : Seat). c.args.count ≤ length s.out)
    c.requires

pub invariant_of-self-2 : goal.invariant_of-self-2
invariant_of-self-2 g c = sound_with c.self.invariant c.args.id (c.get_mut.follows.holds _).0 c.in-Some.ensures.value
    (record { same_id = refl; same_decoder = refl; same_closing = refl })

pub returns-clause-dropped : goal.returns-clause-dropped
returns-clause-dropped g c =
    seated_is _ _ _ _ c.self.view_is c.args.id _ (c.get_mut.follows.holds _).0 c.in-Some.ensures.value
    (λ (s : Seat). record s { out = drop c.args.count s.out }) (ap (λ items. record {
      version = c.in-Some.session.now.version;
      out = items;
      closing = c.in-Some.session.now.closing;
      decoder = c.in-Some.session.now.decoder;
    }) c.advance.ensures.items)

pub returns-clause-some : goal.returns-clause-some
returns-clause-some g c = seat_is_there _ _ _ _ c.self.view_is c.args.id c.in-Some.ensures.value
