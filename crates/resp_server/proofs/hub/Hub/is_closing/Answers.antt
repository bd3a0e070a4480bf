use Rattle.std.proofs.Common.{ap}
use Rattle.std.specs.Option.{option_map}
use Rattle.resp_server.specs.Hubs.{Seat}
use Rattle.resp_server.proofs.AnsweredHubs.{found_seat, hub_waits, if_none}
use Rattle.resp_server.proofs.Seats.{seat_is, sound_at}
use Rattle.resp_server.proofs.hub.Hub.is_closing.Goals as goal

pub returns-in_default-clause-none : goal.returns-in_default-clause-none
returns-in_default-clause-none g c = seat_is _ _ _ _ c.args.self.now c.self.view_is c.args.id c.in_default.ensures.value

pub returns-in_default-clause-taking : goal.returns-in_default-clause-taking
returns-in_default-clause-taking g c =
    if_none _ (seat_is _ _ _ _ c.args.self.now c.self.view_is c.args.id c.in_default.ensures.value)

pub returns-in_default-clause-waiting : goal.returns-in_default-clause-waiting
returns-in_default-clause-waiting g c =
    if_none _ (seat_is _ _ _ _ c.args.self.now c.self.view_is c.args.id c.in_default.ensures.value)

pub returns-clause-closing : goal.returns-clause-closing
returns-clause-closing g c =
    ap (option_map (λ (s : Seat). s.closing)) (seat_is _ _ _ _ c.args.self.now c.self.view_is c.args.id
    c.in-Some.ensures.value)

pub returns-clause-taking : goal.returns-clause-taking
returns-clause-taking g c =
    let i = c.self.inside in
    found_seat _ _ _ _ c.self.view_is c.args.id c.in-Some.ensures.value _
    (sound_at i.sessions.entries c.in-Some.ensures.value c.self.invariant.sound).taking

pub returns-clause-waiting : goal.returns-clause-waiting
returns-clause-waiting g c =
    hub_waits _ _ _ _ c.self.view_is c.args.id c.in-Some.ensures.value c.taken-taken.ensures.no_value
    c.taken-taken.ensures.viable

pub taken-taken-requires : goal.taken-taken-requires
taken-taken-requires g c =
    let i = c.self.inside in record {
      reading = (sound_at i.sessions.entries c.in-Some.ensures.value c.self.invariant.sound).reading;
    }
