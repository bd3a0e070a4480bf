use Rattle.std.proofs.Common.{◌+◌, ◌==◌, false, [], refl, subst, sym, ap, ◌∙◌, arith, ◌++◌, ◌∷◌}
use Rattle.std.specs.Map.{lookup}
use Rattle.resp_value.specs.Rules.{rules_under}
use Rattle.resp_value.specs.declared.version.Version.TheVariants.{Two}
use Rattle.resp_server.specs.Reading.{HasReadFront}
use Rattle.resp_server.specs.Hubs.{HubState, Seat, AreSound, seat_at, seats_of}
use Rattle.resp_server.proofs.Seats.{found_last, insert_last, new_seat, none_next, seats-append, sound_append}
use Rattle.resp_server.proofs.hub.Hub.open.Goals as goal

pub invariant_of-self-2 : goal.invariant_of-self-2
invariant_of-self-2 g c =
    let i = c.self.inside in
    let h = c.self.invariant in
    let session = c.new-session.result in
    record {
      stored = h.stored;
      few = omega (arith, c.if-self-ge9223372036854775807.false);
      sound = subst (AreSound i.database.limits (i.last + 1)) (sym
          (c.in_default.ensures.entries ∙ insert_last i.database.limits i.last i.sessions.entries session h.sound))
          (sound_append i.last i.sessions.entries h.sound (record {
            same_id = c.new-session.ensures.id;
            given = omega arith;
            reading = c.new-session.ensures.reading (rules_under Two i.database.limits);
            taking = λ open_now. ([], subst (λ d. HasReadFront d []) (sym c.new-session.ensures.no_decoder) refl);
            idle = record { between = λ taken. c.new-session.ensures.no_decoder; at_end = λ closes. c.new-session.ensures.no_decoder };
          }));
    }

pub returns-clause-opened : goal.returns-clause-opened
returns-clause-opened g c =
    let i = c.self.inside in
    let session = c.new-session.result in
    let seat = new_seat session c.new-session.ensures.version c.new-session.ensures.out c.new-session.ensures.open in
    let opened : Seat = record { version = Two; out = []; closing = false; decoder = session.decoder } in
    let none = none_next i.database.limits i.last i.sessions.entries c.self.invariant.sound in
    let entries = ap seats_of (c.in_default.ensures.entries ∙ insert_last i.database.limits i.last i.sessions.entries session c.self.invariant.sound) ∙
    seats-append i.sessions.entries ((i.last + 1, session) ∷ []) ∙
    ap (λ s. seats_of i.sessions.entries ++ (i.last + 1, s) ∷ []) seat in
    record {
      next = ap (λ (hub : HubState). hub.last + 1) c.self.view_is;
      decoder = session.decoder;
      nothing_taken = subst (λ d. HasReadFront d []) (sym c.new-session.ensures.no_decoder) refl;
      fresh = ap (λ (hub : HubState). seat_at hub (i.last + 1)) (sym c.self.view_is) ∙ none;
      there = ap (λ sessions. lookup (λ other. i.last + 1 == other) sessions) entries ∙
          found_last (i.last + 1) (seats_of i.sessions.entries) none;
      state = ap (λ sessions. record { limits = i.database.limits; sessions = sessions; store = i.database.store; last = i.last + 1 }) entries ∙
          ap (λ (hub : HubState). record hub {
            sessions = hub.sessions ++ (i.last + 1, opened) ∷ [];
            last = i.last + 1;
          }) c.self.view_is;
    }
