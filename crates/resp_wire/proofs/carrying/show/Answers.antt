use Rattle.std.proofs.Common.{rules, ◌≡◌, ◌++◌, length, take, sym, subst, ap, ◌∙◌}
use Rattle.resp_client.specs.Clients.{state_of}
use Rattle.resp_wire.specs.Carrying.{MeetsFault, StopsCarrying, cause_of}
use Rattle.resp_wire.specs.Stops.{StopsListening}
use Rattle.resp_wire.proofs.Showing.{if_there, stops_showing, waits_there}
use Rattle.resp_wire.proofs.carrying.show.Goals as goal

pub returns-in-Err-Fault-clause-refusal : goal.returns-in-Err-Fault-clause-refusal
returns-in-Err-Fault-clause-refusal g c honest =
    let old = c.args.hub.now in
    let id = c.args.id in
    let client = state_of c.args.client.now in
    let count = length c.args.room.now in
    let carried = c.in_default-carry.ensures.carried honest in
    let same : c.carry.new.into ≡ take count c.in-Ok.out.now = search (rules, carried) in
    let e = c.in-Err-Fault.field-0 in
    let failures = g.L.Link.failures c.args.link.now in
    let failures' = g.L.Link.failures c.carry.new.self in
    if_there old id _ (λ s here front taken.
    subst (StopsCarrying (MeetsFault client c.args.heard.now c.hear_piece.new.heard front s.out) failures failures') (ap cause_of c.in-Err-Fault.field-0-is)
    (stops_showing client c.hear_piece.new.client c.args.heard.now c.hear_piece.new.heard front s.out count failures failures' e
    c.in-Err-Fault.ensures.fault_or_memory
    (subst (λ z. StopsListening client c.hear_piece.new.client c.args.heard.now c.hear_piece.new.heard (front ++ z) e)
    (same ∙ ap (take count) (sym (waits_there old id s c.in-Ok.out.now here c.in-Ok.ensures.waiting))) (c.in-Err-Fault.ensures.refusal front taken))))
