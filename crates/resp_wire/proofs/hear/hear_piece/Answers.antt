use Rattle.std.proofs.Common.{rules, subst, sym}
use Rattle.resp_client.specs.Clients.{state_of}
use Rattle.resp_wire.specs.Stops.{KeepsFault}
use Rattle.resp_wire.proofs.Listening.{client_stops, hears_more, hears_none_more, hears_nothing, hears_whole, keeps_fault, stops_hearing}
use Rattle.resp_wire.proofs.hear.hear_piece.Goals as goal

pub loop-rest-init : goal.loop-rest-init
loop-rest-init c = λ front h. hears_nothing c.args.client.now c.args.heard.now front c.args.piece.now h

pub loop-rest-preserved : goal.loop-rest-preserved
loop-rest-preserved c = λ front h.
    let w = c.loop-rest.invariant front h in
    let rest = c.loop-rest.rest.now in
    hears_more c.readings_go_on.ensures c.hearing_goes_on.ensures (state_of c.args.client.now) c.loop-rest.client c.feed.new.self c.args.heard.now
    c.loop-rest.heard c.add.new.self front c.args.piece.now rest _ c.in-Ok.given.used c.in-Ok.given.what w
    (c.in-Ok.ensures.heard w.hears.rest w.hears.takes) c.in-Ok.ensures.only_replies_answer (search rules) (search rules)

pub returns-clause-heard : goal.returns-clause-heard
returns-clause-heard c = λ front h.
    hears_whole (state_of c.args.client.now) c.loop-rest.client c.args.heard.now c.loop-rest.heard front c.args.piece.now c.loop-rest.rest.now
    (c.loop-rest.invariant front h) (search rules)

pub returns-in-Err-clause-refusal : goal.returns-in-Err-clause-refusal
returns-in-Err-clause-refusal c = λ front h.
    let w = c.loop-rest.invariant front h in
    stops_hearing (state_of c.args.client.now) c.loop-rest.client c.feed.new.self c.args.heard.now c.loop-rest.heard front c.args.piece.now c.loop-rest.rest.now
    c.in-Err.fault c.stop.result c.stop.ensures.error w (c.in-Err.ensures.refusal w.hears.rest w.hears.takes)
    c.in-Err.ensures.only_replies_answer

pub returns-then-is_err-clause-refusal : goal.returns-then-is_err-clause-refusal
returns-then-is_err-clause-refusal c = λ front h.
    let w = c.loop-rest.invariant front h in
    hears_none_more (state_of c.args.client.now) c.loop-rest.client c.args.heard.now c.loop-rest.heard c.add.new.self front c.args.piece.now
    c.loop-rest.rest.now w (search rules) (search rules)

pub returns-in-Err-clause-fault_or_memory : goal.returns-in-Err-clause-fault_or_memory
returns-in-Err-clause-fault_or_memory c = client_stops c.in-Err.fault c.stop.result c.stop.ensures.error

pub returns-in-Err-clause-fault_is_kept : goal.returns-in-Err-clause-fault_is_kept
returns-in-Err-clause-fault_is_kept c =
    subst (KeepsFault c.feed.new.self) (sym c.stop.ensures.error) (keeps_fault c.feed.new.self c.in-Err.fault c.in-Err.ensures.fault_is_kept)
