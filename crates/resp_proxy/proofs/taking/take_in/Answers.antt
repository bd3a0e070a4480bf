use Rattle.std.proofs.Common.{◌∙◌, ◌++◌, subst, sym}
use Rattle.resp_proxy.proofs.Holdings.{shut-taken}
use Rattle.resp_proxy.specs.Clients.{route_of}
use Rattle.resp_proxy.specs.Taking.{SaysLast, TakesIn}
use Rattle.resp_proxy.specs.Unfinished.{terms_of}
use Rattle.resp_proxy.proofs.taking.take_in.Goals as goal

pub returns-in-Err-clause-taken : goal.returns-in-Err-clause-taken
returns-in-Err-clause-taken c ready held h =
    let terms = terms_of c.args.intake.now in
    let mid = c.take_held-taken.new.board in
    let new = c.say_last.new.board in
    subst (λ result. TakesIn terms (route_of c.args.client.now) (held ++ c.args.piece.now) c.shut.new.client result c.args.board.now new) (sym c.in-Err.is)
    (shut-taken terms c.args.client.now.route (held ++ c.args.piece.now) c.take_held-taken.new.client c.shut.new.client c.in-Err.error c.args.board.now mid new
    (c.in-Err.ensures.taken ready held h)
    (subst (λ route. SaysLast route c.in-Err.error mid new) (c.shut.ensures.same_client ∙ c.take_held-taken.ensures.same_client) c.say_last.ensures.said)
    (c.shut.ensures.nothing terms) c.shut.ensures.closing)
