use Rattle.std.proofs.Common.{◌++◌, Err, take, ◌∙◌}
use Rattle.resp_proxy.specs.Unfinished.{terms_of}
use Rattle.resp_proxy.proofs.Holdings.{held-piece, kept-piece, leaves-after}
use Rattle.resp_proxy.proofs.Refusals.{ended-refused, memory-refused, memory-refused-in}
use Rattle.resp_proxy.proofs.taking.take_piece.Goals as goal

pub returns-in-Err-clause-taken : goal.returns-in-Err-clause-taken
returns-in-Err-clause-taken c ready held h =
    let client = c.args.client.now in
    let taken = c.take_commands-taken in
    held-piece c.args.intake.now client (record {
      route = client.route;
      unfinished = taken.new.unfinished;
      rest = client.rest;
      is_closing = client.is_closing;
      is_leaving = client.is_leaving;
      name = taken.new.name;
    }) client.route held c.args.piece.now taken.result.used taken.new.unfinished _ taken.result.end (Err c.in-Err.error) c.args.board.now taken.new.board c.requires ready h
    taken.ensures.taken (λ after begun. tt)
    (λ after refused. ended-refused taken.result.end (terms_of c.args.intake.now) c.in-Err.error after c.args.piece.now taken.result.used c.in-Err.is
    taken.ensures.whole refused)

pub returns-in-Err-keep-clause-taken : goal.returns-in-Err-keep-clause-taken
returns-in-Err-keep-clause-taken c ready held h =
    let client = c.args.client.now in
    let taken = c.take_commands-taken in
    held-piece c.args.intake.now client c.keep.new.client client.route held c.args.piece.now taken.result.used taken.new.unfinished _ taken.result.end
    (Err c.in-Err-keep.error) c.args.board.now taken.new.board c.requires ready h taken.ensures.taken (λ after begun. tt)
    (λ after refused. memory-refused (terms_of c.args.intake.now) _ c.in-Err-keep.error c.in-Err-keep.ensures.memory)

pub returns-clause-taken : goal.returns-clause-taken
returns-clause-taken c ready held h =
    let f = c.args.intake.now in
    let client = c.args.client.now in
    let taken = c.take_commands-taken in
    held-piece f client c.put_back.new.client client.route held c.args.piece.now taken.result.used taken.new.unfinished _ taken.result.end c.put_back.result
    c.args.board.now taken.new.board c.requires ready h taken.ensures.taken
    (λ after left. kept-piece taken.result.end c.put_back.result c.in_default.field-0 _ (terms_of f) client c.keep.new.client c.put_back.new.client
    taken.new.unfinished after c.args.piece.now taken.result.used c.in_default.is c.requires c.keep.ensures.same_unfinished c.in_default-keep.ensures.kept
    c.put_back.ensures.put left)
    (λ after refused. memory-refused-in c.put_back.result (terms_of f) _ c.put_back.ensures.memory)

pub returns-clause-leaves : goal.returns-clause-leaves
returns-clause-leaves c ready held h stays =
    let taken = c.take_commands-taken in
    leaves-after c.put_back.result taken.result.end c.in_default.field-0 _ (terms_of c.args.intake.now) c.keep.new.client c.put_back.new.client taken.new.unfinished
    c.args.client.now.route (h.front ++ take taken.result.used c.args.piece.now) c.args.board.now taken.new.board c.in_default.is
    (taken.ensures.taken ready h.front h.begun) c.keep.ensures.same_unfinished (c.keep.ensures.same_leaving ∙ stays) c.put_back.ensures.put
