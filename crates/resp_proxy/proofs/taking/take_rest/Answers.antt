use Rattle.std.proofs.Common.{◌∙◌, ◌++◌, Err, ap, drop, sym, take}
use Rattle.resp_proxy.specs.Unfinished.{terms_of}
use Rattle.resp_proxy.proofs.Holdings.{holds-put-ok, leaves-rest, nothing-taken, rest-taken}
use Rattle.resp_proxy.proofs.Refusals.{ended-refused, memory-refused, memory-refused-in}
use Rattle.resp_proxy.proofs.taking.take_rest.Goals as goal

pub returns-in-Err-clause-taken : goal.returns-in-Err-clause-taken
returns-in-Err-clause-taken c ready held h =
    nothing-taken (terms_of c.args.intake.now) c.args.client.now.route (held ++ c.args.piece.now) c.keep.new.client c.in-Err.error c.args.board.now
    (memory-refused (terms_of c.args.intake.now) (held ++ c.args.piece.now) c.in-Err.error c.in-Err.ensures.memory)

pub returns-in-Err-end-clause-taken : goal.returns-in-Err-end-clause-taken
returns-in-Err-end-clause-taken c ready held h =
    let taken = c.take_commands-taken in
    rest-taken c.args.intake.now c.args.client.now c.keep.new.client c.remove.new.client c.remove.new.client held c.args.piece.now c.as_slice.result.now
    taken.result.used taken.new.unfinished _ taken.result.end (Err c.in-Err-end.error) c.args.board.now taken.new.board
    (c.as_slice.ensures ∙ c.in_default.ensures.kept) c.keep.ensures.same_unfinished c.keep.ensures.same_client ready h taken.ensures.taken
    c.remove.ensures.same_unfinished (c.remove.ensures.rest ∙ ap (drop taken.result.used) (sym c.as_slice.ensures)) (λ after left items. tt)
    (λ after refused. ended-refused taken.result.end (terms_of c.args.intake.now) c.in-Err-end.error after c.as_slice.result.now taken.result.used c.in-Err-end.is
    taken.ensures.whole refused)

pub returns-clause-taken : goal.returns-clause-taken
returns-clause-taken c ready held h =
    let taken = c.take_commands-taken in
    rest-taken c.args.intake.now c.args.client.now c.keep.new.client c.remove.new.client c.put_back.new.client held c.args.piece.now c.as_slice.result.now
    taken.result.used taken.new.unfinished _ taken.result.end c.put_back.result c.args.board.now taken.new.board
    (c.as_slice.ensures ∙ c.in_default.ensures.kept) c.keep.ensures.same_unfinished c.keep.ensures.same_client ready h taken.ensures.taken
    c.remove.ensures.same_unfinished (c.remove.ensures.rest ∙ ap (drop taken.result.used) (sym c.as_slice.ensures))
    (λ after left items. holds-put-ok taken.result.end c.put_back.result c.in_default-end.field-0 _ (terms_of c.args.intake.now) c.remove.new.client
    c.put_back.new.client taken.new.unfinished after _ c.in_default-end.is c.remove.ensures.same_unfinished items c.put_back.ensures.put left)
    (λ after refused. memory-refused-in c.put_back.result (terms_of c.args.intake.now) _ c.put_back.ensures.memory)

pub returns-clause-leaves : goal.returns-clause-leaves
returns-clause-leaves c ready held h stays =
    let taken = c.take_commands-taken in
    leaves-rest c.put_back.result taken.result.end c.in_default-end.field-0 _ c.args.intake.now c.args.client.now c.keep.new.client c.remove.new.client
    c.put_back.new.client held (take taken.result.used c.as_slice.result.now) taken.new.unfinished c.args.board.now taken.new.board c.keep.ensures.same_unfinished
    ready h c.in_default-end.is taken.ensures.taken c.remove.ensures.same_unfinished
    (c.remove.ensures.same_leaving ∙ c.keep.ensures.same_leaving ∙ stays) c.put_back.ensures.put
