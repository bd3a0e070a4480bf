use Rattle.std.proofs.Common.{◌++◌}
use Rattle.resp_proxy.specs.Unfinished.{terms_of}
use Rattle.resp_proxy.specs.declared.error.ClientError.TheVariants as error
use Rattle.resp_proxy.proofs.Holdings.{more-held, nothing-taken, still-leaves}
use Rattle.resp_proxy.proofs.taking.take_held.Goals as goal

pub returns-then-client-clause-taken : goal.returns-then-client-clause-taken
returns-then-client-clause-taken c ready held h =
    nothing-taken (terms_of c.args.intake.now) c.args.client.now.route (held ++ c.args.piece.now) c.args.client.now error.Closing c.args.board.now tt

pub returns-then-is_none-clause-taken : goal.returns-then-is_none-clause-taken
returns-then-is_none-clause-taken c ready held h =
    nothing-taken (terms_of c.args.intake.now) c.args.client.now.route (held ++ c.args.piece.now) c.args.client.now error.NoClient c.args.board.now tt

pub returns-then-client-2-clause-taken : goal.returns-then-client-2-clause-taken
returns-then-client-2-clause-taken c ready held h =
    more-held c.keep.result (terms_of c.args.intake.now) c.args.client.now c.keep.new.client c.args.client.now.route held c.args.piece.now c.args.board.now
    c.keep.ensures.kept c.keep.ensures.memory c.keep.ensures.same_unfinished h

pub returns-then-client-2-clause-leaves : goal.returns-then-client-2-clause-leaves
returns-then-client-2-clause-leaves c ready held h l =
    still-leaves c.keep.result (terms_of c.args.intake.now) c.args.client.now c.keep.new.client c.args.piece.now c.keep.ensures.kept
    c.keep.ensures.same_unfinished c.keep.ensures.same_leaving l

pub returns-then-is_empty-clause-leaves : goal.returns-then-is_empty-clause-leaves
returns-then-is_empty-clause-leaves c ready held h l = c.take_piece.ensures.leaves ready held h c.if-client-2.false

pub returns-else-is_empty-clause-leaves : goal.returns-else-is_empty-clause-leaves
returns-else-is_empty-clause-leaves c ready held h l = c.take_rest.ensures.leaves ready held h c.if-client-2.false
