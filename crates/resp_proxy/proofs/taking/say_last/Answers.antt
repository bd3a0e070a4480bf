use Rattle.std.proofs.Common.{Some, subst, sym}
use Rattle.resp_proxy.proofs.Holdings.{said-last}
use Rattle.resp_proxy.specs.Taking.{IsLastAnswer}
use Rattle.resp_proxy.proofs.taking.say_last.Goals as goal

pub returns-in-Some-clause-said : goal.returns-in-Some-clause-said
returns-in-Some-clause-said c =
    said-last c.own.result c.args.route c.args.error c.deref.result.now c.args.board.now c.own.new.board
    (subst (λ t. IsLastAnswer c.args.route.version c.args.error (Some t)) (sym c.deref.ensures.value) (c.in-Some.ensures c.args.route.version))
    c.own.ensures.run c.own.ensures.unchanged
