use Rattle.std.proofs.Common.{◌≡◌, ◌∷◌, ◌<◌, arith}
use Rattle.std.proofs.lemmas.Grind.{common_steps}
use Rattle.resp_board.proofs.Begun.{begun_next}
use Rattle.resp_board.proofs.begin.begin.Goals as goal

pub loop-left-preserved : goal.loop-left-preserved
loop-left-preserved c =
    let l = c.loop-left in
    let first : l.unbegun.items ≡ c.in-Some.length ∷ c.pop_front.new.self.items = grind (arith, common_steps) in
    let some : l.left < l.rest = grind (arith, common_steps) in
    begun_next c.args.count c.args.unbegun.now.items c.args.left.now l.rest l.unbegun.items l.left c.pop_front.new.self.items c.in-Some.length some first
    l.invariant
