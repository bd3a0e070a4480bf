use Rattle.std.proofs.Common.{◌≡◌, ◌+◌, ◌-◌, ◌++◌, None, length, replicate, ap, ◌∙◌, arith}
use Rattle.std.proofs.lemmas.Grind.{common_steps}
use Rattle.resp_board.proofs.Places.{put_there}
use Rattle.resp_board.proofs.early.put.Goals as goal

pub returns-in-Some-clause-put : goal.returns-in-Some-clause-put
returns-in-Some-clause-put c =
    let old = c.args.early.now.items in
    let count = c.saturating_sub-missing.result in
    let number : count ≡ c.args.place + 1 - length old = grind (arith, common_steps) in
    put_there old c.add_missing.new.early.items count c.args.place _ c.args.text.now
    (c.add_missing.ensures ∙ ap (λ xs. xs ++ replicate count None) c.reserve.ensures.items) number c.in_ok-bytes.ensures.items
