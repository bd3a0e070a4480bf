use Rattle.std.proofs.Common.{◌≡◌, ◌-◌, ap, arith, ◌∙◌, length}
use Rattle.std.proofs.lemmas.List.{length-drop}
use Rattle.resp_commands.specs.Keys.{IsAmong}
use Rattle.resp_commands.proofs.Sorted.{has_room, sorted_none, sorted_some}
use Rattle.resp_commands.proofs.keys.sort_place.Goals as goal

pub place_after-requires : goal.place_after-requires
place_after-requires g c =
    let words = g.A.Arguments.words in
    let length_of : length (words c.skip.new.words) ≡ length (words c.args.arguments) - c.args.skipped =
    ap length c.skip.ensures ∙ length-drop c.args.skipped (words c.args.arguments) in
    omega (arith, has_room (words c.skip.new.words) c.in-Some.before c.in-Some.ensures.last.stores, length_of, c.requires)

pub returns-in-Some : goal.returns-in-Some
returns-in-Some g c =
    let words = g.A.Arguments.words in
    sorted_some (words c.args.arguments) (words c.skip.new.words) c.args.skipped c.in-Some.before c.args.count (IsAmong c.place_after.result)
    c.skip.ensures c.requires c.in-Some.ensures.last c.place_after.ensures

pub returns-in-None : goal.returns-in-None
returns-in-None g c =
    let words = g.A.Arguments.words in
    sorted_none (words c.args.arguments) (words c.skip.new.words) c.args.skipped (IsAmong (record { after = 0; last = 0; step = 1 }))
    c.skip.ensures c.in-None.ensures.none (λ place here. absurd (omega (arith, here.above, here.within)))
