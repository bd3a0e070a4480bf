use Rattle.std.proofs.Common.{◌∙◌, ◌+◌, length, length-drop, drop, ap, arith}
use Rattle.resp_commands.proofs.Migrated.{has_room, no_list, with_list, without_list}
use Rattle.resp_commands.proofs.keys.migrate_places.Goals as goal

pub returns-in_default : goal.returns-in_default
returns-in_default g c =
    let words = g.A.Arguments.words in
    without_list (words c.args.arguments) (words c.skip.new.words) c.args.skipped c.min.result
    (c.skip.ensures ∙ ap (drop c.args.skipped) c.again-options.ensures) (omega (arith, c.min.ensures, c.requires)) (omega (arith, c.min.ensures))
    (λ long. omega (arith, c.min.ensures, c.requires, long)) c.in_default.ensures.none

pub returns-then-not-is_third_empty : goal.returns-then-not-is_third_empty
returns-then-not-is_third_empty g c =
    let words = g.A.Arguments.words in
    no_list (words c.args.arguments) (words c.skip.new.words) c.args.skipped c.in-Some.before
    (c.skip.ensures ∙ ap (drop c.args.skipped) c.again-options.ensures) c.in-Some.ensures.found c.if-not-is_third_empty.ensures

pub overflow_add-result : goal.overflow_add-result
overflow_add-result g c =
    let words = g.A.Arguments.words in
    let long = ap length (c.skip.ensures ∙ ap (drop c.args.skipped) c.again-options.ensures) ∙ length-drop c.args.skipped (words c.args.arguments) in
    omega (arith, long, has_room (words c.skip.new.words) c.in-Some.before c.in-Some.ensures.found, c.requires, c.from.ensures, c.ranges.count.fits)

pub overflow_add-result-2 : goal.overflow_add-result-2
overflow_add-result-2 g c =
    let words = g.A.Arguments.words in
    let long = ap length (c.skip.ensures ∙ ap (drop c.args.skipped) c.again-options.ensures) ∙ length-drop c.args.skipped (words c.args.arguments) in
    omega (arith, long, has_room (words c.skip.new.words) c.in-Some.before c.in-Some.ensures.found, c.requires, c.from.ensures, c.ranges.count.fits)

pub returns : goal.returns
returns g c =
    let words = g.A.Arguments.words in
    with_list (words c.args.arguments) (words c.skip.new.words) c.args.skipped c.in-Some.before (c.from.result + c.in-Some.before + 1) c.args.count
    (c.skip.ensures ∙ ap (drop c.args.skipped) c.again-options.ensures) (omega (arith, c.from.ensures)) c.requires
    c.in-Some.ensures.found c.if-not-is_third_empty.ensures
