use Rattle.std.proofs.Common.{◌&&◌, ap, sym, ◌∙◌}
use Rattle.resp_json.specs.Json.{are_names}
use Rattle.resp_json.proofs.Names.{first_name, pair_keys}
use Rattle.resp_json.proofs.pairs.are_names.Goals as goal

pub returns-then-not-is_new_name : goal.returns-then-not-is_new_name
returns-then-not-is_new_name c =
    let rest = c.loop-pair.rest.now in
    let beyond = c.in-Some.beyond.now in
    let again = first_name rest c.in-Some.pair.now beyond c.is_new_name.result c.in-Some.ensures.cases.0 c.is_new_name.ensures in
    sym (c.loop-pair.invariant ∙ again ∙ ap (λ b. b && are_names (pair_keys beyond)) c.if-not-is_new_name.true)

pub loop-pair-preserved : goal.loop-pair-preserved
loop-pair-preserved c =
    let rest = c.loop-pair.rest.now in
    let beyond = c.in-Some.beyond.now in
    let again = first_name rest c.in-Some.pair.now beyond c.is_new_name.result c.in-Some.ensures.cases.0 c.is_new_name.ensures in
    c.loop-pair.invariant ∙ again ∙ ap (λ b. b && are_names (pair_keys beyond)) c.if-not-is_new_name.false
