use Rattle.std.proofs.Common.{◌≡◌, ◌&&◌, ◌<◌, ◌≤◌, nat_le, true, false, length, ap, sym, ◌∙◌, arith}
use Rattle.std.proofs.lemmas.Bool.{le-leb, lt-leb}
use Rattle.resp_json.specs.Json.{are_names}
use Rattle.resp_json.proofs.Names.{length-pair_keys, pair_keys}
use Rattle.resp_json.proofs.pairs.is_object.Goals as goal

pub returns-then-pairs-le-MOST_MEMBERS : goal.returns-then-pairs-le-MOST_MEMBERS
returns-then-pairs-le-MOST_MEMBERS c =
    let ps = c.args.pairs.now in
    let few : length ps ≤ 512 = omega (arith, c.if-pairs-le-MOST_MEMBERS.true) in
    let within : nat_le (length (pair_keys ps)) 512 ≡ true = ap (λ n. nat_le n 512) (length-pair_keys ps) ∙ le-leb (length ps) 512 few in
    c.are_names.ensures ∙ sym (ap (λ b. b && are_names (pair_keys ps)) within)

pub returns-else-pairs-le-MOST_MEMBERS : goal.returns-else-pairs-le-MOST_MEMBERS
returns-else-pairs-le-MOST_MEMBERS c =
    let ps = c.args.pairs.now in
    let many : 512 < length ps = omega (arith, c.if-pairs-le-MOST_MEMBERS.false) in
    let beyond : nat_le (length ps) 512 ≡ false = lt-leb (length ps) 512 many in
    beyond ∙ sym (ap (λ n. nat_le n 512 && are_names (pair_keys ps)) (length-pair_keys ps) ∙ ap (λ b. b && are_names (pair_keys ps)) beyond)
