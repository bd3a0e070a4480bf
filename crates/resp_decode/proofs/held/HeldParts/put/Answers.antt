use Rattle.std.proofs.Common.{◌≡◌, length, refl, arith, vec_len}
use Rattle.resp_value.specs.Values.{datum_of}
use Rattle.resp_decode.specs.Holding.{construction_of}
use Rattle.resp_decode.proofs.HeldLemmas.{group_put}
use Rattle.resp_decode.proofs.held.HeldParts.put.Goals as goal

pub returns-in_ok-add-in-Some-clause-holds : goal.returns-in_ok-add-in-Some-clause-holds
returns-in_ok-add-in-Some-clause-holds c =
    let old = c.args.self.now in
    let size : vec_len old.groups ≡ length old.groups.items = omega (arith, old.groups.ok.0) in
    group_put old.groups.items (vec_len old.groups) c.in-Some.group.now c.add.new.self (datum_of c.args.value) (construction_of old) size
    (c.in-Some.ensures.variant.0 refl) c.in-Some.ensures.value c.in_ok-add-in-Some.ensures
