use Rattle.std.proofs.Common.{◌≡◌, [], ◌∷◌, ◌++◌, map, sym, ap, ◌∙◌}
use Rattle.resp_value.specs.Data.{in_turn}
use Rattle.resp_value.specs.Values.{datum_of, pair_data}
use Rattle.resp_decode.specs.Holding.{key_data}
use Rattle.resp_decode.proofs.HeldLemmas.{pair_more}
use Rattle.resp_decode.proofs.group.Pairs.end_pair.Goals as goal

pub returns-in_ok-append-in-Some : goal.returns-in_ok-append-in-Some
returns-in_ok-append-in-Some c = λ waits.
    let old = c.args.self.now in
    let none : key_data c.take.new.self ≡ [] = ap key_data c.take.ensures.after in
    let some : key_data old.key ≡ datum_of c.in-Some.key ∷ [] = ap key_data (sym c.take.ensures.value ∙ c.in-Some.is) in
    ap (λ z. in_turn (map pair_data c.append.new.list.items) ++ z) none
    ∙ pair_more old.whole.items c.append.new.list.items c.in-Some.key c.args.value c.in_ok-append-in-Some.ensures
    ∙ ap (λ z. (in_turn (map pair_data old.whole.items) ++ z) ++ datum_of c.args.value ∷ []) (sym some)
