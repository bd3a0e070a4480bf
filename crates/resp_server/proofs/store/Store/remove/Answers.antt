use Rattle.std.proofs.Common.{◌≡◌, ◌∷◌, [], List, ℕ, length, sym, ap, refl, ◌∙◌, arith}
use Rattle.resp_session.specs.Stores.{store_without}
use Rattle.resp_server.specs.Words.{words_left}
use Rattle.resp_server.proofs.StoreEntries.{without_first, without_none}
use Rattle.resp_server.proofs.store.Store.remove.Goals as goal

none_left : (words : List (List ℕ)) → length words ≡ 0 → words ≡ []
none_left [] none = refl
none_left (word ∷ words) none = absurd (omega (arith, none))

pub loop-preserved : goal.loop-preserved
loop-preserved g c =
    let left = words_left c.next.new.self in
    let first = ap length c.in-Some.ensures.steps in
    let same = c.loop.invariant in
    record {
      left = ap (λ store. store_without store left) c.remove_key-removed.ensures.removed ∙ sym (without_first c.loop.self c.in-Some.key.now left) ∙
          ap (store_without c.loop.self) (sym c.in-Some.ensures.steps) ∙ same.left;
      taken = omega (arith, first, same.taken);
      count = omega (arith, same.count, c.remove_key-removed.ensures.count);
      few = omega (arith, same.few, c.remove_key-removed.ensures.at_most_one);
    }

pub returns-clause-removed : goal.returns-clause-removed
returns-clause-removed g c =
    let same = c.loop.invariant in
    let none = none_left (words_left c.loop.keys) (omega (arith, same.taken, c.loop-test.false, c.len-end.ensures)) in
    sym (without_none c.loop.self) ∙ ap (store_without c.loop.self) (sym none) ∙ same.left
