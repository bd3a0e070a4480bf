use Rattle.std.proofs.Common.{◌≡◌, ◌+◌, ◌∷◌, [], ℕ, length, sym, ap, ◌∙◌, arith}
use Rattle.std.specs.Str.{bytes_eq}
use Rattle.resp_session.specs.Stores.{store_without}
use Rattle.resp_server.proofs.StoreEntries.{Bytes}
use Rattle.resp_server.proofs.StorePlaces.{none_gone, not_found}
use Rattle.resp_server.proofs.store.Store.remove_key.Goals as goal

pub returns-in_default-clause-removed : goal.returns-in_default-clause-removed
returns-in_default-clause-removed g c =
    let i = c.self.inside in
    let key = c.args.key.now in
    sym c.self.view_is ∙ none_gone c.self.invariant.in_place key
    (not_found (λ (k : Bytes). bytes_eq key k.items) i.rows.entries c.in_default.ensures.found) ∙
    ap (λ es. store_without es (key ∷ [])) c.self.view_is

pub returns-clause-removed : goal.returns-clause-removed
returns-clause-removed g c =
    let key = c.args.key.now in
    c.close_up.ensures.same ∙ c.remove_row.ensures.removed key (sym c.in-Some.ensures.index) ∙ ap (λ es. store_without es (key ∷ [])) c.self.view_is

one_more : (n : ℕ) → 1 + n ≡ n + 1
one_more n = omega arith

pub returns-clause-count : goal.returns-clause-count
returns-clause-count g c =
    one_more _ ∙ ap (λ es. length es + 1) c.close_up.ensures.same ∙ c.remove_row.ensures.count ∙ ap length c.self.view_is
