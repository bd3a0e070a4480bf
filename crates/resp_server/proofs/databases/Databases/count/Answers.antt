use Rattle.std.proofs.Common.{◌≡◌, ◌≤◌, ◌++◌, false, [], length, refl, sym, ap, subst, ◌∙◌}
use Rattle.std.specs.Prelude.{is_some}
use Rattle.std.proofs.Math.Dec.{ltb}
use Rattle.std.proofs.lemmas.Bool.{ltb-false}
use Rattle.std.proofs.lemmas.Option.{slice_get_past}
use Rattle.std.proofs.lemmas.Result.{on_ok_weaker}
use Rattle.resp_value.specs.Canonical.{canonical_text}
use Rattle.resp_session.specs.Replies.{natural}
use Rattle.resp_server.specs.Outcomes.{keys_in, store_of}
use Rattle.resp_server.specs.Doing.{standing_of}
use Rattle.resp_server.specs.Servers.{ServerState}
use Rattle.resp_server.proofs.Lists.{no_keys, no_store}
use Rattle.resp_server.proofs.databases.Databases.count.Goals as goal

pub returns-in-None-clause-done : goal.returns-in-None-clause-done
returns-in-None-clause-done g c =
    let before = c.args.client.now in
    let databases = c.self.inside.list.items in
    let none' : false ≡ ltb before.database (length c.deref.result.now) = sym (ap is_some c.in-None.is) ∙ c.get.ensures.lookup.0 in
    let past : length databases ≤ before.database =
    subst (λ l. length l ≤ before.database) c.deref.ensures.value (ltb-false before.database (length c.deref.result.now) (sym none')) in
    let store : store_of c.args.self.now.stores (standing_of before) ≡ [] =
    ap (λ (v : ServerState). store_of v.stores (standing_of before)) (sym c.self.view_is) ∙
    no_store databases (standing_of before) (slice_get_past databases before.database past) in
    let none : keys_in (store_of c.args.self.now.stores (standing_of before)) c.args.keys ≡ [] = ap (λ s. keys_in s c.args.keys) store ∙ no_keys c.args.keys in
    on_ok_weaker c.number.result
    (λ appended. record {
      state = refl;
      client = refl;
      replied = appended ∙ ap (λ l. before.out.items ++ canonical_text before.version (natural (length l))) (sym none);
    }) c.number.ensures.appended
