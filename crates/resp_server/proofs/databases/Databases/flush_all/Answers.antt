use Rattle.std.proofs.Common.{◌≡◌, ◌+◌, ◌≤◌, suc, [], length, refl, ap, sym, ◌∙◌, arith}
use Rattle.std.specs.Prelude.{List, set}
use Rattle.resp_session.specs.Stores.{Store}
use Rattle.resp_server.specs.Servers.{ServerState, stores_in}
use Rattle.resp_server.proofs.Lists.{emptied, emptied_all, emptied_more, stores_count}
use Rattle.resp_server.proofs.databases.Databases.flush_all.Goals as goal

pub loop-index-init : goal.loop-index-init
loop-index-init g c = refl

pub loop-index-preserved : goal.loop-index-preserved
loop-index-preserved g c =
    let one : c.loop-index.index + 1 ≡ suc c.loop-index.index = omega arith in
    let old = c.args.self.now in
    c.flush.ensures ∙ ap (λ (v : ServerState). record v { stores = set v.stores c.loop-index.index [] }) c.loop-index.invariant ∙
    ap (λ (s : List Store). record old { stores = s }) (emptied_more c.loop-index.index old.stores ∙ ap (λ n. emptied n old.stores) (sym one))

pub returns : goal.returns
returns g c =
    let old = c.args.self.now in
    let databases = c.self.inside.list.items in
    let size = stores_count databases in
    let same : length (stores_in databases) ≡ length old.stores = ap (λ (v : ServerState). length v.stores) c.self.view_is in
    let count = c.len-count.ensures in
    let below : c.len-count.result ≤ c.loop-index.index = c.loop-index-test.false in
    let within : c.loop-index.index ≤ c.len-count.result = c.loop-index.auto.index-end in
    let items = c.self.inside.list.ok.0 in
    let all : c.loop-index.index ≡ length old.stores = omega (arith, size, same, count, items, below, within) in
    c.loop-index.invariant ∙ ap (λ (s : List Store). record old { stores = s }) (ap (λ n. emptied n old.stores) all ∙ emptied_all old.stores)
