use Rattle.std.proofs.Common.{◌≡◌, Some, refl, subst}
use Rattle.std.specs.Prelude.{set, slice_get}
use Rattle.std.proofs.lemmas.Option.{slice_get_read}
use Rattle.std.proofs.lemmas.Result.{on_err_weaker, on_ok_weaker}
use Rattle.resp_session.specs.Operations.{operation_of}
use Rattle.resp_server.specs.Deeds.{Request}
use Rattle.resp_server.specs.Doing.{HasDone}
use Rattle.resp_server.specs.Servers.{ServerState, stores_in}
use Rattle.resp_server.proofs.Doings.{done_there, undone_there}
use Rattle.resp_server.proofs.databases.Databases.pass.Goals as goal

pub returns-clause-done : goal.returns-clause-done
returns-clause-done g c =
    let i = c.self.inside in
    let place = c.args.client.now.database in
    let d = c.in-Some.database.now in
    let there : slice_get i.list.items place ≡ Some d = slice_get_read i.list.items i.list.len place d i.list.ok.0 (c.in-Some.ensures.variant.0 refl)
    c.in-Some.ensures.value in
    let request = operation_of c.args.name.now c.args.arguments in
    let after = record c.args.client.now { version = c.run.new.version; out = c.run.new.out; small = c.client-1.given.0 } in
    let server : ServerState = record { limits = i.limits; stores = stores_in (set i.list.items place c.run.new.self); last = i.last } in
    on_ok_weaker c.run.result
    (λ has. subst (λ (v : ServerState). HasDone (Request request) v server c.args.client.now after) c.self.view_is
    (done_there i.limits i.list.items i.last d c.run.new.self c.args.client.now after request there has refl))
    c.run.ensures.runs.done

pub returns-clause-failed : goal.returns-clause-failed
returns-clause-failed g c =
    let i = c.self.inside in
    let place = c.args.client.now.database in
    let d = c.in-Some.database.now in
    let there : slice_get i.list.items place ≡ Some d = slice_get_read i.list.items i.list.len place d i.list.ok.0 (c.in-Some.ensures.variant.0 refl)
    c.in-Some.ensures.value in
    let after = record c.args.client.now { version = c.run.new.version; out = c.run.new.out; small = c.client-1.given.0 } in
    on_err_weaker c.run.result
    (λ kept. undone_there i.limits i.list.items i.last c.args.self.now d c.run.new.self c.args.client.now after c.self.view_is there kept refl)
    c.run.ensures.runs.unchanged
