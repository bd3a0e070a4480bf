use Rattle.std.proofs.lemmas.Result.{on_err_weaker, on_ok_weaker}
use Rattle.std.proofs.Common.{refl}
use Rattle.resp_server.proofs.Doings.{done_of_client, of_others}
use Rattle.resp_server.proofs.databases.Databases.perform.Goals as goal

pub returns-in_default : goal.returns-in_default
returns-in_default g c =
    let d = c.in_default in
    let of = of_others c.args.deed d.not-Exists d.not-DbSize d.not-FlushDb d.not-FlushAll in
    record {
      done = on_ok_weaker c.change.result (done_of_client c.args.deed of c.args.self.now c.args.client.now c.change.new.client)
          (c.change.ensures.done of);
      failed = on_err_weaker c.change.result (λ same. record { state = refl; client = same }) c.change.ensures.failed;
      same_begun = c.change.ensures.same_begun;
    }
