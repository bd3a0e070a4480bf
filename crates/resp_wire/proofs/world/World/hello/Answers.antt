use Rattle.std.proofs.Common.{refl}
use Rattle.resp_session.specs.Requests.{Hello}
use Rattle.resp_session.specs.Worlds.{Greet}
use Rattle.resp_wire.proofs.worlds.Moves.{ok_of}
use Rattle.resp_wire.proofs.worlds.Performed.{from_inside, of_request}
use Rattle.resp_wire.proofs.world.World.hello.Goals as goal

pub returns : goal.returns
returns g c = from_inside _ _ _ c.args.number _ _ _ _ _ c.self.view_is c.requires (
    of_request _ _ _ c.readings_stay.ensures c.what_has_come_was_sent.ensures.was_sent c.what_has_come_was_sent.ensures.stays
    c.a_change_is_of_one_connection.ensures _ c.args.number (λ n. Greet n c.args.asked) (Hello c.args.asked)
    c.index_mut.result.now c.hello.new.self c.hello.result ((λ limits connection n cause. (λ r. r, λ r. r)), (λ world n. (refl, refl)))
    (λ n. ok_of c.hello.result _ (λ outcome is possible. tt)) (λ i is. absurd (cc))
    (λ outcome. refl) c.index_mut.ensures.value c.hello.ensures.takes c.hello.ensures.memory c.hello.ensures.may_be_sent)
