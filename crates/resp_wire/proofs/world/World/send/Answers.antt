use Rattle.std.proofs.Common.{refl}
use Rattle.resp_value.specs.Commands.{words_of}
use Rattle.resp_session.specs.Requests.{Command}
use Rattle.resp_session.specs.Worlds.{Send}
use Rattle.resp_wire.proofs.worlds.Performed.{from_inside, of_request}
use Rattle.resp_wire.proofs.world.World.send.Goals as goal

pub returns : goal.returns
returns g c = from_inside _ _ _ c.args.number _ _ _ _ _ c.self.view_is c.requires (
    of_request _ _ _ c.readings_stay.ensures c.what_has_come_was_sent.ensures.was_sent c.what_has_come_was_sent.ensures.stays
    c.a_change_is_of_one_connection.ensures _ c.args.number (λ n. Send n (words_of c.args.command.now)) (Command (words_of c.args.command.now))
    c.index_mut.result.now c.send.new.self c.send.result ((λ limits connection n cause. (λ r. r, λ r. r)), (λ world n. (refl, refl)))
    (λ n. c.send.ensures.bytes) (λ i is. absurd (cc))
    (λ outcome. refl) c.index_mut.ensures.value c.send.ensures.takes c.send.ensures.memory c.send.ensures.may_be_sent)
