use Rattle.std.proofs.Common.{◌≡◌, Bool, false, map, refl, rules, true}
use Rattle.std.specs.Bool.{OnFalse}
use Rattle.resp_value.specs.Commands.{words_of}
use Rattle.resp_value.specs.Values.{datum_of, list_of}
use Rattle.resp_session.specs.Worlds as session
use Rattle.resp_wire.specs.Worlds.{event_of}
use Rattle.resp_wire.proofs.worlds.Performed.{of_nobody, of_number}
use Rattle.resp_wire.proofs.world.World.happen.Goals as goal

when_false : (b : Bool) (P : Type 0) → b ≡ false → OnFalse b P → P
when_false true P is p = absurd (cc)
when_false false P is p = p

pub returns-then-not-is_open : goal.returns-then-not-is_open
returns-then-not-is_open g c =
    let event = event_of c.args.event.now in
    of_nobody g.L.Link.is_honest g.L.Link.failures g.L.Link.traffic c.args.self.now event
    (when_false c.is_open.result _ (search rules) c.is_open.ensures.gone event c.client-number.ensures)

pub returns-in-Hello : goal.returns-in-Hello
returns-in-Hello g c = of_number (λ n. session.Greet n c.in-Hello.asked) c.client-number.ensures c.in-Hello.is refl c.hello.ensures

pub returns-in-Send : goal.returns-in-Send
returns-in-Send g c = of_number (λ n. session.Send n (words_of c.in-Send.command)) c.client-number.ensures c.in-Send.is refl c.send.ensures

pub returns-in-ToServer : goal.returns-in-ToServer
returns-in-ToServer g c = of_number (λ n. session.ToServer n c.in-ToServer.count) c.client-number.ensures c.in-ToServer.is refl c.to_server.ensures

pub returns-in-Push : goal.returns-in-Push
returns-in-Push g c = of_number (λ n. session.Push n (map datum_of (list_of c.in-Push.items))) c.client-number.ensures c.in-Push.is refl c.push.ensures

pub returns-in-ToClient : goal.returns-in-ToClient
returns-in-ToClient g c = of_number (λ n. session.ToClient n c.in-ToClient.count) c.client-number.ensures c.in-ToClient.is refl c.to_client.ensures

pub returns-in-Drop : goal.returns-in-Drop
returns-in-Drop g c = of_number (λ n. session.Drop n) c.client-number.ensures c.in-Drop.is refl c.drop_client.ensures
