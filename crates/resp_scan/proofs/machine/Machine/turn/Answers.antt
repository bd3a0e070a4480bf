use Rattle.std.proofs.Common.{subst, sym}
use Rattle.resp_scan.specs.Machine.Fields.{place_of}
use Rattle.resp_scan.proofs.CallClauses.Calls.{is_text}
use Rattle.resp_scan.proofs.CallClauses.Passing.{turn_is}
use Rattle.resp_scan.proofs.machine.Machine.turn.Goals as goal

pub returns-clause-is_turn : goal.returns-clause-is_turn
returns-clause-is_turn g c =
    (turn_is (place_of c.args.self.now) c.advance.new.self c.args.rest.now (g.L.Listener.has_heard c.args.listener.now)
    (g.L.Listener.has_heard c.advance.new.receiver) (g.L.Listener.has_stopped c.advance.new.receiver) _ c.advance.result
    (is_text c.args.rest.now (λ i. (c.type_inv.rest i).fits)) c.requires
    (λ left since given had. subst (λ l. g.L.Listener.has_heard l since given) (sym left) had) c.advance.ensures).0

pub returns-clause-failed : goal.returns-clause-failed
returns-clause-failed g c =
    (turn_is (place_of c.args.self.now) c.advance.new.self c.args.rest.now (g.L.Listener.has_heard c.args.listener.now)
    (g.L.Listener.has_heard c.advance.new.receiver) (g.L.Listener.has_stopped c.advance.new.receiver) _ c.advance.result
    (is_text c.args.rest.now (λ i. (c.type_inv.rest i).fits)) c.requires
    (λ left since given had. subst (λ l. g.L.Listener.has_heard l since given) (sym left) had) c.advance.ensures).1
