use Rattle.std.proofs.Common.{subst, sym, ◌∙◌}
use Rattle.resp_scan.specs.Machine.Fields.{place_of}
use Rattle.resp_scan.proofs.CallClauses.SlotSteps.{turn_fills}
use Rattle.resp_scan.proofs.machine.Machine.step_into.Goals as goal

pub returns : goal.returns
returns g c =
    let slot = c.advance.new.receiver.slot in
    turn_fills _ _ (g.S.Slot.shows slot.now) _ (g.S.Slot.shows_text slot.now) _ _ (place_of c.args.self.now) c.advance.new.self
    c.args.piece.now c.advance.result
    (λ same x shows. subst (λ slot. g.S.Slot.shows slot x) (sym (c.slot-1.given.1 same)) shows)
    (λ same k bytes shows. subst (λ slot. g.S.Slot.shows_text slot k bytes) (sym (c.slot-1.given.1 same)) shows)
    (λ same left. c.slot-1.given.1 same ∙ left) c.advance.ensures
