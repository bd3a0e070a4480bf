use Rattle.resp_scan.specs.Machine.Fields.{place_of}
use Rattle.resp_scan.proofs.CallClauses.Calls.{is_text}
use Rattle.resp_scan.proofs.CallClauses.SlotSteps.{is_filled, sound_after}
use Rattle.resp_scan.proofs.scanner.Scanner.step_into.Goals as goal

pub invariant_of-self : goal.invariant_of-self
invariant_of-self g c = sound_after _ _ _ c.step_into.result (place_of c.self.inside.machine) c.step_into.new.self c.args.piece.now c.self.invariant
    c.step_into.ensures

pub returns-clause-shown : goal.returns-clause-shown
returns-clause-shown g c = rw (← c.self.view_is) ((is_filled _ _ _ c.step_into.result (place_of c.self.inside.machine) c.step_into.new.self c.args.piece.now
    (is_text c.args.piece.now (λ i. (c.type_inv.piece i).fits)) c.self.invariant c.step_into.ensures).shown)

pub returns-clause-used_up : goal.returns-clause-used_up
returns-clause-used_up g c = rw (← c.self.view_is) ((is_filled _ _ _ c.step_into.result (place_of c.self.inside.machine) c.step_into.new.self
    c.args.piece.now (is_text c.args.piece.now (λ i. (c.type_inv.piece i).fits)) c.self.invariant c.step_into.ensures).used_up)

pub returns-clause-refused : goal.returns-clause-refused
returns-clause-refused g c = rw (← c.self.view_is) ((is_filled _ _ _ c.step_into.result (place_of c.self.inside.machine) c.step_into.new.self
    c.args.piece.now (is_text c.args.piece.now (λ i. (c.type_inv.piece i).fits)) c.self.invariant c.step_into.ensures).refused)

pub returns-clause-slot_is_left : goal.returns-clause-slot_is_left
returns-clause-slot_is_left g c = (is_filled _ _ _ c.step_into.result (place_of c.self.inside.machine) c.step_into.new.self c.args.piece.now
    (is_text c.args.piece.now (λ i. (c.type_inv.piece i).fits)) c.self.invariant c.step_into.ensures).left
