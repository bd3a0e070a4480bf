use Rattle.resp_scan.specs.Machine.Fields.{place_of}
use Rattle.resp_scan.proofs.CallClauses.Calls.{begin_due, is_text}
use Rattle.resp_scan.proofs.CallClauses.Passing.{sound_step, steps_are}
use Rattle.resp_scan.proofs.scanner.Scanner.step.Goals as goal

pub invariant_of-self : goal.invariant_of-self
invariant_of-self c =
    sound_step c.step.result (place_of c.self.inside.machine) c.step.new.self c.args.piece.now c.self.invariant
    c.step.ensures

pub returns-clause-no_event : goal.returns-clause-no_event
returns-clause-no_event c = rw (← c.self.view_is) ((steps_are c.step.result (place_of c.self.inside.machine)
    c.step.new.self c.args.piece.now
    (is_text c.args.piece.now (λ i. (c.type_inv.piece i).fits)) c.self.invariant c.step.ensures).no_event)

pub returns-clause-value_whole : goal.returns-clause-value_whole
returns-clause-value_whole c = rw (← c.self.view_is) ((steps_are c.step.result (place_of c.self.inside.machine)
    c.step.new.self c.args.piece.now
    (is_text c.args.piece.now (λ i. (c.type_inv.piece i).fits)) c.self.invariant c.step.ensures).value_whole)

pub returns-clause-another_event : goal.returns-clause-another_event
returns-clause-another_event c = rw (← c.self.view_is) ((steps_are c.step.result (place_of c.self.inside.machine)
    c.step.new.self c.args.piece.now
    (is_text c.args.piece.now (λ i. (c.type_inv.piece i).fits)) c.self.invariant c.step.ensures).another_event)

pub returns-clause-in_time : goal.returns-clause-in_time
returns-clause-in_time c = rw (← c.self.view_is) ((steps_are c.step.result (place_of c.self.inside.machine)
    c.step.new.self c.args.piece.now
    (is_text c.args.piece.now (λ i. (c.type_inv.piece i).fits)) c.self.invariant c.step.ensures).in_time)

pub returns-clause-refusal : goal.returns-clause-refusal
returns-clause-refusal c = rw (← c.self.view_is) ((steps_are c.step.result (place_of c.self.inside.machine)
    c.step.new.self c.args.piece.now
    (is_text c.args.piece.now (λ i. (c.type_inv.piece i).fits)) c.self.invariant c.step.ensures).refusal)

pub returns-clause-same_rules : goal.returns-clause-same_rules
returns-clause-same_rules c = rw (← c.self.view_is) ((steps_are c.step.result (place_of c.self.inside.machine)
    c.step.new.self c.args.piece.now
    (is_text c.args.piece.now (λ i. (c.type_inv.piece i).fits)) c.self.invariant c.step.ensures).same_rules)

pub returns-clause-fault_is_kept : goal.returns-clause-fault_is_kept
returns-clause-fault_is_kept c = (steps_are c.step.result (place_of c.self.inside.machine) c.step.new.self
    c.args.piece.now
    (is_text c.args.piece.now (λ i. (c.type_inv.piece i).fits)) c.self.invariant c.step.ensures).fault_is_kept

pub returns-clause-first_of_those_due : goal.returns-clause-first_of_those_due
returns-clause-first_of_those_due c = rw (← c.self.view_is) (λ front es w. begin_due (place_of c.self.inside.machine) front es c.self.invariant w)
