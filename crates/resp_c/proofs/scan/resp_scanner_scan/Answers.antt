use Rattle.std.proofs.Common.{Some, refl, ap, sym, subst, ◌∙◌, arith}
use Rattle.std.proofs.lemmas.Option.{same_Some}
use Rattle.resp_value.specs.Causes.{number_of}
use Rattle.resp_scan.specs.Reading.{IsFaulted}
use Rattle.resp_c.proofs.ManyEvents.{final_so_far, refused_so_far, shown_so_far, sliced, used_up_so_far}
use Rattle.resp_c.proofs.scan.resp_scanner_scan.Goals as goal

pub loop-event-preserved : goal.loop-event-preserved
loop-event-preserved c =
    shown_so_far _ _ _ _ _ _ _ _ _ _ _ c.step_into.new.slot c.loop-event.invariant (omega (arith, c.loop-event-test.true))
    (omega (arith, c.loop-event.auto.events)) (sliced c.in-Ok-Some.used c.loop-event.rest.now) (rw c.in-Ok-Some.field-0-is at c.in-Ok-Some.ensures.shown)

pub returns-in-Ok-None-clause-used_up : goal.returns-in-Ok-None-clause-used_up
returns-in-Ok-None-clause-used_up c none few = (
  refl,
  record {
    old = c.scanner-scanner.result.now;
    new = c.step_into.new.self;
    was = c.scanner-scanner.ensures.value;
    is = refl;
    holds = used_up_so_far _ _ _ _ _ _ _ _ _ c.step_into.new.slot c.loop-event.invariant
        (rw c.in-Ok-None.field-0-is at c.in-Ok-None.ensures.used_up);
  },
)

pub returns-in-Err-clause-refused : goal.returns-in-Err-clause-refused
returns-in-Err-clause-refused c some =
    let steps = c.in-Err.ensures.refused in
    let told = refused_so_far _ _ _ _ _ _ _ _ _ c.step_into.new.slot c.in-Err.fault c.loop-event.invariant steps in (
      c.in-Err.fault,
      c.number.ensures,
      told.0,
      record {
        old = c.scanner-scanner.result.now;
        new = c.step_into.new.self;
        was = c.scanner-scanner.ensures.value;
        is = refl;
        holds = (steps.fault_is_kept, told.1);
      },
    )

-- the scanner that lies there answers the fault that stands
pub returns-in-Err-clause-fault_is_final : goal.returns-in-Err-clause-fault_is_final
returns-in-Err-clause-fault_is_final c place held fault faulted some =
    let same = same_Some place c.scanner-scanner.result.now (sym held ∙ c.scanner-scanner.ensures.value) in
    let told = final_so_far _ _ _ _ _ _ _ _ _ fault c.in-Err.fault c.loop-event.invariant c.in-Err.ensures.refused
    (subst (λ p. IsFaulted p fault) same faulted) in
    (c.number.ensures ∙ ap (λ x. number_of x.cause) told.0, told.1, ap Some told.2 ∙ sym c.scanner-scanner.ensures.value)
