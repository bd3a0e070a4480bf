use Rattle.std.proofs.Common.{arith, drop}
use Rattle.resp_scan.specs.declared.event.TextKind.TheVariants as kind
use Rattle.resp_scan.proofs.CallClauses.Calls.{is_text}
use Rattle.resp_scan.proofs.CallClauses.Passing.{text_passes}
use Rattle.resp_scan.proofs.CallClauses.WholeTexts.{double_tells, run_is_double}
use Rattle.resp_scan.proofs.Soundness.Pieces.{few_taken, taken_within}
use Rattle.resp_scan.proofs.machine.Machine.tell_double.Goals as goal

pub beyond-after-requires : goal.beyond-after-requires
beyond-after-requires g c = taken_within c.args.taken c.args.self.now c.args.rest.now c.requires.whole

pub whole_double-requires : goal.whole_double-requires
whole_double-requires g c = omega (arith, few_taken c.args.taken c.args.self.now c.args.rest.now c.requires.whole)

pub tell_whole-requires-clause-few : goal.tell_whole-requires-clause-few
tell_whole-requires-clause-few g c = omega (arith, c.in-Some.ensures.few, few_taken c.args.taken c.args.self.now c.args.rest.now c.requires.whole)

pub tell_whole-requires-clause-is_text : goal.tell_whole-requires-clause-is_text
tell_whole-requires-clause-is_text g c =
    let found = rw c.beyond-after.ensures at c.in-Some.ensures.double in
    run_is_double _ _ c.in-Some.run' (drop c.args.taken.used c.args.rest.now) found.3

pub returns-in-Some : goal.returns-in-Some
returns-in-Some g c s sound out =
    let found = rw c.beyond-after.ensures at c.in-Some.ensures.double in
    text_passes _ _ s c.tell_whole.new.self c.args.rest.now _ kind.Double _
    (run_is_double _ _ c.in-Some.run' (drop c.args.taken.used c.args.rest.now) found.3)
    c.tell_whole.ensures.told
    (double_tells s c.args.self.now c.tell_whole.new.self c.args.taken c.in-Some.run' c.args.rest.now
    (is_text c.args.rest.now (λ i. (c.type_inv.rest i).fits)) sound c.requires.tag out found.0 found.1 found.2 found.3 c.tell_whole.ensures.machine)
