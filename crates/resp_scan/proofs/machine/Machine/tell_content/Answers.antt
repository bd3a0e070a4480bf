use Rattle.std.proofs.Common.{arith}
use Rattle.resp_scan.specs.declared.event.TextKind.TheVariants as kind
use Rattle.resp_scan.proofs.CallClauses.Calls.{is_text}
use Rattle.resp_scan.proofs.CallClauses.Passing.{text_passes}
use Rattle.resp_scan.proofs.CallClauses.WholeTexts.{content_tells}
use Rattle.resp_scan.proofs.Soundness.Pieces.{few_taken, taken_within}
use Rattle.resp_scan.proofs.machine.Machine.tell_content.Goals as goal

pub beyond-after-requires : goal.beyond-after-requires
beyond-after-requires g c = taken_within c.args.taken c.args.self.now c.args.rest.now c.requires.whole

pub tell_whole-requires-clause-few : goal.tell_whole-requires-clause-few
tell_whole-requires-clause-few g c = omega (arith, c.in-Some.ensures.few, few_taken c.args.taken c.args.self.now c.args.rest.now c.requires.whole)

pub tell-requires : goal.tell-requires
tell-requires g c = c.requires.whole

pub returns-in-Some : goal.returns-in-Some
returns-in-Some g c s sound out =
    let found = rw c.beyond-after.ensures at c.in-Some.ensures.content in
    text_passes _ _ s c.tell_whole.new.self c.args.rest.now _ kind.Bulk _ tt c.tell_whole.ensures.told
    (content_tells s c.args.self.now c.tell_whole.new.self c.args.taken c.in-Some.run' c.args.rest.now
    (is_text c.args.rest.now (λ i. (c.type_inv.rest i).fits)) sound c.requires.tag out found.0 found.1 c.tell_whole.ensures.machine)
