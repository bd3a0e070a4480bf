use Rattle.std.proofs.Common.{rules, refl, ◌+◌, length, Some, None, ap, sym, ◌∙◌, arith}
use Rattle.std.proofs.lemmas.List.{length-take-le}
use Rattle.resp_scan.specs.declared.event.Event.TheVariants as event
use Rattle.resp_scan.specs.declared.event.TextKind.TheVariants as text
use Rattle.resp_scan.specs.declared.machine.EventTag.TheVariants as tag
use Rattle.resp_scan.specs.Machine.StepOutcomes.{after_bytes}
use Rattle.resp_scan.proofs.CallClauses.Passing.{done_answers, event_answers, failed_answers, more_answers, step_passes}
use Rattle.resp_scan.proofs.CallClauses.Told.{digit_heard, digit_is, part_heard, run_is, run_length}
use Rattle.resp_scan.proofs.Soundness.Pieces.{chunk_part_some, digit_owed, few_taken, part_some, taken_within, used_within}
use Rattle.resp_scan.proofs.machine.Machine.tell.Goals as goal

pub overflow_add-self : goal.overflow_add-self
overflow_add-self g c = omega (arith, few_taken c.args.taken c.args.self.now c.args.rest.now c.requires)

pub slice_bounds-take_part-end : goal.slice_bounds-take_part-end
slice_bounds-take_part-end g c = sym (length-take-le _ _ (taken_within c.args.taken c.args.self.now c.args.rest.now c.requires))

pub run-part-requires-clause-start : goal.run-part-requires-clause-start
run-part-requires-clause-start g c = omega (
  arith,
  chunk_part_some c.args.taken c.args.self.now c.requires.0 c.args.rest.now c.requires.1 c.requires.2 c.in-ChunkPart.is,
)

pub run-part-requires-clause-within : goal.run-part-requires-clause-within
run-part-requires-clause-within g c = taken_within c.args.taken c.args.self.now c.args.rest.now c.requires

pub digit_text-requires : goal.digit_text-requires
digit_text-requires g c = (digit_owed c.args.taken c.args.self.now c.requires.0 c.args.rest.now c.requires.1 c.requires.2 c.in-Digit.is).1

pub take_part-requires : goal.take_part-requires
take_part-requires g c =
    let u = used_within c.args.taken c.args.self.now c.requires.0 c.args.rest.now c.requires.1 c.requires.2 in
    let some = part_some c.args.taken c.args.self.now c.requires.0 c.args.rest.now c.requires.1 c.requires.2 c.in-Part.is in
    omega (arith, some, length-take-le c.args.taken.used c.args.rest.now u.0)

pub take_part-requires-in-ChunkPart : goal.take_part-requires-in-ChunkPart
take_part-requires-in-ChunkPart g c =
    let u = used_within c.args.taken c.args.self.now c.requires.0 c.args.rest.now c.requires.1 c.requires.2 in
    let some = chunk_part_some c.args.taken c.args.self.now c.requires.0 c.args.rest.now c.requires.1 c.requires.2 c.in-ChunkPart.is in
    omega (arith, ap length c.run-part.ensures, some, run_length c.args.taken.used c.args.self.now.part_start c.args.rest.now some u.0)

pub take_part-requires-in-Digit : goal.take_part-requires-in-Digit
take_part-requires-in-Digit g c = omega (arith, ap length c.digit_text.ensures)

pub returns-in-More : goal.returns-in-More
returns-in-More g c s sound out =
    step_passes (more_answers c.args.taken c.args.self.now s c.args.rest.now sound out c.in-More.is) c.take_end.ensures

pub returns-in-Failed : goal.returns-in-Failed
returns-in-Failed g c s sound out =
    step_passes (failed_answers c.args.taken c.args.self.now s c.args.rest.now sound out c.in-Failed.is)
    c.take_fault.ensures

pub returns-in-Done : goal.returns-in-Done
returns-in-Done g c s sound out =
    step_passes (done_answers c.args.taken c.args.self.now s c.args.rest.now sound out c.in-Done.is) c.take_done.ensures

pub returns-in-Null : goal.returns-in-Null
returns-in-Null g c s sound out =
    step_passes (event_answers c.args.taken c.args.self.now s c.args.rest.now tag.Null event.Null sound out c.in-Null.is
    refl tt) c.take_null.ensures

pub returns-in-Bool : goal.returns-in-Bool
returns-in-Bool g c s sound out =
    step_passes (event_answers c.args.taken c.args.self.now s c.args.rest.now tag.Bool
    (event.Bool c.args.self.now.truth) sound out c.in-Bool.is refl tt) c.take_truth.ensures

pub returns-in-Simple : goal.returns-in-Simple
returns-in-Simple g c s sound out =
    step_passes (event_answers c.args.taken c.args.self.now s c.args.rest.now tag.Simple (event.Text text.Simple) sound
    out c.in-Simple.is refl tt) c.take_text.ensures

pub returns-in-Error : goal.returns-in-Error
returns-in-Error g c s sound out =
    step_passes (event_answers c.args.taken c.args.self.now s c.args.rest.now tag.Error (event.Text text.Error) sound
    out c.in-Error.is refl tt) c.take_text-in-Error.ensures

pub returns-in-Double : goal.returns-in-Double
returns-in-Double g c s sound out =
    step_passes (event_answers c.args.taken c.args.self.now s c.args.rest.now tag.Double (event.Text text.Double) sound
    out c.in-Double.is refl tt) c.take_text-in-Double.ensures

pub returns-in-Bulk : goal.returns-in-Bulk
returns-in-Bulk g c s sound out =
    step_passes (event_answers c.args.taken c.args.self.now s c.args.rest.now tag.Bulk (event.Text text.Bulk) sound out
    c.in-Bulk.is refl tt) c.take_text-in-Bulk.ensures

pub returns-in-BulkError : goal.returns-in-BulkError
returns-in-BulkError g c s sound out =
    step_passes (event_answers c.args.taken c.args.self.now s c.args.rest.now tag.BulkError (event.Text text.BulkError)
    sound out c.in-BulkError.is refl tt) c.take_text-in-BulkError.ensures

pub returns-in-Verbatim : goal.returns-in-Verbatim
returns-in-Verbatim g c s sound out =
    step_passes (event_answers c.args.taken c.args.self.now s c.args.rest.now tag.Verbatim
    (event.Text (text.Verbatim c.args.self.now.format)) sound out c.in-Verbatim.is refl tt)
    c.take_text-in-Verbatim.ensures

pub returns-in-Big : goal.returns-in-Big
returns-in-Big g c s sound out =
    step_passes (event_answers c.args.taken c.args.self.now s c.args.rest.now tag.Big
    (event.Text (text.Big c.args.self.now.big_negative)) sound out c.in-Big.is refl tt) c.take_text-in-Big.ensures

pub returns-in-TextEnd : goal.returns-in-TextEnd
returns-in-TextEnd g c s sound out =
    step_passes (event_answers c.args.taken c.args.self.now s c.args.rest.now tag.TextEnd event.TextEnd sound out
    c.in-TextEnd.is refl tt) c.take_text_end.ensures

pub returns-in-Open : goal.returns-in-Open
returns-in-Open g c s sound out =
    step_passes (event_answers c.args.taken c.args.self.now s c.args.rest.now tag.Open
    (event.Open c.args.self.now.kind (Some c.args.self.now.count)) sound out c.in-Open.is refl tt) c.take_open.ensures

pub returns-in-OpenStreamed : goal.returns-in-OpenStreamed
returns-in-OpenStreamed g c s sound out =
    step_passes (event_answers c.args.taken c.args.self.now s c.args.rest.now tag.OpenStreamed
    (event.Open c.args.self.now.kind None) sound out c.in-OpenStreamed.is refl tt) c.take_open-in-OpenStreamed.ensures

pub returns-in-Close : goal.returns-in-Close
returns-in-Close g c s sound out =
    step_passes (event_answers c.args.taken c.args.self.now s c.args.rest.now tag.Close event.Close sound out
    c.in-Close.is refl tt) c.take_close.ensures

pub returns-in-Int : goal.returns-in-Int
returns-in-Int g c s sound out =
    step_passes (event_answers c.args.taken c.args.self.now s c.args.rest.now tag.Int _ sound out c.in-Int.is
    (search rules) tt) c.take_int.ensures

pub returns-in-Part : goal.returns-in-Part
returns-in-Part g c s sound out =
    let taken = c.args.taken in
    let p = c.args.rest.now in
    let some = part_some taken c.args.self.now s p sound out c.in-Part.is in
    let within = (used_within taken c.args.self.now s p sound out).0 in
    step_passes (event_answers taken c.args.self.now s p tag.Part _ sound out c.in-Part.is
    (part_heard taken.used 0 _ (after_bytes taken.used _) some (run_length taken.used 0 p some within))
    (run_is taken.used 0 p _ some within refl)) c.take_part.ensures

pub returns-in-ChunkPart : goal.returns-in-ChunkPart
returns-in-ChunkPart g c s sound out =
    let taken = c.args.taken in
    let m = c.args.self.now in
    let p = c.args.rest.now in
    let part = c.run-part.result.now in
    let some = chunk_part_some taken m s p sound out c.in-ChunkPart.is in
    let within = (used_within taken m s p sound out).0 in
    step_passes (event_answers taken m s p tag.ChunkPart _ sound out c.in-ChunkPart.is
    (part_heard taken.used m.part_start part (after_bytes taken.used _) (omega (arith, some))
    (ap (λ v. length v + m.part_start) c.run-part.ensures ∙ run_length taken.used m.part_start p some within))
    (run_is taken.used m.part_start p part some within c.run-part.ensures)) c.take_part-in-ChunkPart.ensures

pub returns-in-Digit : goal.returns-in-Digit
returns-in-Digit g c s sound out =
    let taken = c.args.taken in
    let m = c.args.self.now in
    let p = c.args.rest.now in
    let digit = c.digit_text.result.now in
    let none = (digit_owed taken m s p sound out c.in-Digit.is).0 in
    step_passes (event_answers taken m s p tag.Digit _ sound out c.in-Digit.is
    (digit_heard taken.used m.digit digit (after_bytes taken.used _) none c.digit_text.ensures)
    (digit_is taken.used m.digit p digit none c.digit_text.ensures)) c.take_part-in-Digit.ensures
