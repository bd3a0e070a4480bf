use Rattle.std.proofs.Common.{rules, refl, ◌+◌, length, Some, None, ap, sym, ◌∙◌, arith}
use Rattle.std.proofs.lemmas.List.{length-take-le}
use Rattle.resp_scan.specs.declared.event.Event.TheVariants as event
use Rattle.resp_scan.specs.declared.event.TextKind.TheVariants as text
use Rattle.resp_scan.specs.declared.machine.EventTag.TheVariants as tag
use Rattle.resp_scan.specs.Machine.StepOutcomes.{after_bytes}
use Rattle.resp_scan.specs.Machine.Fields.{place_of}
use Rattle.resp_scan.proofs.Soundness.Pieces.{chunk_part_some, digit_owed, few_taken, part_some, taken_within, used_within}
use Rattle.resp_scan.proofs.CallClauses.Passing.{done_answers, event_answers, failed_answers, more_answers}
use Rattle.resp_scan.proofs.CallClauses.Told.{part_heard, digit_heard, run_length, run_is, digit_is}
use Rattle.resp_scan.proofs.machine.Machine.answer.Goals as goal
use Rattle.resp_scan.proofs.machine.Machine.answer.Goals.{in-More, in-Null, in-Bool, in-Int, in-Simple, in-Error, in-Double, in-Bulk, in-BulkError, in-Verbatim, in-Big, in-Part, in-ChunkPart, in-Digit, in-TextEnd, in-Open, in-OpenStreamed, in-Close, in-Done}

pub overflow_add-self : goal.overflow_add-self
overflow_add-self c = omega (arith, few_taken c.args.got c.args.self.now c.args.piece.now c.requires)

pub returns-in-Failed : goal.returns-in-Failed
returns-in-Failed c s h e = failed_answers c.args.got c.args.self.now s c.args.piece.now h e c.in-Failed.is

pub slice_bounds-event-end : goal.slice_bounds-event-end
slice_bounds-event-end c = sym (length-take-le _ _ (taken_within c.args.got c.args.self.now c.args.piece.now c.requires))

pub run-requires-clause-start : goal.run-requires-clause-start
run-requires-clause-start c = omega (
  arith,
  chunk_part_some c.args.got c.args.self.now c.requires.0 c.args.piece.now c.requires.1 c.requires.2
      c.in-ChunkPart.is,
)

pub run-requires-clause-within : goal.run-requires-clause-within
run-requires-clause-within c = taken_within c.args.got c.args.self.now c.args.piece.now c.requires

pub digit_text-requires : goal.digit_text-requires
digit_text-requires c = (digit_owed c.args.got c.args.self.now c.requires.0 c.args.piece.now c.requires.1 c.requires.2 c.in-Digit.is).1

pub returns : goal.returns
returns c s h e =
    let g = c.args.got in
    let m = c.args.self.now in
    let p = c.args.piece.now in
    let u = used_within g m s p h e in
    elim c.match-got.branch [
      | in-More w ↦ rw w.event-is (more_answers g m s p h e w.in-More.is)
      | in-Null w ↦ rw w.event-is (event_answers g m s p tag.Null event.Null h e w.in-Null.is refl tt)
      | in-Bool w ↦ rw w.event-is (event_answers g m s p tag.Bool (event.Bool m.truth) h e w.in-Bool.is refl tt)
      | in-Int w ↦ rw w.event-is (event_answers g m s p tag.Int _ h e w.in-Int.is (search rules) tt)
      | in-Simple w ↦ rw w.event-is (event_answers g m s p tag.Simple (event.Text text.Simple) h e w.in-Simple.is refl
          tt)
      | in-Error w ↦ rw w.event-is (event_answers g m s p tag.Error (event.Text text.Error) h e w.in-Error.is refl tt)
      | in-Double w ↦ rw w.event-is (event_answers g m s p tag.Double (event.Text text.Double) h e w.in-Double.is refl
          tt)
      | in-Bulk w ↦ rw w.event-is (event_answers g m s p tag.Bulk (event.Text text.Bulk) h e w.in-Bulk.is refl tt)
      | in-BulkError w ↦ rw w.event-is (event_answers g m s p tag.BulkError (event.Text text.BulkError) h e
          w.in-BulkError.is refl tt)
      | in-Verbatim w ↦ rw w.event-is (event_answers g m s p tag.Verbatim (event.Text (text.Verbatim m.format)) h e
          w.in-Verbatim.is refl tt)
      | in-Big w ↦ rw w.event-is (event_answers g m s p tag.Big (event.Text (text.Big m.big_negative)) h e w.in-Big.is
          refl tt)
      | in-Part w ↦ let some = part_some g m s p h e w.in-Part.is in
          rw w.event-is (event_answers g m s p tag.Part _ h e w.in-Part.is
          (part_heard g.used 0 _ (after_bytes g.used (place_of m)) some (run_length g.used 0 p some u.0))
          (run_is g.used 0 p _ some u.0 refl))
      | in-ChunkPart w ↦ let some = chunk_part_some g m s p h e w.in-ChunkPart.is in
          rw w.event-is (event_answers g m s p tag.ChunkPart (event.Part w.run.result) h e w.in-ChunkPart.is
          (part_heard g.used m.part_start w.run.result.now (after_bytes g.used (place_of m)) (omega (arith, some))
          (ap (λ v. length v + m.part_start) w.run.ensures ∙ run_length g.used m.part_start p some u.0))
          (run_is g.used m.part_start p w.run.result.now some u.0 w.run.ensures))
      | in-Digit w ↦ let none = (digit_owed g m s p h e w.in-Digit.is).0 in
          rw w.event-is (event_answers g m s p tag.Digit (event.Part w.digit_text.result) h e w.in-Digit.is
          (digit_heard g.used m.digit w.digit_text.result.now (after_bytes g.used (place_of m)) none
          w.digit_text.ensures)
          (digit_is g.used m.digit p w.digit_text.result.now none w.digit_text.ensures))
      | in-TextEnd w ↦ rw w.event-is (event_answers g m s p tag.TextEnd event.TextEnd h e w.in-TextEnd.is refl tt)
      | in-Open w ↦ rw w.event-is (event_answers g m s p tag.Open (event.Open m.kind (Some m.count)) h e w.in-Open.is
          refl tt)
      | in-OpenStreamed w ↦ rw w.event-is (event_answers g m s p tag.OpenStreamed (event.Open m.kind None) h e
          w.in-OpenStreamed.is refl tt)
      | in-Close w ↦ rw w.event-is (event_answers g m s p tag.Close event.Close h e w.in-Close.is refl tt)
      | in-Done w ↦ rw w.event-is (done_answers g m s p h e w.in-Done.is)
    ]
