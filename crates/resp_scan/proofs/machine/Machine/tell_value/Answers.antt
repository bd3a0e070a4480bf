use Rattle.std.proofs.Common.{ap, sym, refl, ◌∙◌, arith, drop}
use Rattle.resp_scan.specs.declared.event.TextKind.TheVariants as kind
use Rattle.resp_scan.specs.declared.machine.EventTag.TheVariants as tag
use Rattle.resp_scan.specs.Machine.Fields.{place_of}
use Rattle.resp_scan.specs.Machine.Scan.{scan}
use Rattle.resp_scan.specs.Machine.Tokens.{AtStart, at}
use Rattle.resp_scan.proofs.CallClauses.Calls.{is_text}
use Rattle.resp_scan.proofs.CallClauses.Passing.{text_passes}
use Rattle.resp_scan.proofs.CallClauses.WholeTexts.{content_tells, line_tells, line_text_is, run_is_line}
use Rattle.resp_scan.proofs.Soundness.Pieces.{few_taken}
use Rattle.resp_scan.proofs.machine.Machine.tell_value.Goals as goal

pub tell_whole-requires-clause-few : goal.tell_whole-requires-clause-few
tell_whole-requires-clause-few g c = omega (
  arith,
  c.in-Some.ensures.ends.0,
  few_taken (record { used = c.in-Some.short.head; tag = tag.Bulk }) c.short_text.new.self c.args.rest.now
      (c.requires.from.0, c.requires.from.1, c.in-Some.ensures.begun ∙ sym c.requires.from.2),
)

pub returns-in-Some : goal.returns-in-Some
returns-in-Some g c s sound from =
    text_passes _ _ s c.tell_whole.new.self c.args.rest.now _ kind.Bulk _ tt c.tell_whole.ensures.told
    (content_tells s c.short_text.new.self c.tell_whole.new.self (record { used = c.in-Some.short.head; tag = tag.Bulk }) c.in-Some.short.count
    c.args.rest.now (is_text c.args.rest.now (λ i. (c.type_inv.rest i).fits)) sound refl (c.in-Some.ensures.begun ∙ sym from)
    c.in-Some.ensures.ends.3 c.in-Some.ensures.ends.4 c.tell_whole.ensures.machine)

pub tell_whole-requires-in-Some-short_line-clause-few : goal.tell_whole-requires-in-Some-short_line-clause-few
tell_whole-requires-in-Some-short_line-clause-few g c =
    let begun = c.in-Some-short_line.ensures.begun ∙ ap (λ m. scan 0 (at (place_of m) AtStart) c.args.rest.now) c.in_default.ensures.unchanged in
    omega (
      arith,
      c.in-Some-short_line.ensures.line.0,
      few_taken (record { used = 1; tag = tag.Simple }) c.short_line.new.self c.args.rest.now
          (c.requires.from.0, c.requires.from.1, begun ∙ sym c.requires.from.2),
    )

pub tell_whole-requires-in-Some-short_line-clause-is_text : goal.tell_whole-requires-in-Some-short_line-clause-is_text
tell_whole-requires-in-Some-short_line-clause-is_text g c =
    line_text_is tag.Simple kind.Simple _ refl (run_is_line (drop 1 c.args.rest.now) _ c.in-Some-short_line.run' c.in-Some-short_line.ensures.line.4)

pub returns-in-Some-short_line : goal.returns-in-Some-short_line
returns-in-Some-short_line g c s sound from =
    let begun = c.in-Some-short_line.ensures.begun ∙ ap (λ m. scan 0 (at (place_of m) AtStart) c.args.rest.now) c.in_default.ensures.unchanged in
    let told = c.tell_whole-in-Some-short_line in
    let line = c.in-Some-short_line.ensures.line in
    text_passes _ _ s told.new.self c.args.rest.now _ kind.Simple _
    (line_text_is tag.Simple kind.Simple _ refl (run_is_line (drop 1 c.args.rest.now) _ c.in-Some-short_line.run' line.4)) told.ensures.told
    (line_tells s c.short_line.new.self told.new.self (record { used = 1; tag = tag.Simple }) c.in-Some-short_line.run' kind.Simple c.args.rest.now
    (is_text c.args.rest.now (λ i. (c.type_inv.rest i).fits)) sound refl (begun ∙ sym from) line.2 line.3 line.4 told.ensures.machine)
