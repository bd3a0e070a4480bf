use Rattle.std.proofs.Common.{rules, ◌≡◌, true, false, [], ◌∙◌}
use Rattle.resp_value.specs.Rules.{rules_under}
use Rattle.resp_scan.specs.Kinds.{rules_of}
use Rattle.resp_scan.specs.declared.event.ScanError.TheVariants as stop
use Rattle.resp_flat.proofs.PlacesRead.{begins_by, incomplete_by, never_stops, rejects_by}
use Rattle.resp_flat.proofs.in_place.stop_without_reply.Goals as goal

pub returns-else-scanned : goal.returns-else-scanned
returns-else-scanned c room =
    let part : c.in-Ok.scanned.is_whole ≡ false = search rules in
    incomplete_by (rules_under c.args.version c.args.limits.now) c.scan.new.self c.args.bytes.now
    (c.scan.ensures.same_rules ∙ c.new-scanner.ensures.rules)
    (c.in-Ok.ensures.used_up tt [] [] c.new-scanner.ensures.nothing_read tt part)

pub returns-then-scanned : goal.returns-then-scanned
returns-then-scanned c room = let whole : c.in-Ok.scanned.is_whole ≡ true = search rules in record {
  size = c.in-Ok.scanned.used;
  begins = begins_by (rules_under c.args.version c.args.limits.now) (rules_of c.new-scanner.result) c.scan.new.self c.args.bytes.now c.in-Ok.scanned.used
      c.new-scanner.ensures.rules c.in-Ok.ensures.within_piece
      (c.in-Ok.ensures.value_whole tt [] [] c.new-scanner.ensures.nothing_read tt whole);
  not_plain = c.requires;
}

pub returns-in-Err-Fault : goal.returns-in-Err-Fault
returns-in-Err-Fault c room =
    let is : c.in-Err-Fault.field-0 ≡ stop.Fault c.in-Err-Fault.fault = search rules in
    rejects_by (rules_under c.args.version c.args.limits.now) (rules_of c.new-scanner.result) c.args.bytes.now c.in-Err-Fault.fault c.in-Err-Fault.field-0
    c.new-scanner.ensures.rules is (c.in-Err-Fault.ensures.refusal tt [] [] c.new-scanner.ensures.nothing_read tt)

pub returns-in-Err-Stopped : goal.returns-in-Err-Stopped
returns-in-Err-Stopped c room =
    let is : c.in-Err-Stopped.field-0 ≡ stop.Stopped c.in-Err-Stopped.field-0-0 = search rules in
    absurd (never_stops (rules_of c.new-scanner.result) c.args.bytes.now c.in-Err-Stopped.field-0-0 c.in-Err-Stopped.field-0 is
    (c.in-Err-Stopped.ensures.stopped tt [] [] c.new-scanner.ensures.nothing_read tt))
