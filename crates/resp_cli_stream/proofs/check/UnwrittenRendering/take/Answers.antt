use Rattle.std.proofs.Common.{rules, ◌≡◌, subst}
use Rattle.resp_scan.specs.Listening.{HearsRefusal, OnFault, OnStopped, StopsAfter}
use Rattle.resp_scan.specs.declared.event.ScanError.TheVariants as stop
use Rattle.resp_scan.specs.Kinds.{rules_of}
use Rattle.resp_scan.specs.Reading.{Events}
use Rattle.resp_cli_stream.proofs.Scanned.{looks_on, looks_refused}
use Rattle.resp_cli_stream.proofs.check.UnwrittenRendering.take.Goals as goal

pub returns-in-Ok-clause-takes : goal.returns-in-Ok-clause-takes
returns-in-Ok-clause-takes g c = λ front so_far looked.
    looks_on (rules_of c.args.self.now.scanner) c.args.self.now.scanner c.scan.new.self (λ (es : Events). Unit {0}) front c.args.piece.now so_far
    (g.W.Sink.written c.args._writer.now) c.in-Ok.scanned looked (λ given reads. c.in-Ok.ensures.value_whole tt front given reads tt)
    (λ given reads. c.in-Ok.ensures.used_up tt front given reads tt) c.in-Ok.ensures.whole_piece c.in-Ok.ensures.same_rules

pub returns-in-Err-Fault-clause-takes : goal.returns-in-Err-Fault-clause-takes
returns-in-Err-Fault-clause-takes g c = λ front so_far looked.
    let r = rules_of c.args.self.now.scanner in
    let heard = λ (es : Events). Unit {0} in
    let is : c.in-Err-Fault.field-0 ≡ stop.Fault c.in-Err-Fault.fault = search rules in
    looks_refused r c.args.self.now.scanner heard front c.args.piece.now so_far (g.W.Sink.written c.args._writer.now) c.in-Err-Fault.fault
    looked
    (λ given reads. subst (λ z. OnFault z (HearsRefusal r heard front c.args.piece.now)) is (c.in-Err-Fault.ensures.refusal tt front given reads tt))

-- a listener that never stops doesn't
pub unreachable-requires : goal.unreachable-requires
unreachable-requires g c =
    let (front, so_far, looked) = c.requires in
    let ((given, scanned), nothing) = looked in
    let r = rules_of c.args.self.now.scanner in
    let is : c.in-Err-Stopped.field-0 ≡ stop.Stopped c.in-Err-Stopped.field-0-0 = search rules in
    let stops = subst (λ z. OnStopped z (StopsAfter r (λ (es : Events). ⊥) front c.args.piece.now)) is
    (c.in-Err-Stopped.ensures.stopped tt front given scanned.reads tt) in
    stops.has_stopped
