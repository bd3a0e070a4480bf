use Rattle.std.proofs.Common.{◌≡◌, ◌<◌, ◌≤◌, length, sym, ap, subst, ◌∙◌}
use Rattle.std.proofs.lemmas.Bool.{eqb-false}
use Rattle.resp_value.proofs.Choices.{positive}
use Rattle.resp_value.specs.DoubleStages.{stage_needs}
use Rattle.resp_scan.specs.Machine.Room.{total_room}
use Rattle.resp_scan.specs.Machine.Runs.{double_run}
use Rattle.resp_scan.specs.Machine.Fields.{place_of}
use Rattle.resp_scan.proofs.Soundness.Runs.{double_part, double_stops}
use Rattle.resp_scan.proofs.machine.Machine.double.Goals as goal

pub returns-then-run-gt0 : goal.returns-then-run-gt0
returns-then-run-gt0 c =
    rw (c.gives.ensures, c.requires) (sym (double_part (place_of c.args.self.now) c.args.self.now.room c.args.self.now.stage c.args.piece.now
    c.double_run-run.result (rw (← c.total_room.ensures.room) c.double_run-run.ensures.run) c.if-run-gt0.true))

pub returns-else-self-needs : goal.returns-else-self-needs
returns-else-self-needs c =
    let m = c.args.self.now in
    let piece = c.args.piece.now in
    let some : 0 < length piece = positive (length piece) (eqb-false (length piece) 0 (sym c.if-is_empty.ensures)) in
    let run : c.double_run-run.result ≡ double_run 0 (total_room (place_of m)) m.room m.stage piece =
    c.double_run-run.ensures.run ∙ ap (λ n. double_run 0 n m.room m.stage piece) c.total_room.ensures.room in
    let none : (double_run 0 (total_room (place_of m)) m.room m.stage piece).count ≤ 0 = subst (λ r. r.count ≤ 0) run c.if-run-gt0.false in
    let roomy : stage_needs c.in-Some.next < m.room = subst (λ n. n < m.room) c.needs.ensures.value c.if-self-needs.false in
    c.fail-else-self-needs.ensures ∙
    double_stops (place_of m) m.room m.stage c.in-Some.next piece some (sym c.after.ensures ∙ c.in-Some.is) roomy none
